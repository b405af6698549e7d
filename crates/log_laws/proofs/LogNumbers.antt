-- The number that an application has come to by a lawful log is the one told last of it.
use Rattle.std.proofs.Common.{◌≡◌, ℕ, Bool, List, [], ◌∷◌, ◌++◌, map, filter, refl, ap, ◌∙◌, inl, inr, bytes_eq, flat_map}
use Rattle.std.specs.Prelude.{option_and_then, option_map}
use Rattle.std.specs.List.{filter_map}
use Rattle.std.proofs.lemmas.Bool.{cases_Bool}
use Rattle.std.proofs.lemmas.List.{map-append}
use Rattle.std.proofs.lemmas.List.Elements.{filter_map-append}
use Rattle.store_core.specs.Objects.{Objects}
use Rattle.delta_actions.specs.Action as actions
use Rattle.delta_actions.specs.Action.{txn, TxnAction}
use Rattle.delta_actions.specs.In.{txn_in}
use Rattle.delta_replay.specs.Keys as keys
use Rattle.delta_replay.specs.Keys.{number_of, is_of, actions_of, kept, last_number}
use Rattle.table_model.specs.Table.{Entry, last_item, last_told}
use Rattle.table_model.proofs.Callers.{last_number as last_by}
use Rattle.table_store.specs.Groups.{numbers}
use Rattle.table_store.specs.LawfulLogs.{numbers_of}
use Rattle.table_store.specs.Schema.{Schema}
use Rattle.table_store.proofs.LawfulLogLemmas.{AreMadeFor, numbers_by_log}

-- the action is the application's
abbrev is_own : List ℕ → TxnAction → Bool
is_own application t = bytes_eq t.app_id application

-- the actions that tell an application's number are its `txn` actions
own_txns : (application : List ℕ) (made : List actions.Action) → filter (is_of (number_of application)) made ≡ map txn (filter (is_own application) (filter_map txn_in made))
own_txns application [] = refl
own_txns application (txn t ∷ made) =
    elim (cases_Bool (bytes_eq t.app_id application)) [
      | inl own ↦ rw own (ap (λ (es : List actions.Action). txn t ∷ es) (own_txns application made))
      | inr other ↦ rw other (own_txns application made)
    ]
own_txns application (_ ∷ made) = own_txns application made

-- the last of them tells the last of their numbers
last_version : (ts : List TxnAction) → option_map (λ t. t.version) (option_and_then txn_in (kept (keys.last (map txn ts)))) ≡ last_item (map (λ t. t.version) ts)
last_version [] = refl
last_version (t ∷ []) = refl
last_version (t ∷ u ∷ ts) = last_version (u ∷ ts)

-- an application and its number
abbrev pair_of : TxnAction → List ℕ × ℕ
pair_of t = (t.app_id, t.version)

-- the numbers of an application's actions are those that stand with its name
own_numbers : (application : List ℕ) (ts : List TxnAction) → map (λ t. t.version) (filter (is_own application) ts) ≡ numbers_of application (map pair_of ts)
own_numbers application [] = refl
own_numbers application (t ∷ ts) =
    elim (cases_Bool (bytes_eq t.app_id application)) [
      | inl own ↦ rw own (ap (λ (ns : List ℕ). t.version ∷ ns) (own_numbers application ts))
      | inr other ↦ rw other (own_numbers application ts)
    ]

-- the numbers of all commits are those of all their actions
all_numbers : (commits : List (List actions.Action)) → numbers (actions_of commits) ≡ flat_map numbers commits
all_numbers [] = refl
all_numbers (made ∷ commits) =
    ap (map pair_of) (filter_map-append txn_in made (actions_of commits)) ∙ map-append pair_of (filter_map txn_in made) (filter_map txn_in (actions_of commits))
    ∙ ap (λ (ns : List (List ℕ × ℕ)). numbers made ++ ns) (all_numbers commits)

-- the number that an application has come to is the last that stands with its name
last_among : (application : List ℕ) (commits : List (List actions.Action)) → last_number application commits ≡ last_item (numbers_of application (flat_map numbers commits))
last_among application commits =
    let ts = filter_map txn_in (actions_of commits) in
    let own : filter (is_of (number_of application)) (actions_of commits) ≡ map txn (filter (is_own application) ts) = own_txns application (actions_of commits) in
    ap (λ (es : List actions.Action). option_map (λ t. t.version) (option_and_then txn_in (kept (keys.last es)))) own
    ∙ last_version (filter (is_own application) ts)
    ∙ ap (λ (ns : List ℕ). last_item ns) (own_numbers application ts)
    ∙ ap (λ (ns : List (List ℕ × ℕ)). last_item (numbers_of application ns)) (all_numbers commits)

-- The number that an application has come to by the commits of a table's entries is the one told last of it.
pub log_last : (objects : Objects) (schema : Schema) (application : List ℕ) (entries : List Entry) (commits : List (List actions.Action)) → AreMadeFor objects schema entries commits
    → last_number application commits ≡ option_map (λ t. t.number) (last_told application entries)
log_last objects schema application entries commits made =
    last_among application commits ∙ ap (λ (ns : List ℕ). last_item ns) (numbers_by_log objects schema application entries commits made) ∙ last_by application entries
