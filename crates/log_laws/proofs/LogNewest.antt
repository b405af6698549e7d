-- The newest action of a key over the commits that stand for a table's entries.
use Rattle.std.proofs.Common.{◌≡◌, Bool, true, false, ◌||◌, List, [], ◌∷◌, ◌++◌, Option, Some, None, refl, sym, ap, ◌∙◌, filter, cond, inl, inr}
use Rattle.std.specs.Option.{is_some, is_none, option_or}
use Rattle.std.proofs.lemmas.Bool.{and_parts, cases_Bool}
use Rattle.std.proofs.lemmas.List.Elements.{filter-append}
use Rattle.serde_json.specs.Data.{Data}
use Rattle.store_core.specs.Objects.{Objects}
use Rattle.delta_actions.specs.Action as actions
use Rattle.delta_actions.specs.Action.{commit_info}
use Rattle.delta_actions.specs.In.{add_in, commit_info_in, txn_in}
use Rattle.delta_replay.specs.Keys as keys
use Rattle.delta_replay.specs.Keys.{Key, is_of, actions_of, newest}
use Rattle.table_model.specs.Table.{Entry}
use Rattle.table_store.specs.Commits.{StandFor, without_commit_info}
use Rattle.table_store.specs.Groups.{AreTxnsAndAdds}
use Rattle.table_store.specs.Schema.{Schema}
use Rattle.table_store.proofs.LawfulLogLemmas.{AreMadeFor}

-- ---- the last of what there is

-- where nothing else is there
pub or_none : {A : Type 0} (a : Option A) → option_or a None ≡ a
or_none None = refl
or_none (Some x) = refl

-- the first of what there is, whichever two are asked first
pub or_regroup : {A : Type 0} (a b c : Option A) → option_or a (option_or b c) ≡ option_or (option_or a b) c
or_regroup None b c = refl
or_regroup (Some x) b c = refl

-- one stands before the last of something
last_behind : {A : Type 0} (x y : A) (ys : List A) → keys.last (y ∷ ys) ≡ option_or (keys.last (y ∷ ys)) (Some x)
last_behind x y [] = refl
last_behind x y (z ∷ ys) = last_behind x z ys

-- the last of two lists, of which the later comes first
last_of_both : {A : Type 0} (xs ys : List A) → keys.last (xs ++ ys) ≡ option_or (keys.last ys) (keys.last xs)
last_of_both [] ys = sym (or_none (keys.last ys))
last_of_both (x ∷ []) [] = refl
last_of_both (x ∷ []) (y ∷ ys) = last_behind x y ys
last_of_both (x ∷ z ∷ xs) ys = last_of_both (z ∷ xs) ys

-- ---- the actions of a commit

-- the newest action of a commit
abbrev pub of_commit : Key → List actions.Action → Option actions.Action
of_commit key made = keys.last (filter (is_of key) made)

-- a commit in front tells the newest where no later one does
pub newest-cons : (key : Key) (made : List actions.Action) (commits : List (List actions.Action)) → newest key (made ∷ commits) ≡ option_or (newest key commits) (of_commit key made)
newest-cons key made commits =
    ap (λ (es : List actions.Action). keys.last es) (filter-append (is_of key) made (actions_of commits)) ∙ last_of_both (filter (is_of key) made) (filter (is_of key) (actions_of commits))

-- elements that are left out without which a test finds what it finds with them
passed_over : {A : Type 0} (finds keeps : A → Bool) → ((x : A) → keeps x ≡ false → finds x ≡ false) → (xs : List A) → filter finds (filter keeps xs) ≡ filter finds xs
passed_over finds keeps none [] = refl
passed_over {A = A} finds keeps none (x ∷ xs) =
    elim (cases_Bool (keeps x)) [
      | inl stays ↦ rw stays (ap (λ (ys : List A). cond (finds x) (x ∷ ys) ys) (passed_over finds keeps none xs))
      | inr goes ↦ rw (goes, none x goes) (passed_over finds keeps none xs)
    ]

-- no action that tells only of the commit is of the key
abbrev pub IsBeside : Key → Type 0
IsBeside key = (told : Data) → is_of key (commit_info told) ≡ false

-- so what isn't beside them isn't of the key
silent : (key : Key) → IsBeside key → (action : actions.Action) → is_none (commit_info_in action) ≡ false → is_of key action ≡ false
silent key none (commit_info told) out = none told
silent key none _ out = absurd cc

-- the newest action of a commit is the newest of those beside what tells only of it
pub newest_beside : (key : Key) → IsBeside key → (made : List actions.Action) → of_commit key made ≡ of_commit key (without_commit_info made)
newest_beside key none made = ap (λ (es : List actions.Action). keys.last es) (sym (passed_over (is_of key) (λ action. is_none (commit_info_in action)) (silent key none) made))

-- no `txn` and no `add` is of the key
abbrev pub IsNoGroups : Key → Type 0
IsNoGroups key = (action : actions.Action) → (is_some (txn_in action) || is_some (add_in action)) ≡ true → is_of key action ≡ false

-- so a group has no action of it
pub none_in_group : (key : Key) → IsNoGroups key → (beside : List actions.Action) → AreTxnsAndAdds beside → filter (is_of key) beside ≡ []
none_in_group key never [] only = refl
none_in_group key never (action ∷ beside) only =
    let both = and_parts _ _ only in
    rw (never action both.0) (none_in_group key never beside both.1)

-- ---- what each commit keeps of what was found before it

module _ (objects : Objects) (schema : Schema) (key : Key) (beside : IsBeside key) (Is : Option actions.Action → Type 0)
    (goes_on : (found : Option actions.Action) (entry : Entry) (made : List actions.Action) → Is found → StandFor schema entry made → Is (option_or (of_commit key made) found)) where
  -- all of them keep
  pub stays : (found : Option actions.Action) (entries : List Entry) (commits : List (List actions.Action)) → Is found → AreMadeFor objects schema entries commits → Is (option_or (newest key commits) found)
  stays found [] [] is made = is
  stays found [] (commit ∷ commits) is made = absurd made
  stays found (entry ∷ entries) [] is made = absurd made
  stays found (entry ∷ entries) (commit ∷ commits) is made =
      let here : Is (option_or (of_commit key commit) found) = rw (newest_beside key beside commit) (goes_on found entry (without_commit_info commit) is made.0) in
      rw (newest-cons key commit commits, sym (or_regroup (newest key commits) (of_commit key commit) found))
      (stays (option_or (of_commit key commit) found) entries commits here made.2)
