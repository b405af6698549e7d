-- A stream is closed by a lawful log exactly where it is closed in the table.
use Rattle.std.proofs.Common.{◌≡◌, ℕ, Bool, true, false, ◌||◌, List, [], ◌∷◌, Option, Some, None, Result, Ok, drop, refl, sym, ap, ◌∙◌, cond, bytes_eq, flat_map}
use Rattle.std.specs.List.{list_any}
use Rattle.std.specs.Option.{option_or}
use Rattle.std.specs.Str.{IsUtf8}
use Rattle.std.proofs.lemmas.List.Folds.{list_any-append}
use Rattle.std.proofs.lemmas.Slice.Eq.{bytes_eq-Decides}
use Rattle.hex.specs.declared.error.FromHexError.{FromHexError}
use Rattle.hex.specs.Hex.{decode_of}
use Rattle.hex.proofs.HexLemmas.{decode_of-encode_lower}
use Rattle.serde_json.proofs.OnLiterals.{serde_json_on_literals}
use Rattle.store_core.specs.Objects.{Objects}
use Rattle.delta_actions.specs.Action as actions
use Rattle.delta_actions.specs.Action.{add, domain_metadata, txn}
use Rattle.delta_actions.specs.Names.{stream_domain}
use Rattle.delta_actions.proofs.Callers.{IsBytes-text}
use Rattle.delta_replay.specs.Closes.{is_closing}
use Rattle.delta_replay.specs.Closes as replay
use Rattle.delta_replay.specs.Keys as keys
use Rattle.delta_replay.specs.Keys.{Key, domain_of, kept, newest}
use Rattle.table_model.specs.Table.{Entry, creation, group, close, closes_of, is_stream_closed}
use Rattle.table_store.specs.Commits.{StandFor, without_commit_info, closed_domain}
use Rattle.table_store.specs.Schema.{Schema}
use Rattle.table_store.proofs.LawfulLogLemmas.{AreMadeFor}
use Rattle.log_laws.proofs.LogNewest.{IsNoGroups, newest-cons, newest_beside, none_in_group, of_commit}

-- the action that is found closes its stream, and where the application's id is text a close was seen; where none is, none was
abbrev Agrees : (application : List ℕ) → Option actions.Action → Bool → Type 0
Agrees application None closed = closed ≡ false
Agrees application (Some action) closed = (is_closing (kept (Some action)) ≡ true) × (IsUtf8 application → closed ≡ true)

-- one of two is true where the second is
or_true : (b : Bool) → (b || true) ≡ true
or_true true = refl
or_true false = refl

-- the later of two
agrees_later : (application : List ℕ) (later found : Option actions.Action) (after before : Bool) → Agrees application later after → Agrees application found before → Agrees application (option_or later found) (before || after)
agrees_later application (Some action) found after before shut is = (shut.0, λ own. rw (shut.1 own) (or_true before))
agrees_later application None (Some action) after before none shut = (shut.0, λ own. rw (shut.1 own) refl)
agrees_later application None None after before none unseen = rw (none, unseen) refl

-- a group has no metadata of a domain
no_domain : (domain : List ℕ) → IsNoGroups (domain_of domain)
no_domain domain (txn t) is = refl
no_domain domain (add a) is = refl
no_domain domain _ is = absurd cc

-- a close's metadata says that its stream is closed
pub says_so : (closed : List ℕ) → is_closing (kept (Some (domain_metadata (closed_domain closed)))) ≡ true
unfolding serde_json_on_literals
says_so closed = refl

-- what digits are decoded as
abbrev decoded : List ℕ → Result (List ℕ) FromHexError
decoded bytes = Ok bytes

-- what spells a text in digits spells no other
domain-once : (closed application : List ℕ) → IsUtf8 closed → IsUtf8 application → stream_domain closed ≡ stream_domain application → closed ≡ application
domain-once closed application text own same =
    let read : (a : List ℕ) → IsUtf8 a → decode_of (drop 5 (stream_domain a)) ≡ Ok a = λ a is. decode_of-encode_lower a (IsBytes-text a is) in
    let both : decoded closed ≡ decoded application = sym (read closed text) ∙ ap (λ (d : List ℕ). decode_of (drop 5 d)) same ∙ read application own in
    cc

module _ (schema : Schema) (application : List ℕ) where
  -- the key of the application's domain
  abbrev key : Key
  key = domain_of (stream_domain application)

  -- the closes among these are the application's
  abbrev any_own : List (List ℕ) → Bool
  any_own closed = list_any (λ c. bytes_eq c application) closed

  -- a close tells the domain of its application
  close_agrees : (closed : List ℕ) → IsUtf8 closed → Agrees application (of_commit key (domain_metadata (closed_domain closed) ∷ [])) (any_own (closed ∷ []))
  close_agrees closed text = by_domain (bytes_eq (stream_domain closed) (stream_domain application)) (bytes_eq closed application) refl refl
    where
      by_domain : (same mine : Bool) → bytes_eq (stream_domain closed) (stream_domain application) ≡ same → bytes_eq closed application ≡ mine
          → Agrees application (keys.last (cond same (domain_metadata (closed_domain closed) ∷ []) [])) (mine || false)
      by_domain true mine same is = (
        says_so closed,
        λ own.
            let one : closed ≡ application = domain-once closed application text own ((bytes_eq-Decides (stream_domain closed) (stream_domain application)).0 same) in
            let yes : mine ≡ true = sym is ∙ (bytes_eq-Decides closed application).1 one in
            rw yes refl,
      )
      by_domain false false same is = refl
      by_domain false true same is =
          let domain : stream_domain closed ≡ stream_domain application = ap stream_domain ((bytes_eq-Decides closed application).0 is) in
          let yes : bytes_eq (stream_domain closed) (stream_domain application) ≡ true = (bytes_eq-Decides (stream_domain closed) (stream_domain application)).1 domain in
          absurd cc

  -- one commit agrees with its entry
  commit_agrees : (entry : Entry) (beside : List actions.Action) → StandFor schema entry beside → Agrees application (of_commit key beside) (any_own (closes_of entry))
  commit_agrees creation beside stand = rw stand.actions refl
  commit_agrees (group bs) beside stand = rw (none_in_group key (no_domain (stream_domain application)) beside stand.only) refl
  commit_agrees (close closed) beside stand = rw stand.actions (close_agrees closed stand.text)

  -- several commits agree with their entries
  commits_agree : (objects : Objects) (entries : List Entry) (commits : List (List actions.Action)) → AreMadeFor objects schema entries commits → Agrees application (newest key commits) (is_stream_closed application entries)
  commits_agree objects [] [] made = refl
  commits_agree objects [] (commit ∷ commits) made = absurd made
  commits_agree objects (entry ∷ entries) [] made = absurd made
  commits_agree objects (entry ∷ entries) (commit ∷ commits) made =
      let first : Agrees application (of_commit key commit) (any_own (closes_of entry)) = rw (newest_beside key (λ told. refl) commit) (commit_agrees entry (without_commit_info commit) made.0) in
      rw (newest-cons key commit commits, list_any-append (λ c. bytes_eq c application) (closes_of entry) (flat_map closes_of entries))
      (agrees_later application (newest key commits) (of_commit key commit) (is_stream_closed application entries) (any_own (closes_of entry)) (commits_agree objects entries commits made.2) first)

-- where the stream isn't closed by what was found, no close was seen
open_by : (application : List ℕ) (found : Option actions.Action) (closed : Bool) → Agrees application found closed → is_closing (kept found) ≡ false → closed ≡ false
open_by application None closed none is = none
open_by application (Some action) closed shut is = let no : true ≡ false = sym shut.0 ∙ is in absurd cc

-- it is closed by what was found exactly where a close was seen
closed_by : (application : List ℕ) (found : Option actions.Action) (closed : Bool) → IsUtf8 application → Agrees application found closed → is_closing (kept found) ≡ closed
closed_by application None closed own none = sym none
closed_by application (Some action) closed own shut = shut.0 ∙ sym (shut.1 own)

module _ (objects : Objects) (schema : Schema) (application : List ℕ) (entries : List Entry) (commits : List (List actions.Action)) (made : AreMadeFor objects schema entries commits) where
  -- the newest action of the stream's domain
  abbrev found : Option actions.Action
  found = newest (domain_of (stream_domain application)) commits

  -- A stream that isn't closed by the commits of a table's entries isn't closed in the table.
  pub log_open : replay.is_closed application commits ≡ false → is_stream_closed application entries ≡ false
  log_open = open_by application found (is_stream_closed application entries) (commits_agree schema application objects entries commits made)

  -- A stream is closed by the commits of a table's entries exactly where it is closed in the table, where the application's id is text.
  pub log_closed : IsUtf8 application → replay.is_closed application commits ≡ is_stream_closed application entries
  log_closed own = closed_by application found (is_stream_closed application entries) own (commits_agree schema application objects entries commits made)
