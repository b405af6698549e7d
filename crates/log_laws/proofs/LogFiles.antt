-- The files that a lawful log leaves are those that its table's entries leave.
use Rattle.std.proofs.Common.{◌≡◌, ℕ, zero, suc, true, false, List, [], ◌∷◌, ◌++◌, map, filter, Option, Some, None, Contains, refl, sym, ap, subst, ◌∙◌, arith, inl, inr, bytes_eq}
use Rattle.std.specs.Prelude.{not, ◌↔◌}
use Rattle.std.specs.Option.{option_or}
use Rattle.std.proofs.lemmas.Bool.{cases_Bool}
use Rattle.std.proofs.lemmas.List.{append-nil, map-append}
use Rattle.std.proofs.lemmas.List.Elements.{Contains-append_cases, Contains-append_left, Contains-append_right}
use Rattle.std.proofs.lemmas.Slice.Eq.{bytes_eq-Decides}
use Rattle.store_core.specs.Objects.{Objects}
use Rattle.delta_actions.specs.Action as actions
use Rattle.delta_actions.specs.Action.{AddAction, add, txn}
use Rattle.delta_actions.specs.Names.{data_file_name}
use Rattle.delta_replay.specs.Keys as keys
use Rattle.delta_replay.specs.Keys.{Key, at, file_of, is_of, kept, newest}
use Rattle.table_model.specs.Live.{is_path_among, live, live_behind, live_from}
use Rattle.table_model.specs.Table.{Batch, File, Entry, creation, group, close, batch_file, gives}
use Rattle.table_model.proofs.Callers.{each_has}
use Rattle.table_store.specs.Commits.{StandFor, without_commit_info}
use Rattle.table_store.specs.Groups.{AreFilesOf, AreTxnsAndAdds, added, numbers}
use Rattle.table_store.specs.Holds.{GivenStands, HoldsFrom}
use Rattle.table_store.specs.Schema.{Schema, path_name}
use Rattle.table_store.proofs.ConflictLemmas.{Contains-first}
use Rattle.table_store.proofs.HoldingOne.{named}
use Rattle.table_store.proofs.LawfulLogLemmas.{AreMadeFor}
use Rattle.log_laws.proofs.LogNewest.{newest-cons, newest_beside, of_commit, or_none, or_regroup}

-- the names under which files lie
abbrev pub names_of_files : List File → List (List ℕ)
names_of_files files = map (λ f. path_name f.path) files

-- ---- the adds of a commit

module _ (name : List ℕ) where
  -- What is found of a file says whether its name is among these: an `add` where it is, and nothing where it isn't. No entry's commit
  -- has a `remove` yet.
  abbrev SaysOfName : Option actions.Action → List (List ℕ) → Type 0
  SaysOfName None names = Contains names name → ⊥
  SaysOfName (Some (add a)) names = Contains names name
  SaysOfName (Some action) names = ⊥

  -- the name among those of adds
  abbrev own_adds : List AddAction → List AddAction
  own_adds adds = filter (λ a. bytes_eq a.path.key name) adds

  abbrev keys_of_adds : List AddAction → List (List ℕ)
  keys_of_adds adds = map (λ a. a.path.key) adds

  -- a group's actions of the file are its adds under that name
  adds_found : (beside : List actions.Action) → AreTxnsAndAdds beside → filter (is_of (file_of name)) beside ≡ map add (own_adds (added beside))
  adds_found [] only = refl
  adds_found (txn t ∷ beside) only = adds_found beside only
  adds_found (add a ∷ beside) only =
      elim (cases_Bool (bytes_eq a.path.key name)) [
        | inl own ↦ rw own (ap (λ (es : List actions.Action). add a ∷ es) (adds_found beside only))
        | inr other ↦ rw other (adds_found beside only)
      ]
  adds_found (_ ∷ beside) only = absurd cc

  none_more : (other : List ℕ) (names : List (List ℕ)) → (other ≡ name → ⊥) → (Contains names name → ⊥) → Contains (other ∷ names) name → ⊥
  none_more other names not_it none (zero, lt, is) = not_it is
  none_more other names not_it none (suc k, lt, is) = none (k, omega (arith, lt), is)

  -- one name more in front, which isn't this one, says nothing new
  one_more : (found : Option actions.Action) (other : List ℕ) (names : List (List ℕ)) → (other ≡ name → ⊥) → SaysOfName found names → SaysOfName found (other ∷ names)
  one_more None other names not_it none = none_more other names not_it none
  one_more (Some (add a)) other names not_it is = (suc is.0, omega (arith, is.1), is.2)
  one_more (Some _) other names not_it is = absurd is

  -- an add in front of others under the name: the last is an add
  last_is : (a : AddAction) (adds : List AddAction) → (last : AddAction) × (keys.last (map add (a ∷ adds)) ≡ Some (add last))
  last_is a [] = (a, refl)
  last_is a (b ∷ adds) = last_is b adds

  says_of_adds : (adds : List AddAction) → SaysOfName (keys.last (map add (own_adds adds))) (keys_of_adds adds)
  says_of_adds [] = λ among. omega (arith, among.1)
  says_of_adds (a ∷ adds) =
      elim (cases_Bool (bytes_eq a.path.key name)) [
        | inl own ↦
            let same : a.path.key ≡ name = (bytes_eq-Decides a.path.key name).0 own in
            let last = last_is a (own_adds adds) in
            rw (own, last.1) (subst (Contains (keys_of_adds (a ∷ adds))) same (Contains-first a.path.key (keys_of_adds adds)))
        | inr other ↦ rw other (one_more (keys.last (map add (own_adds adds))) a.path.key (keys_of_adds adds) (λ same. differs a.path.key same other) (says_of_adds adds))
      ]
    where
      differs : (key : List ℕ) → key ≡ name → bytes_eq key name ≡ false → ⊥
      differs key same other = let yes = (bytes_eq-Decides key name).1 same in absurd cc

  none_of_both : (before more : List (List ℕ)) → (Contains before name → ⊥) → (Contains more name → ⊥) → Contains (before ++ more) name → ⊥
  none_of_both before more unseen none among =
      elim (Contains-append_cases before more name among) [
        | inl front ↦ unseen front
        | inr behind ↦ none behind
      ]

  -- what is found later, or else what was found before, says of the names of both
  says_later : (later found : Option actions.Action) (before more : List (List ℕ)) → SaysOfName later more → SaysOfName found before → SaysOfName (option_or later found) (before ++ more)
  says_later (Some (add a)) found before more is was = Contains-append_right before more name is
  says_later (Some _) found before more is was = absurd is
  says_later None (Some (add a)) before more none was = Contains-append_left before more name was
  says_later None (Some _) before more none was = absurd was
  says_later None None before more none unseen = none_of_both before more unseen none

-- ---- the files of entries

-- the names of the files of numbers are those of the batches
names_given : (bs : List Batch) (adds : List AddAction) → AreFilesOf (map named bs) adds → map (λ a. a.path.key) adds ≡ names_of_files (map batch_file bs)
names_given [] [] are = refl
names_given [] (a ∷ adds) are = absurd are
names_given (b ∷ bs) [] are = absurd are
names_given (b ∷ bs) (a ∷ adds) are = rw are.0 (ap (λ (ns : List (List ℕ)). data_file_name b.application b.number ∷ ns) (names_given bs adds are.2))

-- where nothing is taken all files are left
all_left : (files : List File) → filter (λ f. not (is_path_among [] f.path)) files ≡ files
all_left [] = refl
all_left (f ∷ files) = ap (λ (fs : List File). f ∷ fs) (all_left files)

-- so an entry leaves those before it and those that it gives
given_behind : (files : List File) (entry : Entry) → live_behind files entry ≡ files ++ gives entry
given_behind files creation = ap (λ (fs : List File). fs ++ []) (all_left files)
given_behind files (group bs) = ap (λ (fs : List File). fs ++ map batch_file bs) (all_left files)
given_behind files (close application) = ap (λ (fs : List File). fs ++ []) (all_left files)

module _ (schema : Schema) (name : List ℕ) where
  abbrev key : Key
  key = file_of name

  -- the commit of an entry says of the files that it gives
  says_of_commit : (entry : Entry) (beside : List actions.Action) → StandFor schema entry beside → SaysOfName name (of_commit key beside) (names_of_files (gives entry))
  says_of_commit creation beside stand = rw stand.actions (λ among. omega (arith, among.1))
  says_of_commit (group bs) beside stand =
      let are : AreFilesOf (map named bs) (added beside) = subst (λ (ns : List (List ℕ × ℕ)). AreFilesOf ns (added beside)) stand.numbered stand.files in
      rw (adds_found name beside stand.only) (subst (SaysOfName name (keys.last (map add (own_adds name (added beside))))) (names_given bs (added beside) are) (says_of_adds name (added beside)))
  says_of_commit (close application) beside stand = rw stand.actions (λ among. omega (arith, among.1))

  -- and so do the commits of all of them
  says_of_log : (objects : Objects) (found : Option actions.Action) (files : List File) (entries : List Entry) (commits : List (List actions.Action)) → SaysOfName name found (names_of_files files)
      → AreMadeFor objects schema entries commits → SaysOfName name (option_or (newest key commits) found) (names_of_files (live_from files entries))
  says_of_log objects found files [] [] is made = is
  says_of_log objects found files [] (commit ∷ commits) is made = absurd made
  says_of_log objects found files (entry ∷ entries) [] is made = absurd made
  says_of_log objects found files (entry ∷ entries) (commit ∷ commits) is made =
      let one = says_of_commit entry (without_commit_info commit) made.0 in
      let both = says_later name (of_commit key (without_commit_info commit)) found (names_of_files files) (names_of_files (gives entry)) one is in
      let names : names_of_files files ++ names_of_files (gives entry) ≡ names_of_files (live_behind files entry) = sym (ap names_of_files (given_behind files entry) ∙ map-append (λ (f : File). path_name f.path) files (gives entry)) in
      let here : SaysOfName name (option_or (of_commit key commit) found) (names_of_files (live_behind files entry)) = rw (newest_beside key (λ told. refl) commit) (subst (SaysOfName name (option_or (of_commit key (without_commit_info commit)) found)) names both) in
      rw (newest-cons key commit commits, sym (or_regroup (newest key commits) (of_commit key commit) found))
      (says_of_log objects (option_or (of_commit key commit) found) (live_behind files entry) entries commits here made.2)

-- where what is found says so, an add is kept just where the name is among these
file_kept : (name : List ℕ) (names : List (List ℕ)) (found : Option actions.Action) → SaysOfName name found names → ((a : AddAction) × (kept found ≡ Some (add a))) ↔ Contains names name
file_kept name names None none = (λ found. let wrong = found.1 in absurd cc, λ among. absurd (none among))
file_kept name names (Some (add a)) is = (λ found. is, λ among. (a, refl))
file_kept name names (Some _) is = absurd is

-- A file is left by the commits of a table's entries exactly where its name is that of a file that the entries leave.
pub log_files : (objects : Objects) (schema : Schema) (name : List ℕ) (entries : List Entry) (commits : List (List actions.Action)) → AreMadeFor objects schema entries commits
    → ((a : AddAction) × (at (file_of name) commits ≡ Some (add a))) ↔ Contains (names_of_files (live entries)) name
log_files objects schema name entries commits made =
    let says = says_of_log schema name objects None [] entries commits (λ among. omega (arith, among.1)) made in
    file_kept name (names_of_files (live entries)) (newest (file_of name) commits) (subst (λ (o : Option actions.Action). SaysOfName name o (names_of_files (live entries))) (or_none (newest (file_of name) commits)) says)

-- ---- what lies there

module _ (objects : Objects) (schema : Schema) where
  -- each of these files stands
  abbrev AllGiven : List File → Type 0
  AllGiven files = (f : File) → Contains files f → GivenStands objects schema f

  left_stand : (version : ℕ) (files : List File) (entries : List Entry) → AllGiven files → HoldsFrom objects schema version entries → AllGiven (live_from files entries)
  left_stand version files [] stand holds = stand
  left_stand version files (entry ∷ entries) stand holds = left_stand _ (live_behind files entry) entries (λ f among.
      elim (Contains-append_cases files (gives entry) f (subst (λ (fs : List File). Contains fs f) (given_behind files entry) among)) [
        | inl before ↦ stand f before
        | inr new ↦ each_has (GivenStands objects schema) (gives entry) f holds.1.given new
      ]) holds.3

  -- Each file that a held table's entries leave stands, and is one of its rows.
  pub live_stands : (entries : List Entry) → HoldsFrom objects schema 0 entries → AllGiven (live entries)
  live_stands entries holds = left_stand 0 [] entries (λ f among. absurd (omega (arith, among.1))) holds
