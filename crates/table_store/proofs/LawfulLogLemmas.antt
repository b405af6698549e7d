-- The log of a lawful store is lawful.
use Rattle.std.proofs.Common.{◌≡◌, ◌≢◌, ℕ, zero, suc, ◌<◌, true, List, [], ◌∷◌, ◌++◌, length, map, filter, Contains, slice_index_or, refl, sym, ap, ap₂, subst, ◌∙◌, arith, inl, inr, bytes_eq, flat_map}
use Rattle.std.specs.List.{AllByRecursion}
use Rattle.std.proofs.lemmas.Bool.{cases_Bool}
use Rattle.std.proofs.lemmas.List.{map-append}
use Rattle.std.proofs.lemmas.Simd.{map-map}
use Rattle.std.proofs.lemmas.Slice.Eq.{bytes_eq-Decides}
use Rattle.store_core.specs.Objects.{Objects}
use Rattle.delta_actions.specs.Action as actions
use Rattle.delta_actions.specs.Commit.{IsCommit}
use Rattle.store_core.specs.Names.{commit_name}
use Rattle.table_store.specs.Schema.{Schema}
use Rattle.table_store.specs.Commits.{without_commit_info, IsClose, StandFor}
use Rattle.table_store.specs.Holds.{FilesStand, HoldsFrom, IsLawfulStore}
use Rattle.table_model.specs.Lawful as kinds
use Rattle.table_model.specs.Lawful.{Begins, Suits, Rises, AreDifferent, IsLawful}
use Rattle.table_store.specs.Groups.{numbers}
use Rattle.table_store.specs.Logs.{LogFrom}
use Rattle.table_store.specs.LawfulLogs.{IsLaterCommit, BeginsLog, numbers_of, HasLawfulLog}
use Rattle.table_model.specs.Table.{Batch, ToldNumber, told_of, Entry, creation, group, close, batches_of, batches, numbers_by}
use Rattle.table_model.proofs.Callers.{Rises-tail, below_later, each_suits, told_by-batches}
use Rattle.table_store.proofs.HoldingEnds.{none_at_end, HoldsFrom-first, LogFrom-first}
use Rattle.table_store.proofs.HoldingLogs.{HoldsFrom-log, numbers-without_commit_info, numbers_of_entry}
use Rattle.table_store.proofs.HoldingOne.{named, one_object, one_commit, one_entry}

-- ---- numbers of which each application's rise

-- the numbers of an application are those of its batches
pub numbers_of-named : (application : List ℕ) (bs : List Batch) → numbers_of application (map named bs) ≡ map (λ b. b.number) (filter (λ b. bytes_eq b.application application) bs)
numbers_of-named application [] = refl
numbers_of-named application (b ∷ bs) =
    elim (cases_Bool (bytes_eq b.application application)) [
      | inl own ↦ rw own (ap (λ (ns : List ℕ). b.number ∷ ns) (numbers_of-named application bs))
      | inr other ↦ rw other (numbers_of-named application bs)
    ]

-- a number stands among those of its application
number_stands : (ns : List (List ℕ × ℕ)) (n : List ℕ × ℕ) (k : ℕ) → k < length ns → slice_index_or ns k n ≡ n → (front back : List ℕ) × (numbers_of n.0 ns ≡ front ++ n.1 ∷ back)
number_stands [] n k within is = absurd (omega arith)
number_stands (m ∷ ns) n zero within is =
    let own : bytes_eq m.0 n.0 ≡ true = (bytes_eq-Decides m.0 n.0).1 (ap (λ (x : List ℕ × ℕ). x.0) is) in
    ([], numbers_of n.0 ns, rw own (ap (λ (x : List ℕ × ℕ). x.1 ∷ numbers_of n.0 ns) is))
number_stands (m ∷ ns) n (suc k) within is =
    let later = number_stands ns n k (omega arith) is in
    elim (cases_Bool (bytes_eq m.0 n.0)) [
      | inl own ↦ (m.1 ∷ later.0, later.1, rw own (ap (λ (ms : List ℕ). m.1 ∷ ms) later.2))
      | inr other ↦ (later.0, later.1, rw other later.2)
    ]

-- the numbers of each application still rise without the first of all
rises_behind : (n : List ℕ × ℕ) (ns : List (List ℕ × ℕ)) (application : List ℕ) → Rises (numbers_of application (n ∷ ns)) → Rises (numbers_of application ns)
rises_behind n ns application rises =
    elim (cases_Bool (bytes_eq n.0 application)) [
      | inl own ↦ Rises-tail n.1 (numbers_of application ns) (rw own at rises)
      | inr other ↦ rw other at rises
    ]

-- Where the numbers of each application rise, no number of an application stands twice.
pub different-from_rises : (ns : List (List ℕ × ℕ)) → ((application : List ℕ) → Rises (numbers_of application ns)) → AreDifferent ns
different-from_rises [] rises = tt
different-from_rises (n ∷ ns) rises = (twice, different-from_rises ns (λ application. rises_behind n ns application (rises application)))
  where
    twice : Contains ns n → ⊥
    twice again =
        let later = number_stands ns n again.0 again.1 again.2 in
        let own : bytes_eq n.0 n.0 ≡ true = (bytes_eq-Decides n.0 n.0).1 refl in
        let all : numbers_of n.0 (n ∷ ns) ≡ n.1 ∷ (later.0 ++ n.1 ∷ later.1) = rw own (ap (λ (ms : List ℕ). n.1 ∷ ms) later.2) in
        let below : n.1 < n.1 = below_later n.1 later.0 n.1 later.1 (subst Rises all (rises n.0)) in
        omega (arith, below)

-- ---- a log that stands for entries

-- and those that are told of it are, too
numbers_by-named : (application : List ℕ) (entries : List Entry) → numbers_by application entries ≡ map (λ b. b.number) (filter (λ b. bytes_eq b.application application) (batches entries))
numbers_by-named application entries =
    ap (map (λ (t : ToldNumber). t.number)) (told_by-batches application entries) ∙ map-map (λ (t : ToldNumber). t.number) told_of (filter (λ (b : Batch). bytes_eq b.application application) (batches entries))

module _ (objects : Objects) (schema : Schema) where
  -- commit by commit the actions are those of the entries, and the files of each entry stand
  abbrev pub AreMadeFor : List Entry → List (List actions.Action) → Type 0
  AreMadeFor [] [] = Unit {0}
  AreMadeFor [] (made ∷ log) = ⊥
  AreMadeFor (entry ∷ entries) [] = ⊥
  AreMadeFor (entry ∷ entries) (made ∷ log) = StandFor schema entry (without_commit_info made) × FilesStand objects schema entry × AreMadeFor entries log

  -- a store's log stands for the entries that the store holds
  pub made_for : (version : ℕ) (entries : List Entry) (log : List (List actions.Action)) → HoldsFrom objects schema version entries → LogFrom objects version log → AreMadeFor entries log
  made_for version [] [] p q = tt
  made_for version [] (made ∷ log) p q = absurd (none_at_end objects version q.0.0 p (LogFrom-first objects version made log q) q.0.1)
  made_for version (entry ∷ entries) [] p q = absurd (none_at_end objects version p.0.0 q (HoldsFrom-first objects schema version entry entries p) p.0.1)
  made_for version (entry ∷ entries) (made ∷ log) p q =
      let bytes : p.0.0 ≡ q.0.0 = one_object objects (commit_name version) (commit_name version) _ _ p.0 q.0 refl in
      let same : p.0.2.actions ≡ made = one_commit q.0.0 p.0.2.actions made (subst (λ (t : List ℕ). IsCommit t p.0.2.actions) bytes p.0.2.commit) q.0.2 in
      (subst (λ (m : List actions.Action). StandFor schema entry (without_commit_info m)) same p.0.2.stand, p.1, made_for (suc version) entries log p.3 q.1)

  -- the log has the numbers of the batches
  numbers_of_log : (entries : List Entry) (log : List (List actions.Action)) → AreMadeFor entries log → flat_map numbers log ≡ map named (batches entries)
  numbers_of_log [] [] p = refl
  numbers_of_log [] (made ∷ log) p = absurd p
  numbers_of_log (entry ∷ entries) [] p = absurd p
  numbers_of_log (entry ∷ entries) (made ∷ log) p =
      let first : numbers made ≡ map named (batches_of entry) = sym (numbers-without_commit_info made) ∙ numbers_of_entry schema entry (without_commit_info made) p.0 in
      ap₂ (λ (ns ms : List (List ℕ × ℕ)). ns ++ ms) first (numbers_of_log entries log p.2) ∙ sym (map-append named (batches_of entry) (batches entries))

  -- an application has the same numbers in the log as in the table
  pub numbers_by_log : (application : List ℕ) (entries : List Entry) (log : List (List actions.Action)) → AreMadeFor entries log → numbers_of application (flat_map numbers log) ≡ numbers_by application entries
  numbers_by_log application entries log p = ap (numbers_of application) (numbers_of_log entries log p) ∙ numbers_of-named application (batches entries) ∙ sym (numbers_by-named application entries)

  -- ---- the log begins with the creation

  -- the numbers of a group's batches aren't none, and are of different applications
  group_numbered : (bs : List Batch) (ns : List (List ℕ × ℕ)) → ns ≡ map named bs → Suits [] (group bs) → (ns ≢ []) × AreDifferent (map (λ n. n.0) ns)
  group_numbered [] ns is grouped = absurd (grouped.0 refl)
  group_numbered (b ∷ bs) ns is grouped =
      let applications : map (λ n. n.0) ns ≡ map (λ c. c.application) (b ∷ bs) = ap (map (λ (n : List ℕ × ℕ). n.0)) is ∙ map-map (λ (n : List ℕ × ℕ). n.0) named (b ∷ bs) in
      ((λ none. let no : map named (b ∷ bs) ≡ [] = sym is ∙ none in absurd cc), subst AreDifferent (sym applications) grouped.1)

  -- the commit of an entry that is no creation is a group, or a close
  later_entry : (entry : Entry) (beside : List actions.Action) → kinds.IsLater entry → Suits [] entry → StandFor schema entry beside → IsLaterCommit beside
  later_entry creation beside later grouped stand = absurd later
  later_entry (group bs) beside later grouped stand =
      let numbered = group_numbered bs (numbers beside) stand.numbered grouped in
      inl (record { only = stand.only; some = numbered.0; different = numbered.1; files = stand.files })
  later_entry (close application) beside later grouped stand = inr (application, stand)

  -- where each entry is a later one, each commit is a group or a close
  all_later : (entries : List Entry) (log : List (List actions.Action)) → AllByRecursion kinds.IsLater entries → AllByRecursion (Suits []) entries → AreMadeFor entries log
      → AllByRecursion (λ made. IsLaterCommit (without_commit_info made)) log
  all_later [] [] later grouped p = tt
  all_later [] (made ∷ log) later grouped p = absurd p
  all_later (entry ∷ entries) [] later grouped p = absurd p
  all_later (entry ∷ entries) (made ∷ log) later grouped p =
      (later_entry entry (without_commit_info made) later.0 grouped.0 p.0, all_later entries log later.1 grouped.1 p.2)

  -- the log begins as the table does
  begins_log : (entries : List Entry) (log : List (List actions.Action)) → Begins entries → AllByRecursion (Suits []) entries → AreMadeFor entries log → BeginsLog schema log
  begins_log [] [] begins grouped p = tt
  begins_log [] (made ∷ log) begins grouped p = absurd p
  begins_log (creation ∷ entries) [] begins grouped p = absurd p
  begins_log (creation ∷ entries) (made ∷ log) begins grouped p = (p.0, all_later entries log begins grouped.1 p.2)
  begins_log (group bs ∷ entries) log begins grouped p = absurd begins
  begins_log (close application ∷ entries) log begins grouped p = absurd begins

  -- ---- a close in the log

  -- what a commit within the log, and those behind it, stand for
  record StandsWithin (entries : List Entry) (made : List actions.Action) (after : List (List actions.Action)) : Type 0 where
    front : List Entry
    entry : Entry
    back : List Entry
    parts : entries ≡ front ++ entry ∷ back
    stand : StandFor schema entry (without_commit_info made)
    files : FilesStand objects schema entry
    behind : AreMadeFor (entry ∷ back) (made ∷ after)

  -- each commit of the log stands for an entry
  within : (entries : List Entry) (before : List (List actions.Action)) (made : List actions.Action) (after : List (List actions.Action)) → AreMadeFor entries (before ++ made ∷ after) → StandsWithin entries made after
  within [] [] made after p = absurd p
  within [] (first ∷ before) made after p = absurd p
  within (entry ∷ entries) [] made after p = record { front = []; entry = entry; back = entries; parts = refl; stand = p.0; files = p.1; behind = p }
  within (entry ∷ entries) (first ∷ before) made after p =
      let later = within entries before made after p.2 in
      record { front = entry ∷ later.front; entry = later.entry; back = later.back; parts = ap (λ (es : List Entry). entry ∷ es) later.parts; stand = later.stand; files = later.files; behind = later.behind }

  -- no number of an application stands in or behind a close of its stream
  closed_log : (entries : List Entry) (log : List (List actions.Action)) → IsLawful entries → AreMadeFor entries log → (application : List ℕ) (before after : List (List actions.Action)) (made : List actions.Action)
      → log ≡ before ++ made ∷ after → IsClose application (without_commit_info made) → numbers_of application (flat_map numbers (made ∷ after)) ≡ []
  closed_log entries log lawful p application before after made at is_close =
      let here = within entries before made after (subst (AreMadeFor entries) at p) in
      let is : here.entry ≡ close application = one_entry objects schema here.entry (close application) (without_commit_info made) here.stand is_close here.files.given tt in
      let cut : entries ≡ here.front ++ close application ∷ here.back = here.parts ∙ ap (λ (e : Entry). here.front ++ e ∷ here.back) is in
      let none : numbers_by application here.back ≡ [] = lawful.closed application here.front here.back (close application) cut (0, omega arith, refl) in
      numbers_by_log application (here.entry ∷ here.back) (made ∷ after) here.behind ∙ ap (λ (e : Entry). numbers_by application (e ∷ here.back)) is ∙ none

-- The log of a lawful store is lawful.
pub lawful_log : (objects : Objects) → IsLawfulStore objects → HasLawfulLog objects
lawful_log objects store =
    let told = HoldsFrom-log objects store.schema 0 store.entries store.holds in
    let made : AreMadeFor objects store.schema store.entries told.0 = made_for objects store.schema 0 store.entries told.0 store.holds told.1 in
    let rises : (application : List ℕ) → Rises (numbers_of application (flat_map numbers told.0)) =
    λ application. subst Rises (sym (numbers_by_log objects store.schema application store.entries told.0 made)) (store.lawful.rises application) in (
      store.schema,
      told.0,
      told.1,
      record {
        begins = begins_log objects store.schema store.entries told.0 store.lawful.begins (each_suits store.entries store.lawful.suits) made;
        files = (batches store.entries, told.2);
        once = different-from_rises (flat_map numbers told.0) rises;
        rises = rises;
        closed = closed_log objects store.schema store.entries told.0 store.lawful made;
      },
    )
