-- A store is lawful where its log is: the entries that a lawful log stands for.
use Rattle.std.proofs.Common.{◌≡◌, ◌≢◌, ℕ, zero, suc, List, [], ◌∷◌, ◌++◌, map, Contains, refl, sym, ap, ap₂, subst, ◌∙◌, arith, inl, inr, flat_map}
use Rattle.std.specs.List.{AllByRecursion}
use Rattle.std.proofs.lemmas.Simd.{map-map}
use Rattle.store_core.specs.Objects.{Objects}
use Rattle.delta_actions.specs.Action as actions
use Rattle.table_store.specs.Schema.{Schema}
use Rattle.table_store.specs.Commits.{without_commit_info, IsClose, StandFor}
use Rattle.table_store.specs.Groups.{numbers}
use Rattle.table_store.specs.Holds.{FileStands, FilesStand, HoldsFrom, IsLawfulStore}
use Rattle.table_store.specs.Logs.{LogFrom, AreBatchesOf}
use Rattle.table_store.specs.LawfulLogs.{IsGroupCommit, IsLaterCommit, BeginsLog, IsLawfulLog, HasLawfulLog}
use Rattle.table_model.specs.Lawful as kinds
use Rattle.table_model.specs.Lawful.{Begins, AreDifferent, Suits, Rises}
use Rattle.table_model.proofs.Callers.{numbers_by-append, suits_each}
use Rattle.table_model.specs.Table.{Batch, Entry, creation, group, close, closes_of, numbers_by}
use Rattle.table_store.proofs.GivenFiles.{files_stand}
use Rattle.table_store.proofs.HoldingLogs.{numbers-without_commit_info}
use Rattle.table_store.proofs.HoldingOne.{named}
use Rattle.table_store.proofs.LawfulLogLemmas.{AreMadeFor, numbers_by_log}

none_later : {A : Type 0} (xs ys : List A) → xs ++ ys ≡ [] → ys ≡ []
none_later [] ys none = none
none_later (x ∷ xs) ys none = absurd cc

module _ (objects : Objects) (schema : Schema) where
  -- ---- the batches of a commit

  -- The batches of the first numbers, and those of the numbers behind them.
  split : (ns ms : List (List ℕ × ℕ)) (bs : List Batch) → AreBatchesOf objects schema (ns ++ ms) bs
      → (front : List Batch) × (back : List Batch) × AreBatchesOf objects schema ns front × AreBatchesOf objects schema ms back
  split [] ms bs told = ([], bs, tt, told)
  split (n ∷ ns) ms [] told = absurd told
  split (n ∷ ns) ms (b ∷ bs) told =
      let later = split ns ms bs told.3 in
      (b ∷ later.0, later.1, (told.0, told.1, told.2, later.2), later.3)

  -- the numbers that tell of batches are theirs
  numbers_told : (ns : List (List ℕ × ℕ)) (bs : List Batch) → AreBatchesOf objects schema ns bs → ns ≡ map named bs
  numbers_told [] [] told = refl
  numbers_told [] (b ∷ bs) told = absurd told
  numbers_told (n ∷ ns) [] told = absurd told
  numbers_told (n ∷ ns) (b ∷ bs) told =
      let first : n ≡ named b = λ i. (sym told.0 i, sym told.1 i) in
      ap₂ (λ (m : List ℕ × ℕ) (ms : List (List ℕ × ℕ)). m ∷ ms) first (numbers_told ns bs told.3)

  -- and the files of these batches stand
  files_told : (ns : List (List ℕ × ℕ)) (bs : List Batch) → AreBatchesOf objects schema ns bs → AllByRecursion (FileStands objects schema) bs
  files_told [] [] told = tt
  files_told [] (b ∷ bs) told = absurd told
  files_told (n ∷ ns) [] told = absurd told
  files_told (n ∷ ns) (b ∷ bs) told =
      let file : FileStands objects schema b = rw (told.0, told.1) told.2 in
      (file, files_told ns bs told.3)

  -- ---- the entry of a commit behind the creation

  -- What a commit behind the creation stands for: an entry that is no creation, whose files stand.
  record LaterEntry (made : List actions.Action) : Type 0 where
    entry : Entry
    stand : StandFor schema entry (without_commit_info made)
    files : FilesStand objects schema entry
    suits : Suits [] entry
    later : kinds.IsLater entry

  group_for : (made : List actions.Action) (bs : List Batch) → IsGroupCommit (without_commit_info made) → AreBatchesOf objects schema (numbers made) bs → LaterEntry made
  group_for made bs is told =
      let named_so : numbers (without_commit_info made) ≡ map named bs = numbers-without_commit_info made ∙ numbers_told (numbers made) bs told in
      let some : bs ≢ [] = λ none. is.some (named_so ∙ ap (map named) none) in
      let apart : map (λ n. n.0) (numbers (without_commit_info made)) ≡ map (λ b. b.application) bs = ap (map (λ (n : List ℕ × ℕ). n.0)) named_so ∙ map-map (λ (n : List ℕ × ℕ). n.0) named bs in
      let different : AreDifferent (map (λ b. b.application) bs) = subst AreDifferent apart is.different in
      record {
        entry = group bs;
        stand = record { only = is.only; numbered = named_so; files = is.files };
        files = files_stand objects schema (group bs) (files_told (numbers made) bs told);
        suits = (some, different);
        later = tt;
      }

  later_entry : (made : List actions.Action) (bs : List Batch) → IsLaterCommit (without_commit_info made) → AreBatchesOf objects schema (numbers made) bs → LaterEntry made
  later_entry made bs (inl is) told = group_for made bs is told
  later_entry made bs (inr is) told = record { entry = close is.0; stand = is.1; files = files_stand objects schema (close is.0) tt; suits = tt; later = tt }

  -- ---- the entries of the log

  -- entries for which the commits of a log were made, of lawful groups
  record Entries (Begin : List Entry → Type 0) (log : List (List actions.Action)) : Type 0 where
    entries : List Entry
    begins : Begin entries
    suits : AllByRecursion (Suits []) entries
    made : AreMadeFor objects schema entries log

  later_entries : (log : List (List actions.Action)) (bs : List Batch) → AllByRecursion (λ made. IsLaterCommit (without_commit_info made)) log → AreBatchesOf objects schema (flat_map numbers log) bs
      → Entries (AllByRecursion kinds.IsLater) log
  later_entries [] bs later told = record { entries = []; begins = tt; suits = tt; made = tt }
  later_entries (made ∷ log) bs later told =
      let parts = split (numbers made) (flat_map numbers log) bs told in
      let first : LaterEntry made = later_entry made parts.0 later.0 parts.2 in
      let behind : Entries (AllByRecursion kinds.IsLater) log = later_entries log parts.1 later.1 parts.3 in
      record {
        entries = first.entry ∷ behind.entries;
        begins = (first.later, behind.begins);
        suits = (first.suits, behind.suits);
        made = (first.stand, first.files, behind.made);
      }

  -- a log that begins as it should stands for entries that begin so
  entries_for : (log : List (List actions.Action)) (bs : List Batch) → BeginsLog schema log → AreBatchesOf objects schema (flat_map numbers log) bs → Entries Begins log
  entries_for [] bs begins told = record { entries = []; begins = tt; suits = tt; made = tt }
  entries_for (made ∷ log) bs begins told =
      let parts = split (numbers made) (flat_map numbers log) bs told in
      let behind : Entries (AllByRecursion kinds.IsLater) log = later_entries log parts.1 begins.1 parts.3 in
      record {
        entries = creation ∷ behind.entries;
        begins = behind.begins;
        suits = (tt, behind.suits);
        made = (begins.0, files_stand objects schema creation tt, behind.made);
      }

  -- the store of a log holds the entries that the log was made for
  holds_for : (version : ℕ) (entries : List Entry) (log : List (List actions.Action)) → AreMadeFor objects schema entries log → LogFrom objects version log → HoldsFrom objects schema version entries
  holds_for version [] [] p q = q
  holds_for version [] (made ∷ log) p q = absurd p
  holds_for version (entry ∷ entries) [] p q = absurd p
  holds_for version (entry ∷ entries) (made ∷ log) p q = (
    (q.0.0, q.0.1, record { actions = made; commit = q.0.2; stand = p.0 }),
    p.1,
    tt,
    holds_for (suc version) entries log p.2 q.1,
  )

  -- ---- a close among the entries

  -- the commit of an entry that stands within the table, and the commits behind it
  record MadeWithin (entry : Entry) (after : List Entry) (log : List (List actions.Action)) : Type 0 where
    front : List (List actions.Action)
    made : List actions.Action
    back : List (List actions.Action)
    parts : log ≡ front ++ made ∷ back
    behind : AreMadeFor objects schema (entry ∷ after) (made ∷ back)

  made_within : (before : List Entry) (entry : Entry) (after : List Entry) (log : List (List actions.Action)) → AreMadeFor objects schema (before ++ entry ∷ after) log → MadeWithin entry after log
  made_within [] entry after [] p = absurd p
  made_within [] entry after (made ∷ log) p = record { front = []; made = made; back = log; parts = refl; behind = p }
  made_within (first ∷ before) entry after [] p = absurd p
  made_within (first ∷ before) entry after (made ∷ log) p =
      let later = made_within before entry after log p.2 in
      record { front = made ∷ later.front; made = later.made; back = later.back; parts = ap (λ (l : List (List actions.Action)). made ∷ l) later.parts; behind = later.behind }

  -- an entry that closes a stream is the close of that stream alone
  close_stands : (entry : Entry) (application : List ℕ) (beside : List actions.Action) → StandFor schema entry beside → Contains (closes_of entry) application → IsClose application beside
  close_stands creation application beside stand (k, lt, is) = absurd (omega (arith, lt))
  close_stands (group bs) application beside stand (k, lt, is) = absurd (omega (arith, lt))
  close_stands (close closed) application beside stand (zero, lt, is) = subst (λ (a : List ℕ). IsClose a beside) is stand
  close_stands (close closed) application beside stand (suc k, lt, is) = absurd (omega (arith, lt))

  -- no number of an application stands with or behind a close of its stream
  closed_entries : (entries : List Entry) (log : List (List actions.Action)) → IsLawfulLog objects schema log → AreMadeFor objects schema entries log
      → (application : List ℕ) (before after : List Entry) (entry : Entry) → entries ≡ before ++ entry ∷ after → Contains (closes_of entry) application → numbers_by application after ≡ []
  closed_entries entries log lawful p application before after entry at closes =
      let here = made_within before entry after log (subst (λ (es : List Entry). AreMadeFor objects schema es log) at p) in
      let is : IsClose application (without_commit_info here.made) = close_stands entry application (without_commit_info here.made) here.behind.0 closes in
      let none : numbers_by application (entry ∷ after) ≡ [] = sym (numbers_by_log objects schema application (entry ∷ after) (here.made ∷ here.back) here.behind) ∙ lawful.closed application here.front here.back here.made here.parts is in
      none_later (numbers_by application (entry ∷ [])) (numbers_by application after) (sym (numbers_by-append application (entry ∷ []) after) ∙ none)

-- A store whose log is lawful is lawful.
pub lawful_store : (objects : Objects) → HasLawfulLog objects → IsLawfulStore objects
lawful_store objects (schema, log, is_log, lawful) =
    let built = entries_for objects schema log lawful.files.0 lawful.begins lawful.files.1 in
    record {
      schema = schema;
      entries = built.entries;
      holds = holds_for objects schema 0 built.entries log built.made is_log;
      lawful = record {
        begins = built.begins;
        suits = suits_each built.entries built.suits;
        rises = λ application. subst Rises (numbers_by_log objects schema application built.entries log built.made) (lawful.rises application);
        closed = closed_entries objects schema built.entries log lawful built.made;
      };
    }
