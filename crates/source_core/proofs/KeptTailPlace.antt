-- Where a place stands among the files of a log and among the rows of its table.
use Rattle.std.proofs.Common.{◌≡◌, ℕ, suc, ◌-◌, ◌<◌, Bool, true, false, min, ltb, List, [], ◌∷◌, ◌++◌, length, map, Ok, refl, ap, ◌∙◌, append_assoc, arith, inl, inr, ◌⊎◌}
use Rattle.std.specs.Prelude.{filter, not}
use Rattle.std.proofs.lemmas.Bool.{cases_Bool}
use Rattle.std.proofs.lemmas.Bool.Decides.{nat_tests}
use Rattle.std.proofs.lemmas.List.Elements.{filter-append}
use Rattle.store_core.specs.Objects.{Objects}
use Rattle.delta_actions.specs.Kinds.{PathAndKey}
use Rattle.delta_actions.specs.Action as actions
use Rattle.row_core.specs.Rows.{Row}
use Rattle.schema_tree.specs.Tree.{Tree}
use Rattle.table_model.specs.Table.{Entry, files_of}
use Rattle.table_model.specs.Reads.{placed_rows, placed_files, placed_from, is_before}
use Rattle.table_model.specs.declared.reading.Offset.{Offset}
use Rattle.delta_actions.specs.In.{new_files}
use Rattle.log_rows.specs.Tailing as tails
use Rattle.log_rows.specs.Tailing.{LogFile, file_rows, numbered_files}
use Rattle.source_core.proofs.LogFiles.{files_from}
use Rattle.source_core.proofs.KeptTailWalk.{Found, file_of, rows_in, AreFound}

-- ---- the files of a log and the rows of its table

-- paths in order, which read as these lists of rows, whatever their version and number
abbrev pub AreFilesFound : Objects → (schema : Tree) → List PathAndKey → List (List Row) → Type 0
AreFilesFound objects schema [] [] = Unit {0}
AreFilesFound objects schema [] (rows ∷ files) = ⊥
AreFilesFound objects schema (path ∷ paths) [] = ⊥
AreFilesFound objects schema (path ∷ paths) (rows ∷ files) = ((version file : ℕ) → file_rows objects schema (record { version = version; file = file; path = path }) ≡ Ok rows)
    × AreFilesFound objects schema paths files

-- a commit brings the files of its entry
abbrev pub IsEntryFound : Objects → (schema : Tree) → Entry → List actions.Action → Type 0
IsEntryFound objects schema entry made = AreFilesFound objects schema (new_files made) (files_of entry)

-- the same of a table's entries and the commits of its log, one behind the other
abbrev pub AreEntriesFound : Objects → (schema : Tree) → List Entry → List (List actions.Action) → Type 0
AreEntriesFound objects schema [] [] = Unit {0}
AreEntriesFound objects schema [] (made ∷ commits) = ⊥
AreEntriesFound objects schema (entry ∷ entries) [] = ⊥
AreEntriesFound objects schema (entry ∷ entries) (made ∷ commits) = IsEntryFound objects schema entry made × AreEntriesFound objects schema entries commits

-- there is a commit for each entry
pub as_many_commits : (objects : Objects) (schema : Tree) (entries : List Entry) (commits : List (List actions.Action)) → AreEntriesFound objects schema entries commits
    → length commits ≡ length entries
as_many_commits objects schema [] [] found = refl
as_many_commits objects schema [] (made ∷ commits) found = absurd found
as_many_commits objects schema (entry ∷ entries) [] found = absurd found
as_many_commits objects schema (entry ∷ entries) (made ∷ commits) found = ap suc (as_many_commits objects schema entries commits found.1)

-- a file is that of a place or stands behind it
abbrev pub is_ahead : Offset → LogFile → Bool
is_ahead place file = not (tails.is_file_before place file.version file.file)

-- a row stands before a place
abbrev pub stands_before : Offset → Offset × Row → Bool
stands_before place p = is_before p.0 place

-- ---- files behind that of a place

-- a version's file stands behind that of a place
abbrev pub IsPast : Offset → (version file : ℕ) → Type 0
IsPast place version file = (place.version < version) ⊎ ((place.version ≡ version) × (place.file < file))

-- it is ahead
past_file : (place : Offset) (version file : ℕ) → IsPast place version file → not (tails.is_file_before place version file) ≡ true
past_file place version file past = grind (arith, nat_tests, past)

-- none of its rows stands before the place
past_row : (place : Offset) (version file row : ℕ) → IsPast place version file → is_before (record { version = version; file = file; row = row }) place ≡ false
past_row place version file row past = grind (arith, nat_tests, past)

past_rows : (place : Offset) (version file row : ℕ) (rs : List Row) → IsPast place version file → filter (stands_before place) (placed_rows version file row rs) ≡ []
past_rows place version file row [] past = refl
past_rows place version file row (r ∷ rs) past = rw (past_row place version file row past) (past_rows place version file (suc row) rs past)

-- the version's next file stands behind it too
past_next : (place : Offset) (version file : ℕ) → IsPast place version file → IsPast place version (suc file)
past_next place version file past = elim past [ inl lt ↦ inl lt | inr at ↦ inr (at.0, omega (arith, at.1)) ]

-- Files behind that of a place, which read as these rows.
pub record Behind (objects : Objects) (schema : Tree) (place : Offset) (all_files : List LogFile) (all_rows : List (Offset × Row)) : Type 0 where
  pub founds : List Found
  pub files : all_files ≡ map file_of founds
  pub found : AreFound objects schema founds
  pub rows : all_rows ≡ rows_in founds
  pub ahead : filter (is_ahead place) all_files ≡ all_files
  pub none_before : filter (stands_before place) all_rows ≡ []

module _ (objects : Objects) (schema : Tree) (place : Offset) where
  -- one more file in front
  behind_first : (f : Found) (files : List LogFile) (rows : List (Offset × Row)) → IsPast place f.version f.file → file_rows objects schema (file_of f) ≡ Ok f.rows
      → Behind objects schema place files rows → Behind objects schema place (file_of f ∷ files) (placed_rows f.version f.file 0 f.rows ++ rows)
  behind_first f files rows past reads later =
      let here = placed_rows f.version f.file 0 f.rows in
      record {
        founds = f ∷ later.founds;
        files = ap (λ (fs : List LogFile). file_of f ∷ fs) later.files;
        found = (reads, later.found);
        rows = ap (λ (ps : List (Offset × Row)). here ++ ps) later.rows;
        ahead = rw (past_file place f.version f.file past, later.ahead) refl;
        none_before = filter-append (stands_before place) here rows ∙ rw (past_rows place f.version f.file 0 f.rows past, later.none_before) refl;
      }

  -- the files of a version in front, from one on that stands behind that of the place
  pub files_behind : (version file : ℕ) (paths : List PathAndKey) (files : List (List Row)) (late_files : List LogFile) (late_rows : List (Offset × Row))
      → IsPast place version file → AreFilesFound objects schema paths files → Behind objects schema place late_files late_rows
      → Behind objects schema place (numbered_files version file paths ++ late_files) (placed_files version file files ++ late_rows)
  files_behind version file [] [] late_files late_rows past found late = late
  files_behind version file [] (rows ∷ files) late_files late_rows past found late = absurd found
  files_behind version file (path ∷ paths) [] late_files late_rows past found late = absurd found
  files_behind version file (path ∷ paths) (rows ∷ files) late_files late_rows past found late =
      let first : Found = record { version = version; file = file; path = path; rows = rows } in
      let others = files_behind version (suc file) paths files late_files late_rows (past_next place version file past) found.1 late in
      rw (append_assoc (placed_rows version file 0 rows) (placed_files version (suc file) files) late_rows)
      (behind_first first (numbered_files version (suc file) paths ++ late_files) (placed_files version (suc file) files ++ late_rows) past (found.0 version file) others)

  -- the files of the versions behind that of the place
  pub log_behind : (version : ℕ) (entries : List Entry) (commits : List (List actions.Action)) → place.version < version → AreEntriesFound objects schema entries commits
      → Behind objects schema place (files_from version commits) (placed_from version entries)
  log_behind version [] [] lt found = record { founds = []; files = refl; found = tt; rows = refl; ahead = refl; none_before = refl }
  log_behind version [] (made ∷ commits) lt found = absurd found
  log_behind version (entry ∷ entries) [] lt found = absurd found
  log_behind version (entry ∷ entries) (made ∷ commits) lt found =
      let later = log_behind (suc version) entries commits (omega arith) found.1 in
      files_behind version 0 (new_files made) (files_of entry) (files_from (suc version) commits) (placed_from (suc version) entries) (inl lt) found.0 later

-- ---- files before that of a place

-- a version's file stands before that of a place
abbrev pub IsEarlier : Offset → (version file : ℕ) → Type 0
IsEarlier place version file = (version < place.version) ⊎ ((version ≡ place.version) × (file < place.file))

-- it isn't ahead
earlier_file : (place : Offset) (version file : ℕ) → IsEarlier place version file → not (tails.is_file_before place version file) ≡ false
earlier_file place version file earlier = grind (arith, nat_tests, earlier)

-- each of its rows stands before the place
earlier_row : (place : Offset) (version file row : ℕ) → IsEarlier place version file → is_before (record { version = version; file = file; row = row }) place ≡ true
earlier_row place version file row earlier = grind (arith, nat_tests, earlier)

earlier_rows : (place : Offset) (version file row : ℕ) (rs : List Row) → IsEarlier place version file → filter (stands_before place) (placed_rows version file row rs) ≡ placed_rows version file row rs
earlier_rows place version file row [] earlier = refl
earlier_rows place version file row (r ∷ rs) earlier = rw (earlier_row place version file row earlier, earlier_rows place version file (suc row) rs earlier) refl

-- Files before that of a place, and their rows.
pub record Passed (place : Offset) (files : List LogFile) (rows : List (Offset × Row)) : Type 0 where
  pub none_ahead : filter (is_ahead place) files ≡ []
  pub all_before : filter (stands_before place) rows ≡ rows

-- one file
pub file_passed : (place : Offset) (f : Found) → IsEarlier place f.version f.file → Passed place (file_of f ∷ []) (placed_rows f.version f.file 0 f.rows)
file_passed place f earlier = record {
  none_ahead = rw (earlier_file place f.version f.file earlier) refl;
  all_before = earlier_rows place f.version f.file 0 f.rows earlier;
}

-- the files of an earlier version
numbered_passed : (place : Offset) (version file : ℕ) (paths : List PathAndKey) → version < place.version → filter (is_ahead place) (numbered_files version file paths) ≡ []
numbered_passed place version file [] lt = refl
numbered_passed place version file (path ∷ paths) lt = rw (earlier_file place version file (inl lt)) (numbered_passed place version (suc file) paths lt)

files_passed : (place : Offset) (version file : ℕ) (files : List (List Row)) → version < place.version → filter (stands_before place) (placed_files version file files) ≡ placed_files version file files
files_passed place version file [] lt = refl
files_passed place version file (rows ∷ files) lt =
    filter-append (stands_before place) (placed_rows version file 0 rows) (placed_files version (suc file) files)
    ∙ rw (earlier_rows place version file 0 rows (inl lt), files_passed place version (suc file) files lt) refl

pub version_passed : (place : Offset) (version : ℕ) (paths : List PathAndKey) (files : List (List Row)) → version < place.version → Passed place (numbered_files version 0 paths) (placed_files version 0 files)
version_passed place version paths files lt = record { none_ahead = numbered_passed place version 0 paths lt; all_before = files_passed place version 0 files lt }

-- ---- the file of a place

-- it is ahead
pub file_here : (place : Offset) (version file : ℕ) → place.version ≡ version → place.file ≡ file → not (tails.is_file_before place version file) ≡ true
file_here place version file at here = grind (arith, nat_tests, at, here)

-- how many of its rows stand before the place
pub rows_before : (place : Offset) (version file row : ℕ) (rs : List Row) → place.version ≡ version → place.file ≡ file
    → length (filter (stands_before place) (placed_rows version file row rs)) ≡ min (place.row - row) (length rs)
rows_before place version file row [] at here = omega arith
rows_before place version file row (r ∷ rs) at here =
    let others = rows_before place version file (suc row) rs at here in
    elim (cases_Bool (ltb row place.row)) [
      | inl lt ↦
          let first : is_before (record { version = version; file = file; row = row }) place ≡ true = grind (arith, nat_tests, at, here, lt) in
          rw (first, others) (grind (arith, nat_tests, lt))
      | inr ge ↦
          let first : is_before (record { version = version; file = file; row = row }) place ≡ false = grind (arith, nat_tests, at, here, ge) in
          rw (first, others) (grind (arith, nat_tests, ge))
    ]
