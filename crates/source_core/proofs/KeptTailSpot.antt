-- The tests of a place, by the files of a log and by the entries of its table.
use Rattle.std.proofs.Common.{◌≡◌, ℕ, zero, suc, ◌+◌, ◌≤◌, ◌<◌, Bool, true, false, eqb, leb, List, [], ◌∷◌, ◌++◌, length, map, drop, Ok, Err, refl, ap, ◌∙◌, append_assoc, arith, inl, inr, ◌⊎◌, length-append}
use Rattle.std.specs.Prelude.{filter, Result, nat_lt, ◌==◌, ◌||◌, ◌&&◌}
use Rattle.std.proofs.Math.Seq.{drop-append-add}
use Rattle.std.proofs.lemmas.Bool.{cases_Bool, leb-true, leb-false, eq-eqb, eqb-true, eqb-false, ne_eqb}
use Rattle.std.proofs.lemmas.Bool.Decides.{nat_tests}
use Rattle.std.proofs.lemmas.List.Elements.{filter-append}
use Rattle.store_core.specs.Objects.{Objects}
use Rattle.delta_actions.specs.Kinds.{PathAndKey}
use Rattle.delta_actions.specs.Action as actions
use Rattle.row_core.specs.Rows.{Row}
use Rattle.schema_tree.specs.Tree.{Tree}
use Rattle.table_model.specs.Table.{Entry, files_of}
use Rattle.table_model.specs.Reads.{placed_rows, placed_files, placed_from, is_in_files, is_offset_from}
use Rattle.table_model.specs.declared.reading.Offset.{Offset}
use Rattle.delta_actions.specs.In.{new_files}
use Rattle.log_rows.specs.Tailing.{LogFile, ReadRefusal, file_rows, numbered_files, unless_no_file, bad_place}
use Rattle.source_core.proofs.LogFiles.{files_from, commit_at}
use Rattle.source_core.proofs.KeptTailWalk.{Found, file_of, rows_in, AreFound, AreWithin, within_none}
use Rattle.source_core.proofs.KeptTailPlace.{AreFilesFound, AreEntriesFound, is_ahead, stands_before, Behind, files_behind, log_behind, Passed, file_passed, version_passed, file_here, rows_before}

-- The files from a place on read as the rows from it on, but for those in the first file before it.
pub record AheadIn (objects : Objects) (schema : Tree) (place : Offset) (all_files : List LogFile) (all_rows : List (Offset × Row)) : Type 0 where
  pub founds : List Found
  pub files : filter (is_ahead place) all_files ≡ map file_of founds
  pub found : AreFound objects schema founds
  pub within : AreWithin place.row founds
  pub rows : drop (length (filter (stands_before place) all_rows)) all_rows ≡ drop place.row (rows_in founds)

-- The first file from a place on has fewer rows than the place passes over.
pub record ShortIn (objects : Objects) (schema : Tree) (place : Offset) (all_files : List LogFile) : Type 0 where
  pub first : Found
  pub founds : List Found
  pub files : filter (is_ahead place) all_files ≡ map file_of (first ∷ founds)
  pub found : AreFound objects schema (first ∷ founds)
  pub at : first.version ≡ place.version
  pub past_it : length first.rows < place.row

-- what two tests say of a place, that of the table and that of the log: a read can begin there, or the version has no
-- such file, or the file has no such row
pub data SpotIn (objects : Objects) (schema : Tree) (place : Offset) (is : Bool) (test : Result (Unit {0}) ReadRefusal) (files : List LogFile) (rows : List (Offset × Row)) : Type 0 where
  stands : is ≡ true → test ≡ Ok tt → AheadIn objects schema place files rows → SpotIn objects schema place is test files rows
  no_file : is ≡ false → test ≡ Err (bad_place place.version) → SpotIn objects schema place is test files rows
  no_row : is ≡ false → test ≡ Ok tt → ShortIn objects schema place files → SpotIn objects schema place is test files rows

-- the same of the entries of a table from a version on, and of their commits
abbrev pub Ahead : Objects → (schema : Tree) → Offset → (version : ℕ) → List Entry → List (List actions.Action) → Type 0
Ahead objects schema place version entries commits = AheadIn objects schema place (files_from version commits) (placed_from version entries)

-- of which the commit of the place's version is the one behind so many
abbrev pub Spot : Objects → (schema : Tree) → Offset → (version behind : ℕ) → List Entry → List (List actions.Action) → Type 0
Spot objects schema place version behind entries commits = SpotIn objects schema place (is_offset_from version place entries) (unless_no_file place (length (new_files (commit_at behind commits))))
    (files_from version commits) (placed_from version entries)

-- ---- the log's test

-- a file of the version
in_files : (place : Offset) (files : ℕ) → place.file < files → unless_no_file place files ≡ Ok tt
in_files place files lt =
    let passes : (nat_lt files place.file || (place.file == files && nat_lt 0 place.row)) ≡ false = grind (arith, nat_tests, lt) in
    rw passes refl

-- directly behind the last one
behind_files : (place : Offset) (files : ℕ) → place.file ≡ files → place.row ≡ 0 → unless_no_file place files ≡ Ok tt
behind_files place files at none =
    let passes : (nat_lt files place.file || (place.file == files && nat_lt 0 place.row)) ≡ false = grind (arith, nat_tests, at, none) in
    rw passes refl

-- a row behind the last one
row_behind_files : (place : Offset) (files : ℕ) → place.file ≡ files → (place.row ≡ 0 → ⊥) → unless_no_file place files ≡ Err (bad_place place.version)
row_behind_files place files at some =
    let fails : (nat_lt files place.file || (place.file == files && nat_lt 0 place.row)) ≡ true = grind (arith, nat_tests, at, some) in
    rw fails refl

-- a file that the version doesn't have
past_files : (place : Offset) (files : ℕ) → files < place.file → unless_no_file place files ≡ Err (bad_place place.version)
past_files place files lt =
    let fails : (nat_lt files place.file || (place.file == files && nat_lt 0 place.row)) ≡ true = grind (arith, nat_tests, lt) in
    rw fails refl

module _ (objects : Objects) (schema : Tree) (place : Offset) where
  -- ---- files before that of the place

  -- files that are passed change nothing of the files ahead
  files_on : (before files : List LogFile) → filter (is_ahead place) before ≡ [] → filter (is_ahead place) (before ++ files) ≡ filter (is_ahead place) files
  files_on before files none = filter-append (is_ahead place) before files ∙ rw none refl

  -- nor do their rows of the rows ahead
  rows_on : (before rows : List (Offset × Row)) → filter (stands_before place) before ≡ before
      → drop (length (filter (stands_before place) (before ++ rows))) (before ++ rows) ≡ drop (length (filter (stands_before place) rows)) rows
  rows_on before rows all =
      let others = filter (stands_before place) rows in
      let count : length (filter (stands_before place) (before ++ rows)) ≡ length before + length others =
      ap (λ (ps : List (Offset × Row)). length ps) (filter-append (stands_before place) before rows) ∙ rw all (length-append before others) in
      rw count (drop-append-add before rows (length others))

  -- the tests say the same with passed files in front
  spot_on : (is : Bool) (test : Result (Unit {0}) ReadRefusal) (before files : List LogFile) (rows_of_before rows : List (Offset × Row)) → Passed place before rows_of_before
      → SpotIn objects schema place is test files rows → SpotIn objects schema place is test (before ++ files) (rows_of_before ++ rows)
  spot_on is test before files rows_of_before rows passed (stands begins file ahead) = stands begins file (record {
    founds = ahead.founds;
    files = files_on before files passed.none_ahead ∙ ahead.files;
    found = ahead.found;
    within = ahead.within;
    rows = rows_on rows_of_before rows passed.all_before ∙ ahead.rows;
  })
  spot_on is test before files rows_of_before rows passed (no_file fails file) = no_file fails file
  spot_on is test before files rows_of_before rows passed (no_row fails file short) = no_row fails file (record {
    first = short.first;
    founds = short.founds;
    files = files_on before files passed.none_ahead ∙ short.files;
    found = short.found;
    at = short.at;
    past_it = short.past_it;
  })

  -- ---- the file of the place

  -- directly behind the last file of a version
  ahead_behind : (files : List LogFile) (rows : List (Offset × Row)) → place.row ≡ 0 → Behind objects schema place files rows → AheadIn objects schema place files rows
  ahead_behind files rows none late = record {
    founds = late.founds;
    files = late.ahead ∙ late.files;
    found = late.found;
    within = rw none (within_none late.founds);
    rows = rw (late.none_before, none) late.rows;
  }

  module _ (f : Found) (files : List LogFile) (rows : List (Offset × Row)) (at : place.version ≡ f.version) (here : place.file ≡ f.file) (reads : file_rows objects schema (file_of f) ≡ Ok f.rows)
      (late : Behind objects schema place files rows) where
    -- the file is the first one ahead
    first_ahead : filter (is_ahead place) (file_of f ∷ files) ≡ map file_of (f ∷ late.founds)
    first_ahead = rw (file_here place f.version f.file at here, late.ahead) (ap (λ (fs : List LogFile). file_of f ∷ fs) late.files)

    -- a row of the file, or the place behind its last one
    ahead_in_file : place.row ≤ length f.rows → AheadIn objects schema place (file_of f ∷ files) (placed_rows f.version f.file 0 f.rows ++ rows)
    ahead_in_file fits =
        let first = placed_rows f.version f.file 0 f.rows in
        let count : length (filter (stands_before place) (first ++ rows)) ≡ place.row =
        ap (λ (ps : List (Offset × Row)). length ps) (filter-append (stands_before place) first rows)
        ∙ rw late.none_before (length-append (filter (stands_before place) first) [] ∙ omega (arith, rows_before place f.version f.file 0 f.rows at here)) in
        record {
          founds = f ∷ late.founds;
          files = first_ahead;
          found = (reads, late.found);
          within = fits;
          rows = rw (count, late.rows) refl;
        }

    -- a row that the file doesn't have
    short_in_file : length f.rows < place.row → ShortIn objects schema place (file_of f ∷ files)
    short_in_file past_it = record {
      first = f;
      founds = late.founds;
      files = first_ahead;
      found = (reads, late.found);
      at = rw at refl;
      past_it = past_it;
    }

    -- the tests in the file of the place
    spot_in_file : (test : Result (Unit {0}) ReadRefusal) → test ≡ Ok tt
        → SpotIn objects schema place (leb place.row (length f.rows)) test (file_of f ∷ files) (placed_rows f.version f.file 0 f.rows ++ rows)
    spot_in_file test is =
        elim (cases_Bool (leb place.row (length f.rows))) [
          | inl fits ↦ stands fits is (ahead_in_file (leb-true place.row (length f.rows) fits))
          | inr fails ↦ no_row fails is (short_in_file (leb-false place.row (length f.rows) fails))
        ]

  -- ---- the version of the place

  module _ (version count : ℕ) (at : place.version ≡ version) (late_files : List LogFile) (late_rows : List (Offset × Row))
      (late : Behind objects schema place late_files late_rows) where
    -- the tests in a version of so many files, of which these are the files from one on
    spot_in_files : (file k : ℕ) (paths : List PathAndKey) (files : List (List Row)) → AreFilesFound objects schema paths files → place.file ≡ file + k → count ≡ file + length paths
        → SpotIn objects schema place (is_in_files k place.row files) (unless_no_file place count) (numbered_files version file paths ++ late_files) (placed_files version file files ++ late_rows)
    spot_in_files file k [] (rows ∷ files) found here many = absurd found
    spot_in_files file k (path ∷ paths) [] found here many = absurd found
    spot_in_files file zero [] [] found here many =
        let last : place.file ≡ count = omega arith in
        elim (cases_Bool (eqb place.row 0)) [
          | inl none ↦ let start = eqb-true place.row 0 none in stands none (behind_files place count last start) (ahead_behind late_files late_rows start late)
          | inr some ↦ no_file some (row_behind_files place count last (eqb-false place.row 0 some))
        ]
    spot_in_files file (suc k) [] [] found here many = no_file refl (past_files place count (omega arith))
    spot_in_files file zero (path ∷ paths) (rows ∷ files) found here many =
        let first : Found = record { version = version; file = file; path = path; rows = rows } in
        let others = files_behind objects schema place version (suc file) paths files late_files late_rows (inr (at, omega arith)) found.1 late in
        rw (append_assoc (placed_rows version file 0 rows) (placed_files version (suc file) files) late_rows)
        (spot_in_file first (numbered_files version (suc file) paths ++ late_files) (placed_files version (suc file) files ++ late_rows) at (omega arith) (found.0 version file) others
        (unless_no_file place count) (in_files place count (omega arith)))
    spot_in_files file (suc k) (path ∷ paths) (rows ∷ files) found here many =
        let first : Found = record { version = version; file = file; path = path; rows = rows } in
        let passed = file_passed place first (inr (omega arith, omega arith)) in
        rw (append_assoc (placed_rows version file 0 rows) (placed_files version (suc file) files) late_rows)
        (spot_on (is_in_files k place.row files) (unless_no_file place count) (file_of first ∷ []) (numbered_files version (suc file) paths ++ late_files) (placed_rows version file 0 rows)
        (placed_files version (suc file) files ++ late_rows) passed (spot_in_files (suc file) k paths files found.1 (omega arith) (omega arith)))

module _ (objects : Objects) (schema : Tree) where
  -- ---- the whole log

  -- no version is left
  spot_at_end : (place : Offset) (version : ℕ) → place.version ≡ version → place.file ≡ 0 → place.row ≡ 0 → Spot objects schema place version zero [] []
  spot_at_end place version at file row = stands (rw (eq-eqb place.version version at, file, row) refl) (rw (file, row) refl) (record {
    founds = [];
    files = refl;
    found = tt;
    within = row;
    rows = rw row refl;
  })

  -- the tests don't look at earlier versions
  spot_later : (place : Offset) (version behind : ℕ) (entry : Entry) (entries : List Entry) (made : List actions.Action) (commits : List (List actions.Action)) → version < place.version
      → Spot objects schema place (suc version) behind entries commits → Spot objects schema place version (suc behind) (entry ∷ entries) (made ∷ commits)
  spot_later place version behind entry entries made commits lt later =
      let other = ne_eqb place.version version (λ e. omega arith) in
      rw other (spot_on objects schema place (is_offset_from (suc version) place entries) (unless_no_file place (length (new_files (commit_at behind commits))))
      (numbered_files version 0 (new_files made)) (files_from (suc version) commits) (placed_files version 0 (files_of entry)) (placed_from (suc version) entries)
      (version_passed place version (new_files made) (files_of entry) lt) later)

  -- what the tests say of a place that is at most the start of the version that comes next
  pub spotted : (place : Offset) (version behind : ℕ) (entries : List Entry) (commits : List (List actions.Action)) → AreEntriesFound objects schema entries commits → place.version ≡ version + behind
      → (place.version < version + length entries) ⊎ ((place.version ≡ version + length entries) × (place.file ≡ 0) × (place.row ≡ 0)) → Spot objects schema place version behind entries commits
  spotted place version zero [] [] found at (inl near) = absurd (omega arith)
  spotted place version zero [] [] found at (inr near) = spot_at_end place version (omega arith) near.1 near.2
  spotted place version (suc behind) [] [] found at (inl near) = absurd (omega arith)
  spotted place version (suc behind) [] [] found at (inr near) = absurd (omega (arith, near.0))
  spotted place version behind [] (made ∷ commits) found at near = absurd found
  spotted place version behind (entry ∷ entries) [] found at near = absurd found
  spotted place version zero (entry ∷ entries) (made ∷ commits) found at near =
      let same : place.version ≡ version = omega arith in
      let late = log_behind objects schema place (suc version) entries commits (omega arith) found.1 in
      rw (eq-eqb place.version version same) (spot_in_files objects schema place version (length (new_files made)) same (files_from (suc version) commits) (placed_from (suc version) entries) late
      0 place.file (new_files made) (files_of entry) found.0 (omega arith) (omega arith))
  spotted place version (suc behind) (entry ∷ entries) (made ∷ commits) found at (inl near) =
      spot_later place version behind entry entries made commits (omega arith) (spotted place (suc version) behind entries commits found.1 (omega arith) (inl (omega arith)))
  spotted place version (suc behind) (entry ∷ entries) (made ∷ commits) found at (inr near) =
      spot_later place version behind entry entries made commits (omega arith) (spotted place (suc version) behind entries commits found.1 (omega arith) (inr (omega (arith, near.0), near.1, near.2)))
