-- A part of the rows, made of the columns of which it was kept.
use Rattle.std.proofs.Common.{◌≡◌, ℕ, ◌+◌, ◌-◌, ◌≤◌, min, List, [], ◌∷◌, map, drop, take, Result, Ok, Err, refl, sym, ap, ◌∙◌, arith}
use Rattle.std.specs.Prelude.{All}
use Rattle.std.specs.List.{AllZip}
use Rattle.std.proofs.lemmas.List.{length-drop, length-map, length-take}
use Rattle.row_core.specs.Rows.{Row}
use Rattle.shred.specs.Shape.{Shape}
use Rattle.shred.specs.Ways.{Step, ways, highest}
use Rattle.shred.specs.Columns.{Cell, Column}
use Rattle.shred.specs.Parts.{part_of, ArePlain, Part}
use Rattle.row_assembly.specs.Faults.{Fault}
use Rattle.row_assembly.specs.Assembly.{AreEven, IsWhole, assembled, cells_of_columns, row_count, rows_made}
use Rattle.row_assembly.specs.Mismatch.{cells_of_ways}
use Rattle.row_assembly.specs.Levels.{tested, rows_left, tests_of, kept_of, AreLong}
use Rattle.row_assembly.specs.Parts.{parts_of, rows_part}
use Rattle.row_assembly.proofs.Rests.{ok_same}
use Rattle.row_assembly.proofs.Even.{columns_sound}
use Rattle.row_assembly.proofs.Uneven.{even_opens}
use Rattle.row_assembly.proofs.Mismatched.{even_rows}
use Rattle.row_assembly.proofs.Masked.{all_masked, tested_masked}
use Rattle.row_assembly.proofs.CutOut.{cells_kept, kept_even, parts_masked, so_many}
use Rattle.row_assembly.proofs.RowParts.{both, dropped_all, dropped_left, dropped_masked, first_fails, in_three, left_long, masked_long, part_made, rows_of_front, rows_split, second_fails, third_fails}

-- the number of rows that were kept
pub kept_count : (first most : ℕ) (ws : List (List Step)) (cs : List Column) → AllZip (IsWhole (row_count cs)) ws cs → row_count (kept_of (map highest ws) (parts_of first most (map highest ws) cs)) ≡ so_many (row_count cs) first most
kept_count first most [] [] even = omega arith
kept_count first most [] (c ∷ cs) even = absurd even
kept_count first most (w ∷ ws) [] even = absurd even
kept_count first most (w ∷ ws) (c ∷ cs) even = length-take most (drop first c.levels) ∙ ap (min most) (length-drop first c.levels)

tests_left : (first most : ℕ) (ws : List (List Step)) (cs : List Column) → AllZip (IsWhole (row_count cs)) ws cs → rows_left (tests_of (map highest ws) (parts_of first most (map highest ws) cs)) ≡ row_count cs
tests_left first most [] [] even = refl
tests_left first most [] (c ∷ cs) even = absurd even
tests_left first most (w ∷ ws) [] even = absurd even
tests_left first most (w ∷ ws) (c ∷ cs) even = length-map c.levels _

parts_twice : (first most : ℕ) (css : List (List Cell)) → map (part_of first most) css ≡ map (take most) (map (drop first) css)
parts_twice first most [] = refl
parts_twice first most (cs ∷ css) = ap (λ xs. part_of first most cs ∷ xs) (parts_twice first most css)

module _ (s : Shape) (first most : ℕ) (given : List Column) (even : AreEven s given) (plain : All ArePlain given) where
  abbrev tops : List ℕ
  tops = map highest (ways s)

  abbrev cells : List (List Cell)
  cells = cells_of_ways (ways s) given

  abbrev rows : ℕ
  rows = row_count given

  abbrev parts : List Part
  parts = parts_of first most tops given

  abbrev pub tests : List (List Cell)
  tests = tests_of tops parts

  abbrev pub before : Result (List Row) Fault
  before = rows_made s (min first rows) cells

  abbrev pub these : Result (List Row) Fault
  these = rows_made s (so_many rows first most) (map (drop first) cells)

  abbrev pub behind : Result (List Row) Fault
  behind = rows_made s ((rows - first) - so_many rows first most) (map (drop (so_many rows first most)) (map (drop first) cells))

  cells_long : AreLong rows cells
  cells_long = (columns_sound rows tops given cells (even_opens rows (ways s) given even)).2

  tests_are : tests ≡ map all_masked cells
  tests_are = parts_masked rows first most (ways s) given even plain

  pub tests_count : rows_left tests ≡ rows
  tests_count = tests_left first most (ways s) given even

  pub tests_long : AreLong (rows_left tests) tests
  tests_long = rw (tests_count, tests_are) (masked_long rows cells cells_long)

  -- all rows are those before, these and those behind
  pub all_rows : assembled s given ≡ in_three before these behind
  all_rows =
      let n = so_many rows first most in
      let rest = (rows - first) - n in
      let total : rows ≡ min first rows + (n + rest) = omega arith in
      even_rows s given even ∙ (ap (λ m. rows_made s m cells) total ∙ (rows_split s (min first rows) (n + rest) cells
      ∙ (ap (λ css. both before (rows_made s (n + rest) css)) (dropped_all rows first cells cells_long) ∙ ap (both before) (rows_split s n rest (map (drop first) cells)))))

  -- the kept columns open to the cells of these rows
  pub kept_open : cells_of_columns (row_count (kept_of tops parts)) tops (kept_of tops parts) ≡ Ok (map (part_of first most) cells)
  kept_open =
      let n = so_many rows first most in
      ap (λ m. cells_of_columns m tops (kept_of tops parts)) (kept_count first most (ways s) given even)
      ∙ (even_opens n (ways s) (kept_of tops parts) (kept_even rows first most (ways s) given even) ∙ ap (λ (css : List (List Cell)). Ok css) (cells_kept first most (ways s) given))

  -- and give these rows
  pub these_rows : rows_made s (row_count (kept_of tops parts)) (map (part_of first most) cells) ≡ these
  these_rows =
      let n = so_many rows first most in
      let less : n ≤ most = omega arith in
      ap (λ m. rows_made s m (map (part_of first most) cells)) (kept_count first most (ways s) given even)
      ∙ (ap (rows_made s n) (parts_twice first most cells) ∙ rows_of_front s n most (map (drop first) cells) less)

  -- the levels before are tested as the rows are made
  pub before_tested : tested s (min first (rows_left tests)) tests ≡ tested s (min first rows) cells
  before_tested = rw (tests_count, tests_are) (tested_masked s (min first rows) cells)

  pub behind_tested : (many : ℕ) → rows ≤ many → tested s (min many (rows_left (map (drop (row_count (kept_of tops parts))) (map (drop first) tests)))) (map (drop (row_count (kept_of tops parts))) (map (drop first) tests)) ≡ tested s ((rows - first) - so_many rows first most) (map (drop (so_many rows first most)) (map (drop first) cells))
  behind_tested many enough =
      let n = so_many rows first most in
      let count = kept_count first most (ways s) given even in
      let left : rows_left (map (drop n) (map (drop first) tests)) ≡ (rows - first) - n = dropped_left n (map (drop first) tests) ∙ ap (λ m. m - n) (dropped_left first tests ∙ ap (λ m. m - first) tests_count) in
      let all : min many (rows_left (map (drop n) (map (drop first) tests))) ≡ (rows - first) - n = omega (arith, left, enough) in
      let masks : map (drop n) (map (drop first) tests) ≡ map all_masked (map (drop n) (map (drop first) cells)) = ap (λ css. map (drop n) (map (drop first) css)) tests_are ∙ (ap (map (drop n)) (dropped_masked first cells) ∙ dropped_masked n (map (drop first) cells)) in
      ap (λ m. tested s (min many (rows_left (map (drop m) (map (drop first) tests)))) (map (drop m) (map (drop first) tests))) count
      ∙ (ap (λ m. tested s m (map (drop n) (map (drop first) tests))) all ∙ (ap (tested s ((rows - first) - n)) masks ∙ tested_masked s ((rows - first) - n) (map (drop n) (map (drop first) cells))))

  part_fails : (e : Fault) → in_three before these behind ≡ Err e → rows_part first most (assembled s given) ≡ Err e
  part_fails e h = ap (rows_part first most) (all_rows ∙ h)

  pub fails_before : (e : Fault) → tested s (min first (rows_left tests)) tests ≡ Err e → rows_part first most (assembled s given) ≡ Err e
  fails_before e h = part_fails e (first_fails before these behind e (sym before_tested ∙ h))

  pub fails_there : (e : Fault) → tested s (min first (rows_left tests)) tests ≡ Ok tt → rows_made s (row_count (kept_of tops parts)) (map (part_of first most) cells) ≡ Err e → rows_part first most (assembled s given) ≡ Err e
  fails_there e done h = part_fails e (second_fails before these behind e (sym before_tested ∙ done) (sym these_rows ∙ h))

  pub fails_behind : (many : ℕ) → rows ≤ many → (rs : List Row) (e : Fault) → tested s (min first (rows_left tests)) tests ≡ Ok tt → rows_made s (row_count (kept_of tops parts)) (map (part_of first most) cells) ≡ Ok rs
      → tested s (min many (rows_left (map (drop (row_count (kept_of tops parts))) (map (drop first) tests)))) (map (drop (row_count (kept_of tops parts))) (map (drop first) tests)) ≡ Err e → rows_part first most (assembled s given) ≡ Err e
  fails_behind many enough rs e done made h = part_fails e (third_fails before these behind rs e (sym before_tested ∙ done) (sym these_rows ∙ made) (sym (behind_tested many enough) ∙ h))

  pub part_given : (many : ℕ) → rows ≤ many → (rs : List Row) → tested s (min first (rows_left tests)) tests ≡ Ok tt → rows_made s (row_count (kept_of tops parts)) (map (part_of first most) cells) ≡ Ok rs
      → tested s (min many (rows_left (map (drop (row_count (kept_of tops parts))) (map (drop first) tests)))) (map (drop (row_count (kept_of tops parts))) (map (drop first) tests)) ≡ Ok tt → rows_part first most (assembled s given) ≡ Ok rs
  part_given many enough rs done made last =
      ap (rows_part first most) all_rows ∙ part_made s rows first most cells (map (drop first) cells) (map (drop (so_many rows first most)) (map (drop first) cells)) rs (sym before_tested ∙ done) (sym these_rows ∙ made) (sym (behind_tested many enough) ∙ last)

  -- ---- as the code has them

  -- the kept columns open
  pub opens : (count : ℕ) (ts : List ℕ) (ks : List Column) → ts ≡ tops → ks ≡ kept_of tops parts → count ≡ row_count ks → cells_of_columns count ts ks ≡ Ok (map (part_of first most) cells)
  opens count ts ks a b c =
      ap (λ m. cells_of_columns m ts ks) c ∙ (ap (λ xs. cells_of_columns (row_count ks) xs ks) a ∙ (ap (λ xs. cells_of_columns (row_count xs) tops xs) b ∙ kept_open))

  -- the rows of the open columns
  pub rows_there : (count : ℕ) (ts : List ℕ) (ks : List Column) (css : List (List Cell)) → ts ≡ tops → ks ≡ kept_of tops parts → count ≡ row_count ks → cells_of_columns count ts ks ≡ Ok css
      → rows_made s (row_count (kept_of tops parts)) (map (part_of first most) cells) ≡ rows_made s count css
  rows_there count ts ks css a b c opened =
      let same = ok_same css (map (part_of first most) cells) (sym opened ∙ opens count ts ks a b c) in
      ap (rows_made s (row_count (kept_of tops parts))) (sym same) ∙ ap (λ m. rows_made s m css) (sym (c ∙ ap row_count b))

  -- the levels behind these rows
  pub views_behind : (count : ℕ) (ks : List Column) (old now new : List (List Cell)) → ks ≡ kept_of tops parts → count ≡ row_count ks → old ≡ tests → (AreLong (rows_left old) old → now ≡ map (drop first) old) → new ≡ map (drop count) now
      → new ≡ map (drop (row_count (kept_of tops parts))) (map (drop first) tests)
  views_behind count ks old now new b c is passed last =
      let long : AreLong (rows_left old) old = rw is tests_long in
      last ∙ (ap (map (drop count)) (passed long ∙ ap (map (drop first)) is) ∙ ap (λ m. map (drop m) (map (drop first) tests)) (c ∙ ap row_count b))

  pub behind_long : AreLong (rows_left (map (drop (row_count (kept_of tops parts))) (map (drop first) tests))) (map (drop (row_count (kept_of tops parts))) (map (drop first) tests))
  behind_long = left_long (row_count (kept_of tops parts)) (map (drop first) tests) (left_long first tests tests_long)
