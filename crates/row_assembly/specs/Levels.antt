-- Rows tested by the levels of their columns, without the values.
use Rattle.std.specs.Prelude.{◌≡◌, ℕ, List, [], ◌∷◌, ◌++◌, map, length, replicate, ◌==◌, true, if◌then◌else◌, Some, None, Result, Ok}
use Rattle.outcomes.specs.Results.{◌>>=◌}
use Rattle.row_core.specs.Rows.{truth}
use Rattle.shred.specs.Shape.{Shape}
use Rattle.shred.specs.Columns.{Cell, Column}
use Rattle.shred.specs.Parts.{Part}
use Rattle.row_assembly.specs.Faults.{Fault}
use Rattle.row_assembly.specs.Assembly.{row_made, rows_made}

-- the cell of a level, with some value at the highest one
abbrev pub test_cell : (top : ℕ) → ℕ → Cell
test_cell top level = record { level = level; value = if level == top then Some (truth true) else None }

abbrev pub test_cells : (top : ℕ) → List ℕ → List Cell
test_cells top levels = map (test_cell top) levels

-- the cells of the levels of each part, one for each highest level
abbrev pub tests_of : List ℕ → List Part → List (List Cell)
tests_of (top ∷ tops) (part ∷ parts) = test_cells top part.levels ∷ tests_of tops parts
tests_of _ _ = []

-- the kept column of each part, one for each highest level
abbrev pub kept_of : List ℕ → List Part → List Column
kept_of (top ∷ tops) (part ∷ parts) = part.kept ∷ kept_of tops parts
kept_of _ _ = []

-- whether it is there, or the fault
abbrev pub outcome : {A : Type 0} → Result A Fault → Result (Unit {0}) Fault
outcome r = r >>= λ given. Ok tt

-- whether the row of these cells can be made
abbrev pub row_tested : Shape → List Cell → Result (Unit {0}) Fault
row_tested shape cells = outcome (row_made shape cells)

-- whether so many rows can be made
abbrev pub tested : Shape → ℕ → List (List Cell) → Result (Unit {0}) Fault
tested shape rows columns = outcome (rows_made shape rows columns)

-- the number of cells of the first column
abbrev pub rows_left : List (List Cell) → ℕ
rows_left [] = 0
rows_left (cells ∷ columns) = length cells

-- each list is so long
abbrev pub AreLong : ℕ → List (List Cell) → Type 0
AreLong rows [] = Unit {0}
AreLong rows (cells ∷ columns) = (length cells ≡ rows) × AreLong rows columns

-- each list begins with so many equal cells
abbrev pub AreEqual : ℕ → List (List Cell) → Type 0
AreEqual rows [] = Unit {0}
AreEqual rows (cells ∷ columns) = ((cell : Cell) × (rest : List Cell) × (cells ≡ replicate rows cell ++ rest)) × AreEqual rows columns
