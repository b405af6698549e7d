-- Rows made again of columns: the first row that can't be made is refused, at the first leaf, depth first, whose
-- cell disagrees with those before it.
use Rattle.std.specs.Prelude.{◌≡◌, ℕ, zero, suc, ◌+◌, ◌==◌, ◌&&◌, List, [], ◌∷◌, drop, length, map, count_by, Bool, true, false, not, if◌then◌else◌, Option, Some, None, is_some, Result, Ok, Err}
use Rattle.std.specs.List.{AllZip, filter_map}
use Rattle.outcomes.specs.Options as options
use Rattle.outcomes.specs.Results.{◌>>=◌, or_refusal, refused_as}
use Rattle.row_core.specs.Rows.{Value, Row, null, structure, values_of}
use Rattle.shred.specs.Shape.{Shape, leaf, struct, Fields, no_fields, field, Field}
use Rattle.shred.specs.Fits.{is_plain}
use Rattle.shred.specs.Ways.{Step, ways, highest}
use Rattle.shred.specs.Columns.{Cell, Column, absent_cell, present_cell}
use Rattle.row_assembly.specs.Faults.{Fault, uneven_columns, level_mismatch, inside}

-- ---- one row, of one cell for each leaf

-- the cell of a null that stands at this level
abbrev pub is_absent : ℕ → Cell → Bool
is_absent level c = c.level == level && not (is_some c.value)

-- the value of a leaf at this level
abbrev pub value_in : ℕ → Cell → Option Value
value_in level c = if c.level == level then options.◌>>=◌ c.value (λ v. if is_plain v then Some v else None) else None

-- the cells behind those of a shape in whose place a null stands
abbrev mutual
  pub passed : Shape → ℕ → List Cell → Result (List Cell) Fault
  passed leaf level [] = Err (level_mismatch None)
  passed leaf level (c ∷ cells) = if is_absent level c then Ok cells else Err (level_mismatch None)
  passed (struct fs) level cells = passed_fields fs level cells

  pub passed_fields : Fields → ℕ → List Cell → Result (List Cell) Fault
  passed_fields no_fields level cells = Ok cells
  passed_fields (field name optional s fs) level cells = refused_as (inside name) (passed s level cells) >>= λ left. passed_fields fs level left

-- whether the first cell is that of a null at this level
abbrev pub begins_absent : ℕ → List Cell → Bool
begins_absent level [] = false
begins_absent level (c ∷ cells) = is_absent level c

abbrev pub Made : Type 0 → Type 0
Made A = Result (A × List Cell) Fault

-- a field's value, where its first leaf tells whether it is null
abbrev pub field_made : Bool → (ℕ → List Cell → Result (List Cell) Fault) → (ℕ → List Cell → Made Value) → ℕ → List Cell → Made Value
field_made false pass make level cells = make level cells
field_made true pass make level cells = if begins_absent level cells then (pass level cells >>= λ left. Ok (null, left)) else make (level + 1) cells

-- the value that the first cells give, and the cells behind them
abbrev mutual
  pub made : Shape → ℕ → List Cell → Made Value
  made leaf level [] = Err (level_mismatch None)
  made leaf level (c ∷ cells) = or_refusal (value_in level c) (level_mismatch None) >>= λ v. Ok (v, cells)
  made (struct fs) level cells = made_fields fs level cells >>= λ given. Ok (structure (values_of given.0), given.1)

  pub made_fields : Fields → ℕ → List Cell → Made (List Value)
  made_fields no_fields level cells = Ok ([], cells)
  made_fields (field name optional s fs) level cells = refused_as (inside name) (field_made optional (passed s) (made s) level cells) >>= λ first. made_fields fs level first.1 >>= λ others. Ok (first.0 ∷ others.0, others.1)

-- the same for a field that lies in a list of fields
abbrev pub passed_field : Field → ℕ → List Cell → Result (List Cell) Fault
passed_field f level cells = refused_as (inside f.name) (passed f.shape level cells)

abbrev pub made_inside : Field → ℕ → List Cell → Made Value
made_inside f level cells = field_made f.optional (passed f.shape) (made f.shape) level cells

abbrev pub made_field : Field → ℕ → List Cell → Made Value
made_field f level cells = refused_as (inside f.name) (made_inside f level cells)

-- ---- whole columns

-- the cells of a column of this highest level: each level there has the next value
abbrev pub cells_in : ℕ → List ℕ → List Value → List Cell
cells_in top [] values = []
cells_in top (level ∷ levels) [] = absent_cell level ∷ cells_in top levels []
cells_in top (level ∷ levels) (v ∷ values) = if level == top then present_cell level v ∷ cells_in top levels values else absent_cell level ∷ cells_in top levels (v ∷ values)

-- so many levels, and a value for each at the highest
abbrev pub is_even : ℕ → ℕ → Column → Bool
is_even rows top c = length c.levels == rows && count_by (λ level. level == top) c.levels == length c.values

-- the cells of a column that is even
abbrev pub cells_of_column : ℕ → ℕ → Column → Option (List Cell)
cells_of_column rows top c = if is_even rows top c then Some (cells_in top c.levels c.values) else None

-- the cells of each column, where there is one even column for each highest level
abbrev pub cells_of_columns : ℕ → List ℕ → List Column → Result (List (List Cell)) Fault
cells_of_columns rows [] [] = Ok []
cells_of_columns rows (top ∷ tops) (c ∷ cs) = or_refusal (cells_of_column rows top c) uneven_columns >>= λ cells. cells_of_columns rows tops cs >>= λ others. Ok (cells ∷ others)
cells_of_columns rows _ _ = Err uneven_columns

-- the number of levels of the first column
abbrev pub row_count : List Column → ℕ
row_count [] = 0
row_count (c ∷ cs) = length c.levels

abbrev pub first_cell : List Cell → Option Cell
first_cell [] = None
first_cell (c ∷ cells) = Some c

-- the first cell of each column
abbrev pub heads : List (List Cell) → List Cell
heads columns = filter_map first_cell columns

-- the row of these cells
abbrev pub row_made : Shape → List Cell → Result Row Fault
row_made shape cells = made shape 0 cells >>= λ row. Ok row.0

-- so many rows, each of the first cells that are left
abbrev pub rows_made : Shape → ℕ → List (List Cell) → Result (List Row) Fault
rows_made shape zero columns = Ok []
rows_made shape (suc rows) columns = row_made shape (heads columns) >>= λ row. rows_made shape rows (map (drop 1) columns) >>= λ others. Ok (row ∷ others)

-- the rows whose columns these are, or why there are none
unfoldable pub assembled : Shape → List Column → Result (List Row) Fault
assembled shape given = cells_of_columns (row_count given) (map highest (ways shape)) given >>= λ cells. rows_made shape (row_count given) cells

-- ---- columns that belong together

-- so many levels, and a value for each at the highest level of the way
pub record IsWhole (rows : ℕ) (way : List Step) (c : Column) : Type 0 where
  pub levels_each : length c.levels ≡ rows
  pub values_each : count_by (λ level. level == highest way) c.levels ≡ length c.values

-- There is one column for each leaf, and each has as many levels as the first.
abbrev pub AreEven : Shape → List Column → Type 0
AreEven shape given = AllZip (IsWhole (row_count given)) (ways shape) given
