-- Rows as columns with definition levels (Apache Parquet, "Nested Encoding", without repeated fields).
use Rattle.std.specs.Prelude.{◌≡◌, ℕ, zero, suc, List, [], ◌∷◌, map, Bool, true, false, if◌then◌else◌, Option, Some, None, option_map, All}
use Rattle.std.specs.List.{filter_map}
use Rattle.outcomes.specs.Options.{◌>>=◌}
use Rattle.row_core.specs.Rows.{Value, Values, Row, null, structure, no_values, value}
use Rattle.shred.specs.Shape.{Shape}
use Rattle.shred.specs.Fits.{FitsShape}
use Rattle.shred.specs.Ways.{Step, ways, level_inside}

-- A level, and the value where nothing on the way is null.
pub record Cell : Type 0 where
  pub level : ℕ
  pub value : Option Value

abbrev pub absent_cell : ℕ → Cell
absent_cell level = record { level = level; value = None }

abbrev pub present_cell : ℕ → Value → Cell
present_cell level v = record { level = level; value = Some v }

-- the value at a place of a struct
abbrev pub value_at : ℕ → Values → Option Value
value_at place no_values = None
value_at zero (value v vs) = Some v
value_at (suc place) (value v vs) = value_at place vs

-- the value at a place of what is a struct
abbrev pub field_at : ℕ → Value → Option Value
field_at place (structure vs) = value_at place vs
field_at place _ = None

abbrev pub is_null : Value → Bool
is_null null = true
is_null _ = false

-- the cell of a null that is met at this level: there is one only where the null may stand
abbrev pub null_cell : Bool → ℕ → Option Cell
null_cell optional level = if optional then Some (absent_cell level) else None

-- the cell at the end of a way that begins at this level
abbrev pub cell_from : List Step → ℕ → Value → Option Cell
cell_from [] level v = Some (present_cell level v)
cell_from (step ∷ way) level v = field_at step.place v >>= λ inner. if is_null inner then null_cell step.optional level else cell_from way (level_inside step.optional level) inner

-- How many optional steps come before the first null, and the value at the end where nothing is null.
abbrev pub cell : List Step → Value → Option Cell
cell way row = cell_from way 0 row

-- A column: the levels of its cells, and the values that are there.
pub record Column : Type 0 where
  pub levels : List ℕ
  pub values : List Value

abbrev pub column_of : List Cell → Column
column_of cells = record { levels = map (λ c. c.level) cells; values = filter_map (λ c. c.value) cells }

-- all of them, where each is there
abbrev pub all_some : {A : Type 0} → List (Option A) → Option (List A)
all_some [] = Some []
all_some (x ∷ xs) = x >>= λ y. option_map (λ ys. y ∷ ys) (all_some xs)

abbrev pub column : List Step → List Row → Option Column
column way rows = option_map column_of (all_some (map (cell way) rows))

-- the columns of the rows, one for each leaf
abbrev pub columns : Shape → List Row → Option (List Column)
columns shape rows = all_some (map (λ way. column way rows) (ways shape))

-- The columns are those of these rows, each of which fits the shape.
pub record AreColumnsOf (shape : Shape) (rows : List Row) (given : List Column) : Type 0 where
  pub fit : All (FitsShape shape) rows
  pub are : columns shape rows ≡ Some given
