-- The first row that columns don't give, and the leaf at which it fails.
use Rattle.std.specs.Prelude.{◌≡◌, ◌<◌, ◌==◌, ℕ, ◌+◌, List, [], ◌∷◌, ◌++◌, map, drop, take, length, slice_get, count_by, Some, None}
use Rattle.row_core.specs.Rows.{Row}
use Rattle.schema_tree.specs.Fault.{Path, path_inside}
use Rattle.shred.specs.Shape.{Shape, leaf, struct, Fields, no_fields, field}
use Rattle.shred.specs.Fits.{FitsShape}
use Rattle.shred.specs.Ways.{Step, ways, highest}
use Rattle.shred.specs.Columns.{Cell, Column, cell, AreColumnsOf}
use Rattle.row_assembly.specs.Assembly.{cells_in, heads, row_count, AreEven}

-- the path of each leaf, depth first: the names of the fields that lead to it
abbrev mutual
  pub leaf_paths : Shape → List Path
  leaf_paths leaf = None ∷ []
  leaf_paths (struct fs) = paths_of_fields fs

  pub paths_of_fields : Fields → List Path
  paths_of_fields no_fields = []
  paths_of_fields (field name optional s fs) = map (path_inside name) (leaf_paths s) ++ paths_of_fields fs

-- the cells of each column
abbrev pub cells_of_ways : List (List Step) → List Column → List (List Cell)
cells_of_ways (way ∷ others) (c ∷ cs) = cells_in (highest way) c.levels c.values ∷ cells_of_ways others cs
cells_of_ways _ _ = []

-- the cells of the row at this place, from 0: one of each column
abbrev pub cells_at : Shape → List Column → ℕ → List Cell
cells_at shape given place = heads (map (drop place) (cells_of_ways (ways shape) given))

-- There is a row that fits whose cells at so many leaves, the first ones, are these.
pub record BeginsRow (shape : Shape) (leaves : ℕ) (cells : List Cell) : Type 0 where
  pub row : Row
  pub fits : FitsShape shape row
  pub agrees : map (λ way. cell way row) (take leaves (ways shape)) ≡ map (λ c. Some c) (take leaves cells)

-- There is a row that fits whose cells are these.
abbrev pub MakesRow : Shape → List Cell → Type 0
MakesRow shape cells = BeginsRow shape (length (ways shape)) cells

-- At each place before this one some row that fits has the cells. Here some row that fits has the cells of the leaves
-- before this leaf, and none has these and the leaf's.
pub record FailsFirst (shape : Shape) (given : List Column) (place leaf : ℕ) : Type 0 where
  pub is_place : place < row_count given
  pub is_leaf : leaf < length (ways shape)
  pub rows_before : (before : ℕ) → before < place → MakesRow shape (cells_at shape given before)
  pub leaves_before : BeginsRow shape leaf (cells_at shape given place)
  pub no_row : BeginsRow shape (leaf + 1) (cells_at shape given place) → ⊥

-- The columns are even, and the first row that they don't give fails first at the leaf of this path.
pub record IsMismatch (shape : Shape) (given : List Column) (path : Path) : Type 0 where
  pub even : AreEven shape given
  pub place : ℕ
  pub leaf : ℕ
  pub fails : FailsFirst shape given place leaf
  pub told : slice_get (leaf_paths shape) leaf ≡ Some path

-- ---- the rows before

-- a column cut to so many rows: the first levels, and as many values as stand there at the highest
abbrev pub cut : ℕ → List Step → Column → Column
cut rows way c = record { levels = take rows c.levels; values = take (count_by (λ level. level == highest way) (take rows c.levels)) c.values }

abbrev pub cut_columns : ℕ → List (List Step) → List Column → List Column
cut_columns rows (way ∷ others) (c ∷ cs) = cut rows way c ∷ cut_columns rows others cs
cut_columns rows _ _ = []

-- The columns cut to the rows before this place are those of rows that fit, and no row that fits has the cells of
-- this place.
pub record StopsAt (shape : Shape) (given : List Column) (place : ℕ) : Type 0 where
  pub is_place : place < row_count given
  pub rows : List Row
  pub so_many : length rows ≡ place
  pub before : AreColumnsOf shape rows (cut_columns place (ways shape) given)
  pub no_row : MakesRow shape (cells_at shape given place) → ⊥
