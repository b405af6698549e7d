-- What is kept of a column whose pages were read.
use Rattle.std.specs.Prelude.{◌≡◌, ℕ, length}
use Rattle.shred.specs.Columns.{Column}
use Rattle.shred.specs.Parts.{Part, cut_out, ArePlain}
use Rattle.shred.specs.Views.{part_view}
use Rattle.shred.specs.declared.columns.ColumnPart.{ColumnPart}
use Rattle.row_core.specs.declared.value.Value.{Value}
use Rattle.parquet_pages.specs.Pages.{Leaf, highest}
use Rattle.page_cells.specs.Levels.{present}

-- the cells of at most so many rows, from a place on
abbrev pub cut_cells : Leaf → (first most : ℕ) → Column → Column
cut_cells l first most c = cut_out first most (highest l) c

-- what is kept of a column
abbrev pub kept_of : Leaf → (first most : ℕ) → Column → Part
kept_of l first most c = record { levels = c.levels; kept = cut_cells l first most c }

-- This is kept of the column, which has a value for each highest level and none that is null or a struct.
pub record IsPartOf (l : Leaf) (first most : ℕ) (p : ColumnPart Value) (c : Column) : Type 0 where
  pub kept : part_view p ≡ kept_of l first most c
  pub value_each : present (highest l) c.levels ≡ length c.values
  pub plain : ArePlain c
