-- What a reader of a column's pages has left.
use Rattle.std.specs.Prelude.{◌≡◌, ℕ, ◌+◌, ◌≤◌, List, [], length, Result, Ok, Err}
use Rattle.shred.specs.Columns.{Column}
use Rattle.shred.specs.Parts.{ArePlain}
use Rattle.parquet_footer.specs.declared.fault.FileError.{FileError}
use Rattle.parquet_footer.specs.declared.fault.FileError.TheVariants as errors
use Rattle.parquet_pages.specs.Pages as pages
use Rattle.parquet_pages.specs.Pages.{highest, joined}
use Rattle.page_cells.specs.Left.{HasValuesLeft}
use Rattle.page_cells.specs.Levels.{present}
use Rattle.parquet_pages.specs.Reading.{pages_at}
use Rattle.parquet_pages.specs.Views.{leaf_view}
use Rattle.parquet_pages.specs.declared.chunk.Mark.{Mark}
use Rattle.parquet_pages.specs.declared.reader.ColumnReader.{ColumnReader}

-- These cells are left of the page at hand: there is a value for each highest level, and none that is null or a struct.
pub record HoldsPage (l : pages.Leaf) (r : ColumnReader) (c : Column) : Type 0 where
  pub leaf : leaf_view r.leaf ≡ l
  pub counted : r.count ≡ length c.levels
  pub levels : r.levels ≡ c.levels
  pub values : HasValuesLeft l.leaf_type r.values c.values
  pub value_each : present (highest l) c.levels ≡ length c.values
  pub plain : ArePlain c

-- This column is left: the cells of the page at hand, and behind them those of the pages behind it.
pub record AreLeft (l : pages.Leaf) (r : ColumnReader) (c : Column) : Type 0 where
  pub here : Column
  pub behind : Column
  pub parts : c ≡ joined here behind
  pub held : HoldsPage l r here
  pub most : ℕ
  pub few : most ≤ length r.bytes.now
  pub read : pages_at most l r.bytes.now r.place r.left ≡ Ok behind

-- how many cells are left of the page at hand
abbrev pub at_hand : ColumnReader → ℕ
at_hand r = r.count

-- This column is left, of which so many cells are at hand; none only where the column has none.
pub record IsFilled (l : pages.Leaf) (r : ColumnReader) (count : ℕ) (c : Column) : Type 0 where
  pub left : AreLeft l r c
  pub counted : count ≡ at_hand r
  pub none : count ≡ 0 → c.levels ≡ []

-- The reader was filled, or memory ran out and it has the same column left. There is no fault.
abbrev pub Fills : pages.Leaf → Column → Result ℕ FileError → ColumnReader → Type 0
Fills l c (Ok count) r = IsFilled l r count c
Fills l c (Err errors.Memory) r = AreLeft l r c
Fills l c (Err (errors.Fault fault)) r = ⊥

-- Of a column of so many levels the cells behind the mark are in the pages from there on; at most so many stand before it.
pub record IsMark (l : pages.Leaf) (given : List ℕ) (count before : ℕ) (mark : Mark) (c : Column) : Type 0 where
  pub front : Column
  pub behind : Column
  pub parts : c ≡ joined front behind
  pub value_each : present (highest l) front.levels ≡ length front.values
  pub many : length front.levels + mark.left ≡ count
  pub few_before : length front.levels ≤ before
  pub most : ℕ
  pub few : most ≤ length given
  pub read : pages_at most l given mark.place mark.left ≡ Ok behind
