use Rattle.std.proofs.Common.{◌≡◌, true, is_some, length}
use Rattle.row_core.specs.Views.{row_views}
use Rattle.shred.specs.Columns.{column}
use Rattle.shred.specs.Views.{way_view}
use Rattle.page_writing.proofs.Callers.{LeftToWrite}
use Rattle.parquet_file.specs.Internal.{column_along}
use Rattle.parquet_file.proofs.writing.write_pages.Given as goal

-- the column of the rows that are left is what is left of the column
abbrev pub invariant-loop-rows : goal.invariant-loop-rows
invariant-loop-rows l = record {
  written : LeftToWrite l.leaf_type l.highest (column_along (way_view l.way) (row_views l.fn.rows)) l.fn.out.items
      l.out.items (column_along (way_view l.way) (row_views l.rows));
  found : is_some (column (way_view l.way) (row_views l.rows)) ≡ true;
}

abbrev pub decreases-loop-rows : goal.decreases-loop-rows
decreases-loop-rows l = length l.rows
