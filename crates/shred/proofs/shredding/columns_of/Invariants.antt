use Rattle.std.proofs.Common.{◌≡◌, drop, map, option_map, ◌++◌}
use Rattle.shred.specs.Columns.{column, all_some}
use Rattle.shred.specs.Views.{way_views, borrowed_columns}
use Rattle.row_core.specs.Views.{row_views}
use Rattle.shred.proofs.shredding.columns_of.Given as goal

-- the columns that are put and those of the ways that are left are all columns
abbrev pub invariant-loop-way : goal.invariant-loop-way
invariant-loop-way l =
    option_map (λ cs. borrowed_columns l.columns.items ++ cs) (all_some (map (λ way. column way (row_views l.rows)) (way_views (drop l.way-index l.ways)))) ≡ all_some (map (λ way. column way (row_views l.rows)) (way_views l.ways))
