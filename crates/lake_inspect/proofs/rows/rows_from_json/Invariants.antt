use Rattle.std.proofs.Common.{All}
use Rattle.row_core.specs.Conforms.{Conforms}
use Rattle.row_core.specs.Views.{row_views}
use Rattle.schema_tree.specs.Schema.{tree_of}
use Rattle.lake_inspect.proofs.rows.rows_from_json.Given as goal

-- the rows so far conform
abbrev pub invariant-loop-value : goal.invariant-loop-value
invariant-loop-value l = All (Conforms (tree_of l.schema)) (row_views l.rows.items)
