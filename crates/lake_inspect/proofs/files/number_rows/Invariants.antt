use Rattle.std.proofs.Common.{All}
use Rattle.row_core.specs.Conforms.{Conforms}
use Rattle.row_core.specs.Views.{row_views}
use Rattle.schema_tree.specs.Schema.{tree_of}
use Rattle.lake_inspect.proofs.files.number_rows.Given as goal

-- the rows so far conform
abbrev pub invariant-loop-number : goal.invariant-loop-number
invariant-loop-number l = All (Conforms (tree_of l.schema)) (row_views l.rows.items)
