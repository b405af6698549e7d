use Rattle.std.proofs.Common.{◌≡◌, ◌++◌, map, drop}
use Rattle.lake_bytes.specs.Hybrid.{values_of}
use Rattle.row_core.specs.Views.{row_views}
use Rattle.page_cells.specs.Plain.{truth_of}
use Rattle.page_cells.proofs.plain.add_truths.Given as goal

abbrev pub invariant-loop-run : goal.invariant-loop-run
invariant-loop-run l = row_views l.out.items ++ map truth_of (values_of (drop l.run-index l.run-items)) ≡ row_views
    l.fn.out.items ++ map truth_of (values_of l.run-items)
