use Rattle.std.proofs.Common.{◌≡◌, ◌+◌, get_or, add-one, ◌++◌, ◌∷◌, List, drop, map, sym, ap, ◌∙◌, drop-cons, refl}
use Rattle.lake_bytes.specs.Hybrid.{values_of}
use Rattle.lake_bytes.specs.declared.run.Run.{Run}
use Rattle.row_core.specs.Views.{row_views}
use Rattle.page_cells.specs.Plain.{truth_of}
use Rattle.page_cells.proofs.CodeRuns.{truths_go_on}
use Rattle.page_cells.proofs.part.add_truths_of.Goals as goal

pub loop-run-preserved : goal.loop-run-preserved
loop-run-preserved c =
    let runs = c.args.runs.now in
    let run = get_or runs c.loop-run.run-index (record { value = 0; count = 0 }) in
    let within = c.loop-run-test.true in
    let here : drop c.loop-run.run-index runs ≡ run ∷ drop (c.loop-run.run-index + 1) runs =
    rw (add-one, drop-cons runs c.loop-run.run-index (record { value = 0; count = 0 }) within) refl in
    truths_go_on (row_views c.loop-run.out.items) (row_views c.add_truth.new.out.items) run
    (drop (c.loop-run.run-index + 1) runs) c.in_ok-add_truth.ensures
    ∙ ap (λ (rs : List Run). row_views c.loop-run.out.items ++ map truth_of (values_of rs)) (sym here)
    ∙ c.loop-run.invariant
