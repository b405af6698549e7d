use Rattle.std.proofs.Common.{◌≡◌, ◌+◌, get_or, add-one, ◌++◌, ◌∷◌, drop, replicate, ap, ◌∙◌, drop-cons, refl}
use Rattle.lake_bytes.specs.Hybrid.{values_of}
use Rattle.lake_bytes.specs.declared.run.Run.{Run}
use Rattle.shred.specs.Parts.{part_of}
use Rattle.std.specs.Prelude.{Vec}
use Rattle.std.specs.declared.alloc.Global.{Global}
use Rattle.page_cells.proofs.PartsJoined.{cut_goes_on, run_more, run_none}
use Rattle.page_cells.proofs.part.cut_runs.Goals as goal
use Rattle.page_cells.proofs.part.cut_runs.Goals.{then-kept-gt0+in_ok-push, else-kept-gt0}

pub loop-run-preserved : goal.loop-run-preserved
loop-run-preserved c =
    let runs = c.args.runs.now in
    let run = get_or runs c.loop-run.run-index (record { value = 0; count = 0 }) in
    let within = c.loop-run-test.true in
    let here : drop c.loop-run.run-index runs ≡ run ∷ drop (c.loop-run.run-index + 1) runs =
    rw (add-one, drop-cons runs c.loop-run.run-index (record { value = 0; count = 0 }) within) refl in
    let so_far : values_of c.loop-run.cut.items
    ++ part_of c.loop-run.before c.loop-run.wanted (values_of (run ∷ drop (c.loop-run.run-index + 1) runs))
    ≡ part_of c.args.skip c.args.count (values_of runs) = rw here at c.loop-run.invariant in
    let old = c.loop-run.cut.items in
    let new = c.if-kept-gt0.cut.items in
    let added : values_of new ≡ values_of old ++ replicate c.min-kept.result run.value =
    elim c.if-kept-gt0.branch [
      | then-kept-gt0+in_ok-push w ↦
          run_more old new run.value c.min-kept.result
          (ap (λ (v : Vec Run Global). v.items) w.cut-is ∙ w.in_ok-push.ensures.items)
      | else-kept-gt0 w ↦
          run_none old new run.value c.min-kept.result w.if-kept-gt0.false (ap (λ (v : Vec Run Global). v.items) w.cut-is)
    ] in
    cut_goes_on old new run (drop (c.loop-run.run-index + 1) runs) c.loop-run.before c.loop-run.wanted
    c.min-passed.result c.min-kept.result (part_of c.args.skip c.args.count (values_of runs)) c.min-passed.ensures
    c.min-kept.ensures added so_far
