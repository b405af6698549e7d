use Rattle.std.proofs.Common.{rules, ◌≡◌, length}
use Rattle.std.specs.Iterator.Adapters.{zip_first, zip_second}
use Rattle.std.specs.Slice.Iter.{iter_rest}
use Rattle.std.proofs.lemmas.Slice.Zip.{zip_end}
use Rattle.row_assembly.proofs.LeafLoops.{shared_end}
use Rattle.row_assembly.proofs.neighbours.shared_steps.Goals as goal

pub returns : goal.returns
returns c =
    let before = c.args.before.now in
    let way = c.args.way.now in
    let first : iter_rest (zip_first c.into_iter-step-iterator.result) ≡ before = search rules in
    let second : iter_rest (zip_second c.into_iter-step-iterator.result) ≡ way = search rules in
    let end = zip_end before way c.loop-step.yielded c.into_iter-step-iterator.result c.loop-step.step-iterator c.next.new.self c.next.result first second c.loop-step.yielded_by c.in-None.is c.next.ensures.steps in
    shared_end before way (length c.loop-step.yielded) c.loop-step.shared _ end c.loop-step.invariant.counts
