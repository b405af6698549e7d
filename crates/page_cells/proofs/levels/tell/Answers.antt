use Rattle.std.proofs.Common.{arith}
use Rattle.page_cells.proofs.LevelsSeen.{seen_on}
use Rattle.page_cells.proofs.levels.tell.Goals as goal

pub loop-run-preserved : goal.loop-run-preserved
loop-run-preserved c =
    let run = c.in-Some.run' in
    let some = c.in-Some.ensures.some in
    seen_on c.args.nullable.now c.args.levels c.loop-run.levels c.next.new.self c.loop-run.told c.told_with-told.result
    run.count run.value some.0 (omega (arith, c.if-run-nullable.false)) some.2 c.told_with-told.ensures
    c.loop-run.invariant
