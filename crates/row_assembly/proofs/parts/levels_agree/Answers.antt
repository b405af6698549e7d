use Rattle.row_assembly.proofs.LeafLoops.{agree_on, agree_end}
use Rattle.row_assembly.proofs.parts.levels_agree.Goals as goal
use Rattle.std.proofs.Common.{arith}

pub loop-reader-preserved : goal.loop-reader-preserved
loop-reader-preserved c others =
    let it = c.agrees.ensures c.if-not-agrees.false in
    c.loop-reader.invariant (agree_on c.args.readers.now c.loop-reader.reader-index c.reader-item.result c.loop-reader.before c.loop-reader-test.true c.reader-item.is it.0 it.1 others)

pub returns : goal.returns
returns c true_is = c.loop-reader.invariant (agree_end c.args.readers.now c.loop-reader.reader-index c.loop-reader.before (omega (arith, c.loop-reader-test.false)))
