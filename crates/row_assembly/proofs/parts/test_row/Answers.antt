use Rattle.std.proofs.Common.{subst}
use Rattle.shred.specs.Views.{shape_view}
use Rattle.row_assembly.specs.Assembly.{heads}
use Rattle.row_assembly.specs.Neighbours.{HeadsAgree}
use Rattle.row_assembly.specs.Views.{level_views}
use Rattle.row_assembly.proofs.Agreeing.{agreeing_made}
use Rattle.row_assembly.proofs.parts.test_row.Goals as goal

pub returns-then-levels_agree-clause-tested : goal.returns-then-levels_agree-clause-tested
returns-then-levels_agree-clause-tested c leaves =
    let cells = heads (level_views c.args.readers.now) in
    agreeing_made (shape_view c.args.shape.now) cells (subst (λ ls. HeadsAgree 0 ls cells) leaves (c.levels_agree.ensures c.if-levels_agree.true))
