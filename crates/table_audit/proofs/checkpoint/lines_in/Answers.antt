use Rattle.std.proofs.Common.{List, map, subst}
use Rattle.delta_actions.specs.Action.{views}
use Rattle.delta_actions.specs.declared.action.Action.{Action}
use Rattle.table_check.specs.Lines.{ArePrintedOf}
use Rattle.table_audit.proofs.CheckpointParts.{has_lines, line_items}
use Rattle.table_audit.proofs.checkpoint.lines_in.Goals as goal

pub returns-clause-found : goal.returns-clause-found
returns-clause-found c =
    let are = subst (λ (xs : List Action). ArePrintedOf (map line_items c.in_ok-lines.lines.items) (views xs)) c.deref.ensures.value c.in_ok-lines.ensures in
    has_lines c.args.bytes.now (views c.in_ok-actions.actions.items) c.in_ok-lines.lines.items c.sort.new.self.items c.in_ok-actions.ensures.found c.in_ok-actions.ensures.printable are c.in_ok-sort.ensures.permutation c.in_ok-sort.ensures.sorted
