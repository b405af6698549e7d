use Rattle.std.proofs.Common.{map, take}
use Rattle.delta_actions.specs.Action.{views}
use Rattle.table_check.specs.Lines.{ArePrintedOf}
use Rattle.table_audit.proofs.checkpoint.lines_of.Given as goal

-- the lines of the actions that were seen
abbrev pub invariant-loop-action : goal.invariant-loop-action
invariant-loop-action l = ArePrintedOf (map (λ x. x.items) l.lines.items) (views (take l.action-index l.actions))
