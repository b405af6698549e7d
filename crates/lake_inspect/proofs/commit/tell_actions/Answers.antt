use Rattle.delta_actions.proofs.Callers.{are_printable}
use Rattle.lake_inspect.proofs.commit.tell_actions.Goals as goal

pub print_line-requires : goal.print_line-requires
print_line-requires c = rw c.action-item.is (are_printable c.args.actions.now c.requires c.loop-action.action-index _ c.loop-action-test.true)
