use Rattle.seat_cases.proofs.Working.{knows_nothing}
use Rattle.seat_cases.proofs.workers.tell_appends.Goals as goal

pub loop-number-init : goal.loop-number-init
loop-number-init g c = knows_nothing c.in-Some.holder.seat c.new-known.result c.new-known.ensures.front
