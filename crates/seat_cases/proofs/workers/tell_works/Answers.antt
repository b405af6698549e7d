use Rattle.seat_cases.proofs.Working.{knows_nothing}
use Rattle.seat_cases.proofs.workers.tell_works.Goals as goal

pub loop-item-init : goal.loop-item-init
loop-item-init g c = (tt, tt, knows_nothing c.in-Some.holder.seat c.new-known.result c.new-known.ensures.front)
