use Rattle.std.proofs.Common.{refl}
use Rattle.script_lines.specs.Lines.{task_view}
use Rattle.world_script.proofs.Coming.{of_die, of_fault, of_finish, of_start, of_step, of_until}
use Rattle.world_script.proofs.lines.change_world.Goals as goal

pub returns-in-Start-clause-comes : goal.returns-in-Start-clause-comes
returns-in-Start-clause-comes g c = λ reliable s stands. rw c.in-Start.is (of_start g.S.Store.objects s _ _ _ c.in-Start.actor.now (task_view c.in-Start.job) (c.start.ensures.comes s stands))

pub returns-in-Until-clause-comes : goal.returns-in-Until-clause-comes
returns-in-Until-clause-comes g c = λ reliable s stands. rw c.in-Until.is (of_until g.S.Store.objects s _ _ _ c.in-Until.actor.now (c.do_named.ensures.comes reliable s stands))

pub returns-in-Step-clause-comes : goal.returns-in-Step-clause-comes
returns-in-Step-clause-comes g c = λ reliable s stands. rw c.in-Step.is (of_step g.S.Store.objects s _ _ _ c.in-Step.actor.now c.in-Step.kind (c.do_named-in-Step.ensures.comes reliable s stands))

pub returns-in-Finish-clause-comes : goal.returns-in-Finish-clause-comes
returns-in-Finish-clause-comes g c = λ reliable s stands. rw c.in-Finish.is (of_finish g.S.Store.objects s _ _ _ c.in-Finish.actor.now (c.do_named-in-Finish.ensures.comes reliable s stands))

pub returns-in-Die-clause-comes : goal.returns-in-Die-clause-comes
returns-in-Die-clause-comes g c = λ reliable s stands. rw c.in-Die.is (of_die g.S.Store.objects s _ _ _ c.in-Die.actor.now (c.do_named-in-Die.ensures.comes reliable s stands))

pub returns-in-Land-clause-comes : goal.returns-in-Land-clause-comes
returns-in-Land-clause-comes g c = λ reliable s stands. rw c.in-Land.is (c.land.ensures.comes reliable s stands)

pub returns-in-Fault-clause-comes : goal.returns-in-Fault-clause-comes
returns-in-Fault-clause-comes g c = λ reliable s stands. rw c.in-Fault.is (of_fault g.S.Store.objects c.args.scene.now s stands _ c.in-Fault.kind refl refl refl refl refl refl)
