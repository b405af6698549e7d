use Rattle.std.proofs.Common.{arith, refl}
use Rattle.script_lines.specs.Lines.{look_view, task_view}
use Rattle.world_script.proofs.Coming.{led, of_create, of_foreign, of_look, of_task, of_tries}
use Rattle.world_script.proofs.lines.SceneInterpreter.do_line.Goals as goal

pub returns-in-Create-clause-does : goal.returns-in-Create-clause-does
returns-in-Create-clause-does g c = λ reliable s stands. rw c.in-Create.is (led g.S.Store.objects s _ _ _ _ (of_create g.S.Store.objects s _ _ _ c.in-Create.id.now c.in-Create.at c.in-Create.schema.now (c.create_table.ensures.comes reliable s stands)))

pub returns-in-Job-clause-does : goal.returns-in-Job-clause-does
returns-in-Job-clause-does g c = λ reliable s stands. rw c.in-Job.is (led g.S.Store.objects s _ _ _ _ (of_task g.S.Store.objects s _ _ _ (task_view c.in-Job.job) (c.run_task.ensures.comes reliable s stands)))

pub returns-in-Tries-clause-does : goal.returns-in-Tries-clause-does
returns-in-Tries-clause-does g c = λ reliable s stands.
    rw c.in-Tries.is (led g.S.Store.objects s _ _ _ _ (of_tries g.S.Store.objects c.args.self.now s stands _ c.in-Tries.count refl refl refl (λ some. let is = c.max-self.ensures in omega (arith, is)) refl refl))

pub returns-in-Foreign-clause-does : goal.returns-in-Foreign-clause-does
returns-in-Foreign-clause-does g c = λ reliable s stands. rw c.in-Foreign.is (led g.S.Store.objects s _ _ _ _ (of_foreign g.S.Store.objects s _ _ _ c.in-Foreign.version c.in-Foreign.action.now (c.put_foreign.ensures.tells reliable s stands)))

pub returns-in-Look-clause-does : goal.returns-in-Look-clause-does
returns-in-Look-clause-does g c = λ reliable s stands. rw c.in-Look.is (led g.S.Store.objects s _ _ _ _ (of_look g.S.Store.objects s _ _ _ (look_view c.in-Look.asked) (c.tell.ensures.tells reliable s stands)))

pub returns-in-World-clause-does : goal.returns-in-World-clause-does
returns-in-World-clause-does g c = λ reliable s stands. rw c.in-World.is (led g.S.Store.objects s _ _ _ _ (c.change_world.ensures.comes reliable s stands))
