use Rattle.std.proofs.Common.{subst, sym}
use Rattle.table_log.specs.Restoring.{AreCheckpointsSound}
use Rattle.table_log.proofs.Callers.{well_sound}
use Rattle.script_lines.specs.Lines.{create, foreign, task, task_view}
use Rattle.lake_script.proofs.CarriedLines.{noted_carried, not_here_carried}
use Rattle.lake_script.proofs.SoundPuts.{puts_sound}
use Rattle.lake_script.proofs.reply.execute.Goals as goal

-- ---- a creation, and a task

pub returns-in-Create-clause-carried : goal.returns-in-Create-clause-carried
returns-in-Create-clause-carried g c = rw c.in-Create.is (c.create_table.ensures.carried c.args.use_checkpoints c.args.tries.now)

pub returns-in-Create-clause-restores : goal.returns-in-Create-clause-restores
returns-in-Create-clause-restores g c = λ reliable every sound.
    puts_sound every (g.S.Store.objects c.args.store.now) (create c.in-Create.id.now c.in-Create.at c.in-Create.schema.now) (g.S.Store.objects c.create_table.new.store)
    ((c.create_table.ensures.carried every 0).grows reliable (λ is. well_sound every (g.S.Store.objects c.args.store.now) sound)) sound

pub returns-in-Job-clause-carried : goal.returns-in-Job-clause-carried
returns-in-Job-clause-carried g c = rw c.in-Job.is c.run_task.ensures.carried

pub returns-in-Job-clause-restores : goal.returns-in-Job-clause-restores
returns-in-Job-clause-restores g c = λ reliable every sound.
    puts_sound every (g.S.Store.objects c.args.store.now) (task (task_view c.in-Job.job)) (g.S.Store.objects c.run_task.new.store)
    (c.run_task.ensures.carried.grows reliable (λ is. well_sound every (g.S.Store.objects c.args.store.now) sound)) sound

-- ---- lines that look

pub returns-in-Look-clause-carried : goal.returns-in-Look-clause-carried
returns-in-Look-clause-carried g c = rw c.in-Look.is (c.tell_look.ensures.carried c.args.tries.now)

pub returns-in-Look-clause-restores : goal.returns-in-Look-clause-restores
returns-in-Look-clause-restores g c = λ reliable every sound. subst (AreCheckpointsSound every) (sym c.tell_look.ensures.untouched) sound

-- ---- other lines

pub returns-in-Foreign-clause-carried : goal.returns-in-Foreign-clause-carried
returns-in-Foreign-clause-carried g c =
    let told = c.put_foreign.ensures in
    rw c.in-Foreign.is (record {
      whole = λ reliable well. told.whole reliable;
      told = λ reliable well. told.told reliable;
      grows = λ reliable well. told.grows reliable;
      looks = λ look. absurd look;
      short = λ well. told.short;
      lost = told.lost;
      counted = told.counted;
      told_lost = told.told_lost;
      any = told.any;
    })

pub returns-in-Foreign-clause-restores : goal.returns-in-Foreign-clause-restores
returns-in-Foreign-clause-restores g c = λ reliable every sound.
    puts_sound every (g.S.Store.objects c.args.store.now) (foreign c.in-Foreign.version c.in-Foreign.action.now) (g.S.Store.objects c.put_foreign.new.store) (c.put_foreign.ensures.grows reliable) sound

pub returns-in-Tries-clause-carried : goal.returns-in-Tries-clause-carried
returns-in-Tries-clause-carried g c = rw (c.in-Tries.is, c.set_tries.ensures.noted) (noted_carried _ _ _ _ _ _ _)

pub returns-in-Tries-clause-tries : goal.returns-in-Tries-clause-tries
returns-in-Tries-clause-tries g c = rw c.in-Tries.is c.set_tries.ensures.tries

pub returns-clause-carried : goal.returns-clause-carried
returns-clause-carried g c = rw c.in-World.is (not_here_carried _ _ _ _ _ _ _)
