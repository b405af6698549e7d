use Rattle.std.proofs.Common.{ap, subst, sym, refl, Some}
use Rattle.lake_script.proofs.CarriedLines.{run_carried, uncreated}
use Rattle.script_lines.specs.Lines.{create}
use Rattle.table_jobs.specs.Jobs.{Job}
use Rattle.table_jobs.specs.Views.{job_view}
use Rattle.lake_script.specs.JobRuns.{RanOverStore}
use Rattle.lake_script.specs.LineJobs.{job_of_creation}
use Rattle.lake_script.specs.ReplyView.{is_short_reply, reply_text, says_lost}
use Rattle.lake_script.proofs.running.create_table.Goals as goal

pub returns-in-Ok-clause-carried : goal.returns-in-Ok-clause-carried
returns-in-Ok-clause-carried g c = λ use_checkpoints tries.
    let line = create c.args.id.now c.args.at c.args.schema.now in
    let job = job_of_creation c.args.id.now c.args.at c.args.schema.now in
    run_carried _ use_checkpoints tries c.args.cache.now line job _ _ _ _ _ _ _ tt refl
    (subst (λ (j : Job). RanOverStore (g.S.Store.is_reliable c.args.store.now) c.args.cache.now j (reply_text c.run_job.result) (is_short_reply c.run_job.result) (says_lost c.run_job.result) (g.S.Store.objects c.args.store.now, g.S.Store.in_flight c.args.store.now) (g.S.Store.objects c.run_job.new.store, g.S.Store.in_flight c.run_job.new.store) (g.S.Store.fault_count c.args.store.now) (g.S.Store.fault_count c.run_job.new.store))
    c.in-Ok.ensures c.run_job.ensures.ran.0)

pub returns-in-Err-clause-carried : goal.returns-in-Err-clause-carried
returns-in-Err-clause-carried g c = λ use_checkpoints tries. uncreated _ use_checkpoints tries _ _ _ _ _ _ _ refl
