use Rattle.std.proofs.Common.{◌≡◌, ◌∙◌, ap, subst, sym, refl, IfSome, None, Option, Some}
use Rattle.script_lines.specs.Lines.{task, task_view}
use Rattle.table_jobs.specs.Jobs.{IsValidJob, Job}
use Rattle.table_jobs.specs.Views.{job_view}
use Rattle.lake_script.specs.LineJobs.{job_of_line, job_of_task}
use Rattle.lake_script.specs.ReplyView.{reply_text}
use Rattle.lake_script.proofs.CarriedLines.{run_carried, undone, unplaced}
use Rattle.lake_script.proofs.JobReplies.{valid_task}
use Rattle.lake_script.proofs.running.run_task.Goals as goal

pub returns-in-Ok-Some-clause-carried : goal.returns-in-Ok-Some-clause-carried
returns-in-Ok-Some-clause-carried g c =
    let line = task_view c.args.job in
    let job = job_view c.in-Ok-Some.job in
    let found : job_of_task c.args.use_checkpoints c.args.tries line ≡ Some job = sym (rw c.in-Ok-Some.field-0-is at c.in-Ok-Some.ensures.job) in
    let valid : IsValidJob job = subst (λ (it : Option Job). IfSome it IsValidJob) found (valid_task c.args.use_checkpoints c.args.tries line c.requires.tries c.job_of_task.ensures.text) in
    run_carried _ c.args.use_checkpoints c.args.tries c.args.cache.now (task line) job _ _ _ _ _ _ _ valid found c.run_job.ensures.ran.0

pub returns-in-Ok-None-clause-carried : goal.returns-in-Ok-None-clause-carried
returns-in-Ok-None-clause-carried g c =
    let line = task_view c.args.job in
    let found : job_of_task c.args.use_checkpoints c.args.tries line ≡ None = sym (rw c.in-Ok-None.field-0-is at c.in-Ok-None.ensures.job) in
    unplaced _ c.args.use_checkpoints c.args.tries _ _ _ line found

pub returns-clause-carried : goal.returns-clause-carried
returns-clause-carried g c =
    rw (c.no_room_for-no_room.ensures.short, c.no_room_for-no_room.ensures.lost) (undone _ c.args.use_checkpoints c.args.tries _ _ _ (task_view c.args.job) (reply_text c.no_room_for-no_room.result) c.job_of_task.ensures.text c.no_room_for-no_room.ensures.told)
