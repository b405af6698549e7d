use Rattle.std.proofs.Common.{◌∙◌, Option, option_map, sym, ap, subst}
use Rattle.table_jobs.specs.Jobs.{Job}
use Rattle.script_lines.specs.Lines.{task, task_view}
use Rattle.table_jobs.specs.Views.{job_view}
use Rattle.lake_script.specs.ReplyView.{is_short_reply, reply_text}
use Rattle.world_script.specs.Doing.{ComesToAlone}
use Rattle.world_script.proofs.Scening.{alone_ran, alone_refused, alone_short, job_at}
use Rattle.world_script.proofs.alone.run_task.Goals as goal

pub returns-in-Err-clause-comes : goal.returns-in-Err-clause-comes
returns-in-Err-clause-comes g c = λ reliable s stands. alone_short g.S.Store.objects s (task (task_view c.args.job)) _ _ _ _ stands c.no_room_for-no_room.ensures.told c.no_room_for-no_room.ensures.short

pub returns-in_default-clause-comes : goal.returns-in_default-clause-comes
returns-in_default-clause-comes g c = λ reliable s stands.
    alone_refused g.S.Store.objects s (task (task_view c.args.job)) _ _ stands (job_at g.S.Store.objects c.args.scene.now s stands (task_view c.args.job) ∙ (sym c.in-Ok.ensures ∙ ap (option_map job_view) c.in_default.is))

pub returns-in-Ok-run_job-clause-comes : goal.returns-in-Ok-run_job-clause-comes
returns-in-Ok-run_job-clause-comes g c = λ reliable s stands.
    let asked = task (task_view c.args.job) in
    let is = job_at g.S.Store.objects c.args.scene.now s stands (task_view c.args.job) ∙ (sym c.in-Ok.ensures ∙ ap (option_map job_view) c.in-Some.is) in
    subst (λ (j : Option Job). ComesToAlone g.S.Store.objects s asked j (reply_text c.in-Ok-run_job.reply) (is_short_reply c.in-Ok-run_job.reply) c.run_job.new.scene) (sym is) (alone_ran g.S.Store.objects s asked _ (job_view c.in-Some.job) _ _ (c.in-Ok-run_job.ensures.runs reliable s stands))

pub returns-in-Err-run_job-clause-comes : goal.returns-in-Err-run_job-clause-comes
returns-in-Err-run_job-clause-comes g c = λ reliable s stands. alone_short g.S.Store.objects s (task (task_view c.args.job)) _ _ _ _ (c.in-Err-run_job.ensures.runs reliable s stands) c.no_room_for-no_room.ensures.told c.no_room_for-no_room.ensures.short
