use Rattle.std.proofs.Common.{Some, refl, subst}
use Rattle.table_jobs.specs.Jobs.{Job}
use Rattle.script_lines.specs.Lines.{create}
use Rattle.table_jobs.specs.Views.{job_view}
use Rattle.lake_script.specs.ReplyView.{is_short_reply, reply_text}
use Rattle.world_script.specs.Doing.{ComesToAlone}
use Rattle.world_script.proofs.Scening.{alone_ran, alone_short}
use Rattle.world_script.proofs.alone.create_table.Goals as goal

pub returns-in_default-clause-comes : goal.returns-in_default-clause-comes
returns-in_default-clause-comes g c = λ reliable s stands. alone_short g.S.Store.objects s (create c.args.id.now c.args.at c.args.schema.now) _ _ _ _ stands refl refl

pub returns-in-Ok-run_job-clause-comes : goal.returns-in-Ok-run_job-clause-comes
returns-in-Ok-run_job-clause-comes g c = λ reliable s stands.
    let made = create c.args.id.now c.args.at c.args.schema.now in
    subst (λ (j : Job). ComesToAlone g.S.Store.objects s made (Some j) (reply_text c.in-Ok-run_job.reply) (is_short_reply c.in-Ok-run_job.reply) c.run_job.new.scene) c.in-Ok.ensures (alone_ran g.S.Store.objects s made _ (job_view c.in-Ok.job) _ _ (c.in-Ok-run_job.ensures.runs reliable s stands))

pub returns-in-Err-clause-comes : goal.returns-in-Err-clause-comes
returns-in-Err-clause-comes g c = λ reliable s stands. alone_short g.S.Store.objects s (create c.args.id.now c.args.at c.args.schema.now) _ _ _ _ (c.in-Err.ensures.runs reliable s stands) refl refl
