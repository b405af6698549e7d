use Rattle.std.proofs.Common.{refl, sym, subst}
use Rattle.std.proofs.lemmas.Result.{err_from_is_err_and}
use Rattle.table_jobs.specs.Views.{job_view}
use Rattle.world_script.proofs.Scening.{begun_alive, ran_job, with_world}
use Rattle.world_script.proofs.alone.run_job.Goals as goal

pub returns-in_err-begin_knowing-clause-runs : goal.returns-in_err-begin_knowing-clause-runs
returns-in_err-begin_knowing-clause-runs g c = λ reliable s stands.
    let p = err_from_is_err_and c.from_residual.result c.from_residual.ensures.1 in
    rw p.1 (with_world g.S.Store.objects c.args.scene.now s stands _ s.world (c.in_err-begin_knowing.ensures.happens s.world stands.world_stands).2.0 refl refl refl refl refl)

pub returns-in-Some-clause-runs : goal.returns-in-Some-clause-runs
returns-in-Some-clause-runs g c = λ reliable s stands.
    let objects = g.S.Store.objects in
    let begun = (c.in_ok-begin_knowing.ensures.happens s.world stands.world_stands).2 in
    let still = subst (λ st. g.S.Store.is_reliable st.store) (sym c.begin_knowing.ensures.store) reliable in
    ran_job objects c.args.scene.now s stands (job_view c.args.job) c.begin_knowing.new.self begun c.begin_knowing.ensures.can _ c.lead_through.new.world c.in-Some.outcome _ _
    (c.in-Some.ensures.came still begun.later begun.stands (begun_alive objects c.args.scene.now s stands (job_view c.args.job) c.begin_knowing.new.self begun c.begin_knowing.ensures.can))
    c.reply_to.ensures.told c.reply_to.ensures.short c.reply_to.ensures.stands refl refl refl refl

pub returns-in-None-clause-runs : goal.returns-in-None-clause-runs
returns-in-None-clause-runs g c = λ reliable s stands.
    let objects = g.S.Store.objects in
    let begun = (c.in_ok-begin_knowing.ensures.happens s.world stands.world_stands).2 in
    let still = subst (λ st. g.S.Store.is_reliable st.store) (sym c.begin_knowing.ensures.store) reliable in
    absurd (c.in-None.ensures.came still begun.later begun.stands (begun_alive objects c.args.scene.now s stands (job_view c.args.job) c.begin_knowing.new.self begun c.begin_knowing.ensures.can)).tells
