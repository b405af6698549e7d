use Rattle.std.proofs.Common.{◌∙◌, true, false, option_map, refl, sym, ap}
use Rattle.std.proofs.lemmas.Result.{err_from_is_err_and}
use Rattle.table_jobs.specs.Views.{job_view}
use Rattle.script_lines.specs.Lines.{task_view}
use Rattle.world_script.proofs.Scening.{job_at, not_started, started_begun, started_refused, unstarted}
use Rattle.world_script.proofs.starting.begin_named.Goals as goal

pub returns-in_err-begun-clause-starts : goal.returns-in_err-begun-clause-starts
returns-in_err-begun-clause-starts g c = λ s stands.
    let p = err_from_is_err_and c.from_residual.result c.from_residual.ensures.1 in
    rw p.1 (unstarted g.S.Store.objects c.args.scene.now s stands c.args.name.now _ (task_view c.args.job) (λ other. refl) refl refl refl refl refl)

pub returns-in_err-part-clause-starts : goal.returns-in_err-part-clause-starts
returns-in_err-part-clause-starts g c = λ s stands.
    let p = err_from_is_err_and c.from_residual-in_err-part.result c.from_residual-in_err-part.ensures.1 in
    rw p.1 (unstarted g.S.Store.objects c.args.scene.now s stands c.args.name.now _ (task_view c.args.job) c.in_err-part.ensures.same refl c.in_err-part.ensures.still refl refl refl)

pub returns-in_err-begin-in-Some-clause-starts : goal.returns-in_err-begin-in-Some-clause-starts
returns-in_err-begin-in-Some-clause-starts g c = λ s stands.
    let p = err_from_is_err_and c.from_residual-in_err-begin-in-Some.result c.from_residual-in_err-begin-in-Some.ensures.1 in
    rw p.1 (not_started g.S.Store.objects c.args.scene.now s stands c.args.name.now _ c.in_ok-part.part c.name_actor.new.next c.in_ok-part.part.is_refused c.in_ok-part.ensures.part c.in_ok-part.ensures.next c.in_ok-part.ensures.now
    c.in_ok-part.ensures.others refl refl refl refl (task_view c.args.job) refl (c.in_err-begin-in-Some.ensures.happens s.world stands.world_stands).0)

pub returns-in_ok-begin-in-Some-clause-starts : goal.returns-in_ok-begin-in-Some-clause-starts
returns-in_ok-begin-in-Some-clause-starts g c = λ s stands.
    started_begun g.S.Store.objects c.args.scene.now s stands c.args.name.now _ c.in_ok-part.part c.name_actor.new.next false c.in_ok-part.ensures.part c.in_ok-part.ensures.next c.set_refused.ensures.set
    (λ other apart. c.set_refused.ensures.others other apart ∙ c.in_ok-part.ensures.others other apart) refl refl refl refl (task_view c.args.job) (job_view c.in-Some.job)
    (job_at g.S.Store.objects c.args.scene.now s stands (task_view c.args.job) ∙ (sym c.in_ok-begun.ensures ∙ ap (option_map job_view) c.in-Some.is)) c.begin.ensures.can refl (c.in_ok-begin-in-Some.ensures.happens s.world stands.world_stands)

pub returns-in-None-clause-starts : goal.returns-in-None-clause-starts
returns-in-None-clause-starts g c = λ s stands.
    started_refused g.S.Store.objects c.args.scene.now s stands c.args.name.now _ c.in_ok-part.part c.name_actor.new.next true c.in_ok-part.ensures.part c.in_ok-part.ensures.next c.set_refused-in-None.ensures.set
    (λ other apart. c.set_refused-in-None.ensures.others other apart ∙ c.in_ok-part.ensures.others other apart) refl refl refl refl (task_view c.args.job)
    (job_at g.S.Store.objects c.args.scene.now s stands (task_view c.args.job) ∙ (sym c.in_ok-begun.ensures ∙ ap (option_map job_view) c.in-None.is)) refl (c.die.ensures.happens s.world stands.world_stands)
