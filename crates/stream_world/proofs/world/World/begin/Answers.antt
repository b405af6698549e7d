use Rattle.std.proofs.Common.{[], subst, sym}
use Rattle.table_jobs.specs.Jobs.{Job}
use Rattle.table_jobs.specs.Views.{job_view}
use Rattle.stream_model.specs.Worlds.{IsBegunAs}
use Rattle.stream_world.specs.Standing.{PlacesAs}
use Rattle.stream_world.proofs.Worlds.{began_anew, itself}
use Rattle.stream_world.proofs.world.World.begin.Goals as goal

pub returns-clause-happens : goal.returns-clause-happens
returns-clause-happens g c = λ w stands.
    let s = g.S.Store in
    let session = c.new-session.ensures in
    let job = job_view c.args.job in
    began_anew s.objects _ w c.args.actor job c.place.result _
    (subst (λ (j : Job). PlacesAs s.objects c.args.self.now.is_short w c.args.actor job j [] c.place.result c.place.new.self) session.job
    (c.place.ensures.places w job [] stands session.can (subst (λ (j : Job). IsBegunAs job j) (sym session.job) (itself job)) tt (session.fits [])))
