use Rattle.std.proofs.Common.{Option, option_and_then, refl, subst, sym}
use Rattle.table_jobs.specs.Sessions.{job_of}
use Rattle.stream_world.specs.Standing.{SlotDoes}
use Rattle.stream_world.specs.declared.actor.Actor as code
use Rattle.stream_world.proofs.Worlds.{begun, unbegun}
use Rattle.stream_world.proofs.world.World.place.Goals as goal

pub returns-in-Ok-clause-places : goal.returns-in-Ok-clause-places
returns-in-Ok-clause-places g c = λ w job before stands can same borne fits.
    begun g.S.Store.objects c.args.self.now _ w stands c.args.actor job (job_of c.args.session) before _ refl c.in-Ok.ensures.updates refl can same borne refl fits refl refl

pub returns-in-Err-clause-places : goal.returns-in-Err-clause-places
returns-in-Err-clause-places g c = λ w job before stands can same borne fits. (unbegun g.S.Store.objects c.args.self.now _ w stands refl c.in-Err.ensures.err refl, refl)

pub returns-in-Ok-clause-slot : goal.returns-in-Ok-clause-slot
returns-in-Ok-clause-slot g c =
    subst (λ (o : Option (Option code.Actor)). SlotDoes (option_and_then (λ slot. slot) o) (job_of c.args.session)) (sym c.in-Ok.ensures.updates.1) refl
