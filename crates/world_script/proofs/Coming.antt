-- What a line comes to, from what the code of its kind does.
use Rattle.std.proofs.Common.{◌≡◌, ◌∙◌, ℕ, Bool, false, List, [], ◌∷◌, Option, ◌≤◌, Some, None, refl, sym, ap, subst}
use Rattle.std.specs.BTreeMap.{get_by_text}
use Rattle.script_lines.specs.Lines as lines
use Rattle.script_lines.specs.Lines.{Look, Statement, Task}
use Rattle.script_lines.specs.declared.kind.Kind.{Kind}
use Rattle.table_jobs.specs.Jobs.{Job, Outcome}
use Rattle.store_core.specs.Objects.{Objects}
use Rattle.stream_world.specs.Events.{Event, Happens, die}
use Rattle.stream_world.specs.Worlds.{World}
use Rattle.stream_world.specs.Standing.{HasHappened, TellsAs, WorldStands}
use Rattle.stream_world.specs.declared.world.World as code_world
use Rattle.world_script.specs.Acting.{CameBy}
use Rattle.lake_script.specs.LineJobs.{job_of_creation, job_of_task}
use Rattle.lake_script.specs.Answered.{LeadsTo}
use Rattle.world_script.specs.Doing.{LineComesTo, ComesToAlone, ComesToNamed, ComesToStart, DoesInScene, TellsIn}
use Rattle.world_script.specs.Lines as does
use Rattle.world_script.specs.Lines.{deed_does, ok}
use Rattle.world_script.specs.Scenes.{Scene, SceneStands}
use Rattle.world_script.specs.declared.named.Deed.TheVariants as deeds
use Rattle.world_script.specs.declared.scene.Scene as code

told_none : (told : Option (Job × Outcome)) → TellsAs None told → told ≡ None
told_none None tells = refl
told_none (Some told) tells = absurd tells

-- an actor died
pub died : {S : Type 0} {b : Bool} (stored : S → Objects) (n : ℕ) (w : World) (new : code_world.World S) → HasHappened stored b w (die n) None new → CameBy stored (deed_does deeds.Die n w) None new
died stored n w new was = record {
  events = die n ∷ [];
  told = None;
  later = was.later;
  done = does.dies_now was.later (subst (λ (o : Option (Job × Outcome)). Happens w (die n) o was.later) (told_none was.told was.tells) (subst (λ (e : Event). Happens w e was.told was.later) was.is was.happens));
  tells = tt;
  hands = tt;
  stands = was.stands;
}

module _ {S : Type 0} (stored : S → Objects) (s : Scene) (reply : List ℕ) (short : Bool) (new : code.Scene S) where
  -- in the words of an interpreter
  pub led : (statement : Statement) → LineComesTo stored s statement reply short new → LeadsTo (DoesInScene s statement reply short) (λ later. SceneStands stored new later)
  led statement came = (came.later, (came.events, came.outs, came.does, came.falls), came.stands)

  pub of_until : (name : List ℕ) → ComesToNamed stored s name deeds.Until reply short new → LineComesTo stored s (lines.world (lines.until name)) reply short new
  of_until name came = record { events = came.events; outs = came.outs; later = came.later; does = came.does; falls = came.falls; stands = came.stands }

  pub of_step : (name : List ℕ) (kind : Kind) → ComesToNamed stored s name (deeds.Step kind) reply short new → LineComesTo stored s (lines.world (lines.step name kind)) reply short new
  of_step name kind came = record { events = came.events; outs = came.outs; later = came.later; does = came.does; falls = came.falls; stands = came.stands }

  pub of_finish : (name : List ℕ) → ComesToNamed stored s name deeds.Finish reply short new → LineComesTo stored s (lines.world (lines.finish name)) reply short new
  of_finish name came = record { events = came.events; outs = came.outs; later = came.later; does = came.does; falls = came.falls; stands = came.stands }

  pub of_die : (name : List ℕ) → ComesToNamed stored s name deeds.Die reply short new → LineComesTo stored s (lines.world (lines.die name)) reply short new
  of_die name came = record { events = came.events; outs = came.outs; later = came.later; does = came.does; falls = came.falls; stands = came.stands }

  pub of_start : (name : List ℕ) (job : Task) → ComesToStart stored s name job reply short new → LineComesTo stored s (lines.world (lines.start name job)) reply short new
  of_start name job came = record { events = came.events; outs = []; later = came.later; does = (refl, came.does); falls = came.falls; stands = came.stands }

  pub of_create : (id : List ℕ) (at : ℕ) (schema : List ℕ) → ComesToAlone stored s (lines.create id at schema) (Some (job_of_creation id at schema)) reply short new → LineComesTo stored s (lines.create id at schema) reply short new
  of_create id at schema came = record { events = came.events; outs = came.outs; later = came.later; does = came.does; falls = came.falls; stands = came.stands }

  pub of_task : (job : Task) → ComesToAlone stored s (lines.task job) (job_of_task s.use_checkpoints s.tries job) reply short new → LineComesTo stored s (lines.task job) reply short new
  of_task job came = record { events = came.events; outs = came.outs; later = came.later; does = came.does; falls = came.falls; stands = came.stands }

  pub of_look : (line : Look) → TellsIn stored s (lines.look line) reply short new → LineComesTo stored s (lines.look line) reply short new
  of_look line came = record { events = []; outs = []; later = came.later; does = (refl, refl, came.tells); falls = came.falls; stands = came.stands }

  pub of_foreign : (version : ℕ) (action : List ℕ) → TellsIn stored s (lines.foreign version action) reply short new → LineComesTo stored s (lines.foreign version action) reply short new
  of_foreign version action came = record { events = []; outs = []; later = came.later; does = (refl, refl, came.tells); falls = came.falls; stands = came.stands }

module _ {S : Type 0} (stored : S → Objects) (old : code.Scene S) (s : Scene) (stands : SceneStands stored old s) (new : code.Scene S) where
  pub of_fault : (kind : Kind) → new.world ≡ old.world → new.parts ≡ old.parts → new.next ≡ old.next → new.tries ≡ old.tries → new.fault ≡ Some kind → new.use_checkpoints ≡ old.use_checkpoints → LineComesTo stored s (lines.world (lines.fault kind)) [] false new
  of_fault kind world parts next tries fault uses = record {
    events = [];
    outs = [];
    later = record s { fault = Some kind };
    does = (refl, refl, refl, refl);
    falls = refl;
    stands = record {
      world_stands = subst (λ (v : code_world.World S). WorldStands stored v s.world) (sym world) stands.world_stands;
      part_so = λ name. ap (λ m. get_by_text m name) parts ∙ stands.part_so name;
      next_so = next ∙ stands.next_so;
      tries_so = tries ∙ stands.tries_so;
      fault_so = fault;
      use_so = uses ∙ stands.use_so;
    };
  }

  pub of_tries : (count : ℕ) → new.world ≡ old.world → new.parts ≡ old.parts → new.next ≡ old.next → (1 ≤ count → new.tries ≡ count) → new.fault ≡ old.fault → new.use_checkpoints ≡ old.use_checkpoints → LineComesTo stored s (lines.tries count) ok false new
  of_tries count world parts next tries fault uses = record {
    events = [];
    outs = [];
    later = record s { tries = new.tries };
    does = (refl, refl, refl, (new.tries, tries, refl));
    falls = refl;
    stands = record {
      world_stands = subst (λ (v : code_world.World S). WorldStands stored v s.world) (sym world) stands.world_stands;
      part_so = λ name. ap (λ m. get_by_text m name) parts ∙ stands.part_so name;
      next_so = next ∙ stands.next_so;
      tries_so = refl;
      fault_so = fault ∙ stands.fault_so;
      use_so = uses ∙ stands.use_so;
    };
  }
