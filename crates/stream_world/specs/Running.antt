-- What a list of events came to, and what is so of what was told.
use Rattle.std.specs.Prelude.{◌≡◌, ◌||◌, Bool, false, true, List, [], ◌∷◌, ◌++◌, Option, map}
use Rattle.store_core.specs.Objects.{Objects}
use Rattle.table_model.specs.Table.{Entry}
use Rattle.stream_model.specs.Holds.{Holds}
use Rattle.stream_model.specs.TableSchema.{Schema}
use Rattle.table_jobs.specs.Jobs.{Job, Outcome}
use Rattle.stream_model.specs.Events.{Event, FitsWorld, Happens, with_told}
use Rattle.stream_model.specs.Headline.{IsHeadline}
use Rattle.stream_model.specs.Worlds.{World, first_world}
use Rattle.stream_world.specs.EventViews.{IsMetAs, event_view, ran_out}
use Rattle.stream_world.specs.Paired.{AreOwned, outs_told}
use Rattle.stream_world.specs.Standing.{BeginsAnew, TellsAs, WorldStands, told_wants}
use Rattle.stream_world.specs.declared.event.Event as code_event
use Rattle.table_jobs.specs.declared.job_session.JobEnd as code_end
use Rattle.stream_world.specs.declared.world.World as code_world

-- By these events, one after the other, a world came to another, and each told this. They were met so, and what was told is that of sessions
-- with these jobs; each began with nothing known of the log. It was short where memory ran out in a call that was asked for and was to be answered otherwise, or where something that was
-- told tells so.
pub data AreRun (first : World) : List code_event.Event → (told : List (Option code_end.JobEnd)) → (met : List Event) → (outs : List (Job × Outcome)) → (short : Bool) → World → Type 0 where
  at_first : AreRun first [] [] [] [] false first
  then_one : (events : List code_event.Event) (told : List (Option code_end.JobEnd)) (met : List Event) (outs : List (Job × Outcome)) (short : Bool) (w : World) (event : code_event.Event) (next : Option code_end.JobEnd) (one : Event)
      (out : Option (Job × Outcome)) (later : World) → AreRun first events told met outs short w → IsMetAs (event_view event) one → (ran_out (event_view event) one ≡ true → FitsWorld w (event_view event)) → TellsAs next out → Happens w one out later
      → BeginsAnew (event_view event) later → AreRun first (events ++ event ∷ []) (told ++ next ∷ []) (met ++ one ∷ []) (with_told outs out) (ran_out (event_view event) one || (told_wants next || short)) later

-- By these events a world came from the one in which nobody acts over these objects, each told this, and the world of the code stands for it.
-- Where that isn't short, just these events were met.
pub record HasRun {S : Type 0} (objects : S → Objects) (first : Objects) (events : List code_event.Event) (told : List (Option code_end.JobEnd)) (world : code_world.World S) : Type 0 where
  pub met : List Event
  pub outs : List (Job × Outcome)
  pub w : World
  pub ran : AreRun (first_world first) events told met outs world.is_short w
  pub stands : WorldStands objects world w
  pub exact : world.is_short ≡ false → met ≡ map event_view events

-- What was told by these events is so: all of it is of jobs that the events began, and of the table that these objects hold the headline holds for the events
-- that were handed in and for what each told, of the job that its actor began last.
pub record AreEventsSo (events : List Event) (told : List (Option Outcome)) (objects : Objects) : Type 0 where
  pub owned : AreOwned [] events told
  pub headline : (schema : Schema) (entries : List Entry) → Holds objects schema entries → IsHeadline events (outs_told [] events told) schema entries
