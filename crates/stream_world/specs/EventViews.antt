-- What happens to an actor of the code, as plain data.
use Rattle.std.specs.Prelude.{◌≡◌, ◌⊎◌, Bool, true, false}
use Rattle.table_jobs.specs.Views.{job_view}
use Rattle.stream_model.specs.Events.{Event, act, answer, begin, die, land, lose_answer}
use Rattle.stream_model.specs.Worlds.{How, late, lost, once, short, twice}
use Rattle.stream_world.specs.declared.event.Event as code_event
use Rattle.stream_world.specs.declared.event.Event.TheVariants as events
use Rattle.stream_world.specs.declared.event.How as code_how
use Rattle.stream_world.specs.declared.event.How.TheVariants as hows

abbrev pub how_view : code_how.How → How
how_view hows.Once = once
how_view hows.Twice = twice
how_view hows.Late = late
how_view hows.Lost = lost
how_view hows.Short = short

abbrev pub event_view : code_event.Event → Event
event_view (events.Begin actor job) = begin actor (job_view job)
event_view (events.Die actor) = die actor
event_view (events.Act actor how) = act actor (how_view how)
event_view (events.Answer actor) = answer actor
event_view (events.LoseAnswer actor) = lose_answer actor
event_view (events.Land place) = land place

-- A call is answered in the way that it is to be, or memory ran out in it; one that is to be lost takes none.
abbrev pub IsMetIn : (how met : How) → Type 0
IsMetIn lost met = met ≡ lost
IsMetIn how met = (met ≡ how) ⊎ (met ≡ short)

-- A call is met so; any other event is what it is.
abbrev pub IsMetAs : (event met : Event) → Type 0
IsMetAs (act name how) met = (one : How) × IsMetIn how one × (met ≡ act name one)
IsMetAs event met = met ≡ event

-- Memory ran out in a call that was to be answered otherwise.
abbrev pub ran_out_of : (how met : How) → Bool
ran_out_of short met = false
ran_out_of how short = true
ran_out_of how met = false

-- The same of any event: only a call may be met otherwise than it was to be.
abbrev pub ran_out : (event met : Event) → Bool
ran_out (act name how) (act other met) = ran_out_of how met
ran_out event met = false
