-- How an actor's session is led on in a world, by events that follow one another.
use Rattle.std.specs.Prelude.{◌≡◌, ℕ, List, [], ◌∷◌, ◌++◌, Bool, true, false, not, Option, None, Some, option_map}
use Rattle.script_lines.specs.declared.kind.Kind.{Kind}
use Rattle.script_lines.specs.declared.kind.Kind.TheVariants.{Pass, Lost, Mute, Late, Twice}
use Rattle.session_core.specs.Talks.{Asked, Told, put_commit, told_memory}
use Rattle.table_jobs.specs.Jobs.{Job, Outcome}
use Rattle.stream_world.specs.Events.{Event, Happens, act, answer}
use Rattle.stream_world.specs.Worlds as worlds
use Rattle.stream_world.specs.Worlds.{Hand, How, World, asking, ended, fresh, waiting}
use Rattle.stream_world.specs.EventViews.{IsMetIn}
use Rattle.stream_world.specs.Standing.{HandsBackFront, WorldStands, TellsAs, taking}
use Rattle.table_jobs.specs.declared.job_session.JobEnd as code_end
use Rattle.stream_world.specs.declared.world.World as code_world
use Rattle.store_core.specs.Objects.{Objects}
use Rattle.world_script.specs.declared.acting.Next.{Next}
use Rattle.world_script.specs.declared.acting.Next.TheVariants as nexts

-- how a call is answered that meets a kind
abbrev pub how_of : Kind → How
how_of Pass = worlds.once
how_of Lost = worlds.lost
how_of Mute = worlds.once
how_of Late = worlds.late
how_of Twice = worlds.twice

-- whether its answer is lost on the way; that memory ran out never is
abbrev pub loses_answer : Kind → Bool
loses_answer Mute = true
loses_answer kind = false

abbrev pub loses_how : Kind → How → Bool
loses_how kind worlds.short = false
loses_how kind how = loses_answer kind

-- that memory ran out is told
abbrev pub is_memory : Told → Bool
is_memory told_memory = true
is_memory told = false

-- what the actor of a number has at hand
abbrev pub hand_at : World → ℕ → Option Hand
hand_at w n = option_map (λ a. a.hand) (w.actors n)

abbrev pub is_commit_put : Asked → Bool
is_commit_put (put_commit version bytes) = true
is_commit_put call = false

-- what comes next for an actor that has this at hand: a step without a call, or a call; nothing, where there is no session or it has ended
abbrev pub next_at : Option Hand → Next
next_at None = nexts.Nothing
next_at (Some fresh) = nexts.Step
next_at (Some (asking call)) = nexts.Call (is_commit_put call)
next_at (Some (waiting call told)) = nexts.Step
next_at (Some (ended outcome)) = nexts.Nothing

-- A step of an actor: its session makes its first step, or takes the answer that waits; or its call meets a kind and it takes the
-- answer, or is told that it was lost; or its call finds no memory, and it takes that. It may end by that and tell something.
pub data ActorSteps (n : ℕ) (kind : Kind) (w : World) : List Event → (told : Option (Job × Outcome)) → World → Type 0 where
  begins : (told : Option (Job × Outcome)) (later : World) → next_at (hand_at w n) ≡ nexts.Step → Happens w (answer n) told later → ActorSteps n kind w (answer n ∷ []) told later
  calls : (is_commit : Bool) (how : How) (mid : World) (told : Option (Job × Outcome)) (later : World) → next_at (hand_at w n) ≡ nexts.Call is_commit → IsMetIn (how_of kind) how → Happens w (act n how) None mid
      → Happens mid (taking n (loses_how kind how)) told later → ActorSteps n kind w (act n how ∷ taking n (loses_how kind how) ∷ []) told later

-- An actor's next call meets a kind. One that has asked for nothing yet makes its first step before, and may end by that.
pub data ActorMeets (n : ℕ) (kind : Kind) (w : World) : List Event → (told : Option (Job × Outcome)) → World → Type 0 where
  meets_now : (is_commit : Bool) (events : List Event) (told : Option (Job × Outcome)) (later : World) → next_at (hand_at w n) ≡ nexts.Call is_commit → ActorSteps n kind w events told later → ActorMeets n kind w events told later
  ends_before : (events : List Event) (told : Job × Outcome) (later : World) → next_at (hand_at w n) ≡ nexts.Step → ActorSteps n kind w events (Some told) later → ActorMeets n kind w events (Some told) later
  meets_then : (events : List Event) (mid : World) (more : List Event) (told : Option (Job × Outcome)) (later : World) → next_at (hand_at w n) ≡ nexts.Step → ActorSteps n kind w events None mid → ActorSteps n kind mid more told later
      → ActorMeets n kind w (events ++ more) told later

-- whether an actor that is led on goes on: it has a session, and it doesn't halt in front of this call
abbrev pub goes : (halts_at_commit : Bool) → Next → Bool
goes halts_at_commit nexts.Nothing = false
goes halts_at_commit nexts.Step = true
goes true (nexts.Call is_commit) = not is_commit
goes false (nexts.Call is_commit) = true

-- An actor was led on by steps that pass, and hasn't ended; in front of a commit put it goes on only where it is not to halt there.
pub data IsLedOn (n : ℕ) (halts_at_commit : Bool) (w : World) : List Event → World → Type 0 where
  at_first : IsLedOn n halts_at_commit w [] w
  then_one : (events : List Event) (mid : World) (more : List Event) (later : World) → IsLedOn n halts_at_commit w events mid → goes halts_at_commit (next_at (hand_at mid n)) ≡ true → ActorSteps n Pass mid more None later → IsLedOn n halts_at_commit w (events ++ more) later

-- It was led on until it halted, or until it ended and told something.
pub data Leads (n : ℕ) (halts_at_commit : Bool) (w : World) : List Event → (told : Option (Job × Outcome)) → World → Type 0 where
  halts : (events : List Event) (later : World) → halts_at_commit ≡ true → IsLedOn n halts_at_commit w events later → next_at (hand_at later n) ≡ nexts.Call true → Leads n halts_at_commit w events None later
  ends : (events : List Event) (mid : World) (more : List Event) (told : Job × Outcome) (later : World) → IsLedOn n halts_at_commit w events mid → goes halts_at_commit (next_at (hand_at mid n)) ≡ true → ActorSteps n Pass mid more (Some told) later
      → Leads n halts_at_commit w (events ++ more) (Some told) later

-- Its next commit put meets a kind, if there is one, and it is led to its end else.
pub data LeadsThrough (n : ℕ) : (fault : Option Kind) → World → List Event → Job × Outcome → (left : Option Kind) → World → Type 0 where
  unhindered : (w : World) (events : List Event) (told : Job × Outcome) (later : World) → Leads n false w events (Some told) later → LeadsThrough n None w events told None later
  in_front : (kind : Kind) (w : World) (events : List Event) (told : Job × Outcome) (later : World) → Leads n true w events (Some told) later → LeadsThrough n (Some kind) w events told (Some kind) later
  by_it : (kind : Kind) (w : World) (events : List Event) (mid : World) (more : List Event) (told : Job × Outcome) (later : World) → Leads n true w events None mid → ActorSteps n kind mid more (Some told) later
      → LeadsThrough n (Some kind) w (events ++ more) told None later
  behind : (kind : Kind) (w : World) (events : List Event) (mid : World) (more : List Event) (after : World) (rest : List Event) (told : Job × Outcome) (later : World) → Leads n true w events None mid
      → ActorSteps n kind mid more None after → Leads n false after rest (Some told) later → LeadsThrough n (Some kind) w (events ++ more ++ rest) told None later

-- ---- in the code

-- A world of the code came from one by events of this kind, told this, which hands back of the log what is so, and stands for a later one.
pub record CameBy {S : Type 0} (stored : S → Objects) (does : List Event → Option (Job × Outcome) → World → Type 0) (outcome : Option code_end.JobEnd) (world : code_world.World S) : Type 0 where
  pub events : List Event
  pub told : Option (Job × Outcome)
  pub later : World
  pub done : does events told later
  pub tells : TellsAs outcome told
  pub hands : HandsBackFront (stored world.store.store) outcome
  pub stands : WorldStands stored world later
