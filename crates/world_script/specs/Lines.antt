-- What each line of a script does to a scene: the events that it is, what sessions told by them, and its reply.
use Rattle.std.specs.Prelude.{◌≡◌, ℕ, List, [], ◌∷◌, true, false, ◌≤◌, Option, None, Some, codes}
use Rattle.outcomes.specs.Lines.{with_newline}
use Rattle.commit_core.specs.Texts.{refused}
use Rattle.lake_script.specs.Replies.{fault_text, noted}
use Rattle.lake_script.specs.Runs.{Executes, IsWantOfMemory}
use Rattle.store_core.specs.Texts as stores
use Rattle.store_core.specs.declared.fault.StoreFault.TheVariants as store_faults
use Rattle.lake_script.specs.Tries.{IsLook}
use Rattle.table_log.specs.Restoring.{RestoresWell}
use Rattle.lake_script.specs.declared.faults.Fault.TheVariants.{NoActor, NoSuchName}
use Rattle.script_lines.specs.Lines as lines
use Rattle.script_lines.specs.Lines.{Statement, WorldLine}
use Rattle.script_lines.specs.declared.kind.Kind.{Kind}
use Rattle.table_jobs.specs.Jobs.{CanBegin, Job, Outcome}
use Rattle.source_core.specs.TailFaults as tails
use Rattle.source_core.specs.Tailing.{bad_offset}
use Rattle.store_core.specs.Objects.{Objects}
use Rattle.store_core.specs.declared.store.Put.{Put}
use Rattle.store_core.specs.declared.store.Put.TheVariants as puts
use Rattle.stream_world.specs.Events.{Event, HasActor, Happens, begin, die, land, with_told}
use Rattle.stream_world.specs.Worlds.{World, anew}
use Rattle.stream_world.specs.Standing.{landing_told}
use Rattle.world_script.specs.Acting.{Leads, LeadsThrough, ActorMeets, hand_at, next_at}
use Rattle.world_script.specs.declared.acting.Next.TheVariants as nexts
use Rattle.lake_script.specs.LineJobs.{job_of_creation, job_of_task}
use Rattle.lake_script.specs.Endings.{IsReplyOf}
use Rattle.world_script.specs.Scenes.{HasPart, Scene, next_behind_part, part_for}
use Rattle.world_script.specs.declared.named.Deed.{Deed}
use Rattle.world_script.specs.declared.named.Deed.TheVariants as deeds
use Rattle.world_script.specs.declared.part.Part.{Part}

-- ---- replies

abbrev pub ok : List ℕ
ok = with_newline noted

abbrev pub no_actor : List ℕ
no_actor = with_newline (refused (fault_text NoActor))

-- of a read whose offset can't be read
abbrev pub no_offset : List ℕ
no_offset = with_newline (refused (tails.read_refusal_text bad_offset))

-- of an actor that goes on, what its session told if it ended
abbrev pub IsReplyIn : Option (Job × Outcome) → List ℕ → Type 0
IsReplyIn None reply = reply ≡ ok
IsReplyIn (Some told) reply = IsReplyOf told.1 reply

-- of a put in flight that took effect
abbrev pub landing_reply : Option Put → List ℕ
landing_reply None = with_newline (refused (fault_text NoSuchName))
landing_reply (Some puts.Created) = with_newline (codes "created")
landing_reply (Some puts.Exists) = with_newline (codes "taken")

-- ---- lines that name an actor

-- it dies
pub data Dies (number : ℕ) (w : World) : List Event → (told : Option (Job × Outcome)) → World → Type 0 where
  dies_now : (later : World) → Happens w (die number) None later → Dies number w (die number ∷ []) None later

-- what a line does to an actor of a number that has a session
abbrev pub deed_does : Deed → (number : ℕ) → World → List Event → Option (Job × Outcome) → World → Type 0
deed_does deeds.Until number w events told later = Leads number true w events told later
deed_does (deeds.Step kind) number w events told later = ActorMeets number kind w events told later
deed_does deeds.Finish number w events told later = Leads number false w events told later
deed_does deeds.Die number w events told later = Dies number w events told later

-- what is told of an actor whose read was refused for its offset when it was started, once
abbrev pub if_refused : Deed → List ℕ
if_refused deeds.Die = ok
if_refused deed = no_offset

-- That is done to the actor of a name, if it has a session that hasn't ended: of one that isn't there, or has none, it is told that there is no actor.
pub data IsDoneToActor (s : Scene) (name : List ℕ) (deed : Deed) : List Event → List (Job × Outcome) → (reply : List ℕ) → Scene → Type 0 where
  unknown : s.part name ≡ None → IsDoneToActor s name deed [] [] no_actor s
  gone : (part : Part) → s.part name ≡ Some part → part.is_refused ≡ false → next_at (hand_at s.world part.number) ≡ nexts.Nothing → IsDoneToActor s name deed [] [] no_actor s
  refuses : (part : Part) (later : Scene) → s.part name ≡ Some part → part.is_refused ≡ true → HasPart s later name (record part { is_refused = false }) s.next s.world → IsDoneToActor s name deed [] [] (if_refused deed) later
  does_it : (part : Part) (events : List Event) (told : Option (Job × Outcome)) (w : World) (reply : List ℕ) → s.part name ≡ Some part → part.is_refused ≡ false → (next_at (hand_at s.world part.number) ≡ nexts.Nothing → ⊥)
      → deed_does deed part.number s.world events told w → IsReplyIn told reply → IsDoneToActor s name deed events (with_told [] told) reply (record s { world = w })

-- of an actor that can't be started, or a put that can't take effect, for want of memory
abbrev pub no_room : List ℕ
no_room = with_newline (refused (stores.fault_text store_faults.Memory))

-- An actor begins a job that can begin, with nothing known of the log, in place of an older one. Where the offset of a read can't be read, the actor
-- is told so later. Where memory runs out nothing happens, but that the actor may be known by its name.
pub data Starts (s : Scene) (name : List ℕ) (job : Option Job) : List Event → (reply : List ℕ) → Scene → Type 0 where
  starts : (one : Job) (w : World) (later : Scene) → job ≡ Some one → CanBegin one → Happens s.world (begin (part_for (s.part name) s.next).number one) None w → HasActor w (part_for (s.part name) s.next).number (anew one)
      → HasPart s later name (record (part_for (s.part name) s.next) { is_refused = false }) (next_behind_part (s.part name) s.next) w → Starts s name job (begin (part_for (s.part name) s.next).number one ∷ []) ok later
  refuses_it : (w : World) (later : Scene) → job ≡ None → Happens s.world (die (part_for (s.part name) s.next).number) None w
      → HasPart s later name (record (part_for (s.part name) s.next) { is_refused = true }) (next_behind_part (s.part name) s.next) w → Starts s name job (die (part_for (s.part name) s.next).number ∷ []) ok later
  has_no_room : Starts s name job [] no_room s
  has_no_room_for_it : (later : Scene) → HasPart s later name (part_for (s.part name) s.next) (next_behind_part (s.part name) s.next) s.world → Starts s name job [] no_room later

-- ---- other lines

-- A line without an actor is a job that can begin, of the actor of number 0, which is led to its end; its next commit
-- put meets the fault that was set. Where the offset of a read can't be read, it is refused.
pub data RunsAlone (s : Scene) (statement : Statement) (job : Option Job) : List Event → List (Job × Outcome) → (reply : List ℕ) → Scene → Type 0 where
  runs : (one : Job) (mid : World) (events : List Event) (told : Job × Outcome) (left : Option Kind) (w : World) (reply : List ℕ) → job ≡ Some one → CanBegin one → Happens s.world (begin 0 one) None mid
      → LeadsThrough 0 s.fault mid events told left w → IsReplyOf told.1 reply → RunsAlone s statement job (begin 0 one ∷ events) (told ∷ []) reply (record s { world = w; fault = left })
  is_refused : job ≡ None → RunsAlone s statement job [] [] no_offset s
  finds_no_room : (reply : List ℕ) → IsWantOfMemory statement reply → RunsAlone s statement job [] [] reply s

-- a put in flight takes effect, if there is one of that number
pub data Lands (s : Scene) (place : ℕ) : List Event → (reply : List ℕ) → Scene → Type 0 where
  lands_now : (w : World) → Happens s.world (land place) None w → Lands s place (land place ∷ []) (landing_reply (landing_told s.world place)) (record s { world = w })
  no_room_to_land : Lands s place [] no_room s

-- A line tells of the objects that stand, and leaves them; or it puts another tool's commit beside them. Neither is an event of a world. What is told is said
-- where each checkpoint that reads well is one of the log, or none is used.
pub data TellsOfObjects (s : Scene) (statement : Statement) : (reply : List ℕ) → Scene → Type 0 where
  tells_of : (reply : List ℕ) (objects : Objects) → (RestoresWell s.use_checkpoints s.world.objects → Executes s.world.objects statement reply objects) → (IsLook statement → objects ≡ s.world.objects)
      → TellsOfObjects s statement reply (record s { world = record s.world { objects = objects } })

abbrev pub IsStoreLine : Scene → Statement → List Event → List (Job × Outcome) → (reply : List ℕ) → Scene → Type 0
IsStoreLine s statement events outs reply later = (events ≡ []) × (outs ≡ []) × TellsOfObjects s statement reply later

-- later sessions try so many versions; a line has at least one
abbrev pub SetsSceneTries : (count : ℕ) → Scene → Scene → Type 0
SetsSceneTries count s later = (tries : ℕ) × (1 ≤ count → tries ≡ count) × (later ≡ record s { tries = tries })

-- ---- all lines

-- what a line does to the world of actors
abbrev pub WorldLineDoes : WorldLine → Scene → List Event → (outs : List (Job × Outcome)) → (reply : List ℕ) → Scene → Type 0
WorldLineDoes (lines.start name job) s events outs reply later = (outs ≡ []) × Starts s name (job_of_task s.use_checkpoints s.tries job) events reply later
WorldLineDoes (lines.until name) s events outs reply later = IsDoneToActor s name deeds.Until events outs reply later
WorldLineDoes (lines.step name kind) s events outs reply later = IsDoneToActor s name (deeds.Step kind) events outs reply later
WorldLineDoes (lines.finish name) s events outs reply later = IsDoneToActor s name deeds.Finish events outs reply later
WorldLineDoes (lines.die name) s events outs reply later = IsDoneToActor s name deeds.Die events outs reply later
WorldLineDoes (lines.land place) s events outs reply later = (outs ≡ []) × Lands s place events reply later
WorldLineDoes (lines.fault kind) s events outs reply later = (events ≡ []) × (outs ≡ []) × (reply ≡ []) × (later ≡ record s { fault = Some kind })

abbrev pub LineDoes : Statement → Scene → List Event → (outs : List (Job × Outcome)) → (reply : List ℕ) → Scene → Type 0
LineDoes (lines.create id at schema) s events outs reply later = RunsAlone s (lines.create id at schema) (Some (job_of_creation id at schema)) events outs reply later
LineDoes (lines.task job) s events outs reply later = RunsAlone s (lines.task job) (job_of_task s.use_checkpoints s.tries job) events outs reply later
LineDoes (lines.look line) s events outs reply later = IsStoreLine s (lines.look line) events outs reply later
LineDoes (lines.foreign version action) s events outs reply later = IsStoreLine s (lines.foreign version action) events outs reply later
LineDoes (lines.tries count) s events outs reply later = (events ≡ []) × (outs ≡ []) × (reply ≡ ok) × SetsSceneTries count s later
LineDoes (lines.world line) s events outs reply later = WorldLineDoes line s events outs reply later
