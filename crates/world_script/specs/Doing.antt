-- What the code does to a scene by a line, in the words of what a line does.
use Rattle.std.specs.Prelude.{◌≡◌, ℕ, Bool, true, false, List, Option, None, Some, Result, Ok, Err}
use Rattle.std.specs.declared.alloc.AllocError.{AllocError}
use Rattle.lake_script.specs.ReplyView.{is_short_reply, reply_text}
use Rattle.lake_script.specs.declared.reply.LineReply.{LineReply}
use Rattle.script_lines.specs.Lines.{Statement, Task}
use Rattle.script_lines.specs.declared.kind.Kind.{Kind}
use Rattle.table_jobs.specs.Jobs.{CanBegin, Job, Outcome}
use Rattle.store_core.specs.Objects.{Objects}
use Rattle.stream_world.specs.Events.{Event, Happens, begin}
use Rattle.stream_world.specs.Worlds.{World}
use Rattle.table_jobs.specs.Sessions.{end_view}
use Rattle.stream_world.specs.Standing.{HandsBackFront, TellsAs, WorldStands}
use Rattle.table_jobs.specs.declared.job_session.JobEnd as code_end
use Rattle.stream_world.specs.declared.world.World as code_world
use Rattle.world_script.specs.Acting.{LeadsThrough}
use Rattle.lake_script.specs.LineJobs.{job_of_task}
use Rattle.lake_script.specs.Endings.{IsReplyOf, IsShortBy}
use Rattle.world_script.specs.FallingShort.{IsLineShort, IsLookShort, IsToldShort, tells_want}
use Rattle.world_script.specs.Lines.{IsDoneToActor, LineDoes, RunsAlone, Starts, TellsOfObjects, no_room, ok}
use Rattle.world_script.specs.Scenes.{Scene, SceneStands}
use Rattle.world_script.specs.declared.named.Deed.{Deed}
use Rattle.world_script.specs.declared.scene.Scene as code

-- the reply to a line by which an actor went on, and ended if there is an outcome
abbrev pub IsReplyAs : Option code_end.JobEnd → List ℕ → Type 0
IsReplyAs None reply = reply ≡ ok
IsReplyAs (Some outcome) reply = IsReplyOf (end_view outcome) reply

-- and whether that reply is short
abbrev pub IsShortAs : Option code_end.JobEnd → (reply : List ℕ) → (short : Bool) → Type 0
IsShortAs None reply short = short ≡ false
IsShortAs (Some outcome) reply short = IsShortBy (end_view outcome) reply short

-- what a line does to a scene by some events, what sessions tell by them, its reply, and whether that is short
abbrev pub DoesInScene : Scene → Statement → (reply : List ℕ) → (short : Bool) → Scene → Type 0
DoesInScene s statement reply short later = (events : List Event) × (outs : List (Job × Outcome)) × LineDoes statement s events outs reply later × IsLineShort statement s outs reply short later

-- What a line did to a scene and replied, and whether it was short, for which the code stands now.
pub record LineComesTo {S : Type 0} (stored : S → Objects) (s : Scene) (statement : Statement) (reply : List ℕ) (short : Bool) (scene : code.Scene S) : Type 0 where
  pub events : List Event
  pub outs : List (Job × Outcome)
  pub later : Scene
  pub does : LineDoes statement s events outs reply later
  pub falls : IsLineShort statement s outs reply short later
  pub stands : SceneStands stored scene later

-- the same of lines that name an actor, of those that start one, of jobs without an actor, and of lines that tell of the objects
pub record ComesToNamed {S : Type 0} (stored : S → Objects) (s : Scene) (name : List ℕ) (deed : Deed) (reply : List ℕ) (short : Bool) (scene : code.Scene S) : Type 0 where
  pub events : List Event
  pub outs : List (Job × Outcome)
  pub later : Scene
  pub does : IsDoneToActor s name deed events outs reply later
  pub falls : IsToldShort outs reply short
  pub stands : SceneStands stored scene later

pub record ComesToStart {S : Type 0} (stored : S → Objects) (s : Scene) (name : List ℕ) (job : Task) (reply : List ℕ) (short : Bool) (scene : code.Scene S) : Type 0 where
  pub events : List Event
  pub later : Scene
  pub does : Starts s name (job_of_task s.use_checkpoints s.tries job) events reply later
  pub falls : short ≡ tells_want reply
  pub stands : SceneStands stored scene later

-- a start that succeeds is told so, and one that finds no memory that
abbrev pub start_reply : Result (Unit {0}) AllocError → List ℕ
start_reply (Ok done) = ok
start_reply (Err fault) = no_room

abbrev pub start_short : Result (Unit {0}) AllocError → Bool
start_short (Ok done) = false
start_short (Err fault) = true

abbrev pub StartsAs : {S : Type 0} → (stored : S → Objects) → Scene → (name : List ℕ) → Task → Result (Unit {0}) AllocError → code.Scene S → Type 0
StartsAs stored s name job result scene = ComesToStart stored s name job (start_reply result) (start_short result) scene

pub record ComesToAlone {S : Type 0} (stored : S → Objects) (s : Scene) (statement : Statement) (job : Option Job) (reply : List ℕ) (short : Bool) (scene : code.Scene S) : Type 0 where
  pub events : List Event
  pub outs : List (Job × Outcome)
  pub later : Scene
  pub does : RunsAlone s statement job events outs reply later
  pub falls : IsToldShort outs reply short
  pub stands : SceneStands stored scene later

pub record TellsIn {S : Type 0} (stored : S → Objects) (s : Scene) (statement : Statement) (reply : List ℕ) (short : Bool) (scene : code.Scene S) : Type 0 where
  pub later : Scene
  pub tells : TellsOfObjects s statement reply later
  pub falls : IsLookShort s statement reply short later
  pub stands : SceneStands stored scene later

-- An actor was led through a fault to its end, and told this, which hands back of the log what is so.
pub record CameThrough {S : Type 0} (stored : S → Objects) (fault : Option Kind) (w : World) (outcome : Option code_end.JobEnd) (left : Option Kind) (world : code_world.World S) : Type 0 where
  pub events : List Event
  pub told : Job × Outcome
  pub later : World
  pub leads : LeadsThrough 0 fault w events told left later
  pub tells : TellsAs outcome (Some told)
  pub hands : HandsBackFront (stored world.store.store) outcome
  pub stands : WorldStands stored world later

-- a job ran to its end and was told this; or there was no memory to begin it, and nothing happened
pub record RanJob {S : Type 0} (stored : S → Objects) (s : Scene) (job : Job) (reply : List ℕ) (short : Bool) (scene : code.Scene S) : Type 0 where
  pub mid : World
  pub can : CanBegin job
  pub begins : Happens s.world (begin 0 job) None mid
  pub events : List Event
  pub told : Job × Outcome
  pub left : Option Kind
  pub w : World
  pub leads : LeadsThrough 0 s.fault mid events told left w
  pub tells : IsReplyOf told.1 reply
  pub falls : IsShortBy told.1 reply short
  pub stands : SceneStands stored scene (record s { world = w; fault = left })

abbrev pub RunsJob : {S : Type 0} → (stored : S → Objects) → Scene → Job → Result LineReply AllocError → code.Scene S → Type 0
RunsJob stored s job (Ok reply) scene = RanJob stored s job (reply_text reply) (is_short_reply reply) scene
RunsJob stored s job (Err fault) scene = SceneStands stored scene s
