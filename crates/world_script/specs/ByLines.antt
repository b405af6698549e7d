-- What a script with actors was told, read off its lines and replies alone: no world stands here.
use Rattle.std.specs.Prelude.{◌≡◌, ◌⊎◌, ◌+◌, ◌≤◌, ℕ, Bool, List, [], ◌∷◌, ◌++◌, length, map, Option, None, Some, bytes_eq, if◌then◌else◌}
use Rattle.delta_actions.specs.Commit.{lines_of}
use Rattle.lake_script.specs.Endings.{IsReplyOf}
use Rattle.lake_script.specs.LineJobs.{job_of_line, job_of_task}
use Rattle.lake_script.specs.Replies.{bad_line}
use Rattle.lake_script.specs.Runs.{IsWantOfMemory}
use Rattle.script_lines.specs.Lines as lines
use Rattle.script_lines.specs.Lines.{Statement, WorldLine, asks, bad, reading_of, skipped}
use Rattle.store_core.specs.Objects.{Objects}
use Rattle.store_core.specs.declared.store.Put.{Put}
use Rattle.stream_world.specs.Events.{begin}
use Rattle.stream_world.specs.Headline.{IsHeadline}
use Rattle.table_jobs.specs.Jobs.{Job, Outcome}
use Rattle.table_model.specs.Table.{Entry}
use Rattle.table_store.specs.Holds.{Holds}
use Rattle.table_store.specs.Schema.{Schema}
use Rattle.world_script.specs.Lines.{landing_reply, no_actor, no_offset, no_room, ok}

-- ---- which job is whose

-- What lines have set so far: how many versions later jobs try, and the job that each actor began which was started, the latest first; none, where the offset of
-- its read can't be read.
pub record Begun : Type 0 where
  pub tries : ℕ
  pub jobs : List (List ℕ × Option Job)

-- jobs try 16 versions until a line says otherwise, and no actor was started
abbrev pub nothing_begun : Begun
nothing_begun = record { tries = 16; jobs = [] }

-- the job that the actor of a name began last
abbrev pub last_begun : List ℕ → List (List ℕ × Option Job) → Option Job
last_begun name [] = None
last_begun name (one ∷ before) = if bytes_eq one.0 name then one.1 else last_begun name before

-- What a line with its reply sets: an actor has begun where its start is told so.
abbrev pub BeginsBehind : (use_checkpoints : Bool) → Statement → (reply : List ℕ) → (old new : Begun) → Type 0
BeginsBehind use_checkpoints (lines.world (lines.start name job)) reply old new =
    new ≡ (if bytes_eq reply ok then record { tries = old.tries; jobs = (name, job_of_task use_checkpoints old.tries job) ∷ old.jobs } else old)
BeginsBehind use_checkpoints (lines.tries count) reply old new = (new.jobs ≡ old.jobs) × (1 ≤ count → new.tries ≡ count)
BeginsBehind use_checkpoints statement reply old new = new ≡ old

-- one or none, as a list
abbrev pub jobs_in : Option Job → List Job
jobs_in None = []
jobs_in (Some job) = job ∷ []

-- the job that a line hands in, its own or that of the actor that it starts, if it has one
abbrev pub jobs_handed : (use_checkpoints : Bool) → (tries : ℕ) → Statement → List Job
jobs_handed use_checkpoints tries (lines.world (lines.start name job)) = jobs_in (job_of_task use_checkpoints tries job)
jobs_handed use_checkpoints tries statement = jobs_in (job_of_line use_checkpoints tries statement)

-- ---- what a line told

-- A line with a job of its own: its reply is what that told; or it tells that the offset of its read can't be read, or that there was no memory to begin.
pub data TellsOwn (use_checkpoints : Bool) (tries : ℕ) (statement : Statement) : (reply : List ℕ) → List (Job × Outcome) → Type 0 where
  own_ended : (job : Job) (outcome : Outcome) (reply : List ℕ) → job_of_line use_checkpoints tries statement ≡ Some job → IsReplyOf outcome reply → TellsOwn use_checkpoints tries statement reply ((job, outcome) ∷ [])
  own_refused : job_of_line use_checkpoints tries statement ≡ None → TellsOwn use_checkpoints tries statement no_offset []
  own_unbegun : (reply : List ℕ) → IsWantOfMemory statement reply → TellsOwn use_checkpoints tries statement reply []

-- A line that names an actor: its reply is what that told, of the job that it began last; or it tells that the actor went on or died, that there is none or it
-- has ended, or that the offset of its read can't be read.
pub data TellsBegun (jobs : List (List ℕ × Option Job)) (name : List ℕ) : (reply : List ℕ) → List (Job × Outcome) → Type 0 where
  begun_ended : (job : Job) (outcome : Outcome) (reply : List ℕ) → last_begun name jobs ≡ Some job → IsReplyOf outcome reply → TellsBegun jobs name reply ((job, outcome) ∷ [])
  begun_on : TellsBegun jobs name ok []
  begun_none : TellsBegun jobs name no_actor []
  begun_refused : TellsBegun jobs name no_offset []

-- The same of each line of the world of actors: others tell of no job, but that an actor has begun, which put landed, or that there was no memory.
abbrev pub TellsOfWorld : Begun → WorldLine → (reply : List ℕ) → List (Job × Outcome) → Type 0
TellsOfWorld b (lines.until name) reply outs = TellsBegun b.jobs name reply outs
TellsOfWorld b (lines.step name kind) reply outs = TellsBegun b.jobs name reply outs
TellsOfWorld b (lines.finish name) reply outs = TellsBegun b.jobs name reply outs
TellsOfWorld b (lines.die name) reply outs = TellsBegun b.jobs name reply outs
TellsOfWorld b (lines.start name job) reply outs = (outs ≡ []) × ((reply ≡ ok) ⊎ (reply ≡ no_room))
TellsOfWorld b (lines.land place) reply outs = (outs ≡ []) × ((reply ≡ no_room) ⊎ ((found : Option Put) × (reply ≡ landing_reply found)))
TellsOfWorld b (lines.fault kind) reply outs = (outs ≡ []) × (reply ≡ [])

-- and of any line: which job ended by it, if one did, and what that told
abbrev pub TellsOfJobs : (use_checkpoints : Bool) → Begun → Statement → (reply : List ℕ) → List (Job × Outcome) → Type 0
TellsOfJobs use_checkpoints b (lines.create id at schema) reply outs = TellsOwn use_checkpoints b.tries (lines.create id at schema) reply outs
TellsOfJobs use_checkpoints b (lines.task job) reply outs = TellsOwn use_checkpoints b.tries (lines.task job) reply outs
TellsOfJobs use_checkpoints b (lines.world line) reply outs = TellsOfWorld b line reply outs
TellsOfJobs use_checkpoints b (lines.look line) reply outs = outs ≡ []
TellsOfJobs use_checkpoints b (lines.foreign version action) reply outs = outs ≡ []
TellsOfJobs use_checkpoints b (lines.tries count) reply outs = (outs ≡ []) × (reply ≡ ok)

-- ---- what a text told

-- These lines were written this, one reply behind the other; they handed in these jobs, and these were told, each with its job.
pub data ToldByLines (use_checkpoints : Bool) : (lines : List (List ℕ)) → (written : List ℕ) → Begun → (handed : List Job) → (outs : List (Job × Outcome)) → Type 0 where
  nothing_told : ToldByLines use_checkpoints [] [] nothing_begun [] []
  skipped_one : (lines : List (List ℕ)) (line written : List ℕ) (b : Begun) (handed : List Job) (outs : List (Job × Outcome)) → ToldByLines use_checkpoints lines written b handed outs → reading_of line ≡ skipped
      → ToldByLines use_checkpoints (lines ++ line ∷ []) written b handed outs
  told_one : (lines : List (List ℕ)) (line written : List ℕ) (b : Begun) (handed : List Job) (outs : List (Job × Outcome)) (statement : Statement) (reply : List ℕ) (told : List (Job × Outcome)) (later : Begun)
      → ToldByLines use_checkpoints lines written b handed outs → reading_of line ≡ asks statement → TellsOfJobs use_checkpoints b statement reply told → BeginsBehind use_checkpoints statement reply b later
      → ToldByLines use_checkpoints (lines ++ line ∷ []) (written ++ reply) later (handed ++ jobs_handed use_checkpoints b.tries statement) (outs ++ told)

-- the same of a text: of all of its lines, or of those in front of its first bad one, which ends it
pub data ToldByText (use_checkpoints : Bool) (text : List ℕ) : (written : List ℕ) → (handed : List Job) → (outs : List (Job × Outcome)) → Type 0 where
  of_all : (written : List ℕ) (b : Begun) (handed : List Job) (outs : List (Job × Outcome)) → ToldByLines use_checkpoints (lines_of text) written b handed outs → ToldByText use_checkpoints text written handed outs
  up_to_bad : (lines : List (List ℕ)) (line : List ℕ) (rest : List (List ℕ)) (written : List ℕ) (b : Begun) (handed : List Job) (outs : List (Job × Outcome)) → lines_of text ≡ lines ++ line ∷ rest → reading_of line ≡ bad
      → ToldByLines use_checkpoints lines written b handed outs → ToldByText use_checkpoints text (written ++ bad_line (length lines + 1)) handed outs

-- What a text was told is so of the table that these objects hold: the headline holds, for the jobs that the text's lines handed in and for what was told, each of the
-- job of its line or of the one that its actor began last. Who began a job doesn't matter. So each batch that was acknowledged stands in the log once, every batch at
-- most once and as submitted, each application's in rising number and none after its close; and what a reader was handed that resumes at its last offset is exactly the
-- log's rows up to that offset, once each, in log order.
pub record IsTextSo (use_checkpoints : Bool) (text written : List ℕ) (objects : Objects) : Type 0 where
  pub handed : List Job
  pub outs : List (Job × Outcome)
  pub told : ToldByText use_checkpoints text written handed outs
  pub headline : (schema : Schema) (entries : List Entry) → Holds objects schema entries → IsHeadline (map (begin 0) handed) outs schema entries
