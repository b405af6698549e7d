-- Which job what was told is of, read off the events alone.
use Rattle.std.specs.Prelude.{ℕ, ◌==◌, List, [], ◌∷◌, ◌++◌, Option, None, Some, if◌then◌else◌}
use Rattle.table_jobs.specs.Jobs.{Job, Outcome, checkpoint, checkpoints, creates, creation, load, loads, read, reads, stream, streams}
use Rattle.stream_model.specs.Events.{Event, answer, begin, lose_answer}

-- the job that the actor of a number began last, by these events, the latest first
abbrev pub job_begun : ℕ → List Event → Option Job
job_begun name [] = None
job_begun name (begin other job ∷ before) = if name == other then Some job else job_begun name before
job_begun name (event ∷ before) = job_begun name before

-- the job of the session that goes on by an event behind these, the latest first
abbrev pub job_going_on : List Event → Event → Option Job
job_going_on before (answer name) = job_begun name before
job_going_on before (lose_answer name) = job_begun name before
job_going_on before event = None

-- what was told, if anything was, with its job
abbrev pub out_of : Option Job → Option Outcome → List (Job × Outcome)
out_of (Some job) (Some outcome) = (job, outcome) ∷ []
out_of job told = []

-- What each of these events told, in order, with its job: that which its actor began last. Behind these, the latest first.
abbrev pub outs_told : (before : List Event) → List Event → List (Option Outcome) → List (Job × Outcome)
outs_told before (event ∷ events) (told ∷ more) = out_of (job_going_on before event) told ++ outs_told (event ∷ before) events more
outs_told before events told = []

-- ---- nothing else is told

-- a job's outcome is of its kind
abbrev pub IsOfKind : Job → Outcome → Type 0
IsOfKind (creates job) (creation result) = Unit {0}
IsOfKind (loads job) (load result) = Unit {0}
IsOfKind (checkpoints job) (checkpoint end) = Unit {0}
IsOfKind (streams job) (stream end) = Unit {0}
IsOfKind (reads job) (read end) = Unit {0}
IsOfKind job outcome = ⊥

-- what is told is of a job
abbrev pub IsOwned : Option Job → Option Outcome → Type 0
IsOwned job None = Unit {0}
IsOwned None (Some outcome) = ⊥
IsOwned (Some job) (Some outcome) = IsOfKind job outcome

-- What each of these events told is of a job, and of its kind: only by an event by which a session goes on is anything told. Behind these, the latest first.
abbrev pub AreOwned : (before : List Event) → List Event → List (Option Outcome) → Type 0
AreOwned before (event ∷ events) (told ∷ more) = IsOwned (job_going_on before event) told × AreOwned (event ∷ before) events more
AreOwned before events told = Unit {0}
