-- A job of the code, as plain data.
use Rattle.std.specs.Prelude.{◌≡◌, Bool, true, false, [], None, map, string_bytes}
use Rattle.log_reading.specs.Logs.{version_of}
use Rattle.log_reading.specs.declared.log_cache.LogCache.{LogCache}
use Rattle.table_log.specs.LoadSessions.{LoadJob, load_job}
use Rattle.table_log.specs.declared.loading.Loaded.{Loaded}
use Rattle.sink_core.specs.SinkSessions as sinks
use Rattle.sink_core.specs.SinkSessions.{SinkJob}
use Rattle.log_offsets.specs.Offsets.{offset_view}
use Rattle.table_jobs.specs.Jobs.{Job, checkpoints, creates, loads, reads, streams}
use Rattle.table_jobs.specs.declared.job.Job as code
use Rattle.table_jobs.specs.declared.job.Job.TheVariants as jobs
use Rattle.table_jobs.specs.declared.job.StreamJob.{StreamJob}

-- how a log is loaded of which nothing is known
abbrev pub new_load : (use_checkpoints : Bool) → LoadJob
new_load use_checkpoints = record { use_checkpoints = use_checkpoints; from = None; known = 0 }

abbrev pub stream_view : StreamJob → SinkJob
stream_view job = record {
  application = string_bytes job.application;
  task = sinks.sink_task_view job.task;
  at = job.at;
  tries = job.tries;
  load = new_load job.use_checkpoints;
  loads = true;
}

abbrev pub job_view : code.Job → Job
job_view (jobs.Create job) = creates (record { id = string_bytes job.id; at = job.at; schema = string_bytes job.schema })
job_view (jobs.Load use_checkpoints) = loads (new_load use_checkpoints)
job_view (jobs.Checkpoint use_checkpoints) = checkpoints (new_load use_checkpoints)
job_view (jobs.Stream job) = streams (stream_view job)
job_view (jobs.Read place max use_checkpoints) = reads (record { place = offset_view place; max = max; use_checkpoints = use_checkpoints; known = [] })

-- how a log is loaded of which this is known
abbrev pub known_load : Loaded → LoadJob → LoadJob
known_load known job = load_job job.use_checkpoints known

-- the job of a stream that goes on from what is known of the log, and loads nothing
abbrev pub without_load : Loaded → SinkJob → SinkJob
without_load known job = record job { load = known_load known job.load; loads = false }

-- a job that begins with what is known of the log
abbrev pub with_known : LogCache → Job → Job
with_known cache (creates job) = creates job
with_known cache (loads job) = loads (known_load cache.loaded job)
with_known cache (checkpoints job) = checkpoints (known_load cache.loaded job)
with_known cache (streams job) = streams (record job { load = known_load cache.loaded job.load })
with_known cache (reads job) = reads (record job { known = map version_of cache.log.standing.items })

-- What stays in a cache out of which a job takes what it needs: all of it; all but what was loaded; or, for a read, what was loaded.
abbrev pub KeepsRest : Job → (old new : LogCache) → Type 0
KeepsRest (creates job) old new = new ≡ old
KeepsRest (loads job) old new = (new.log ≡ old.log) × (new.file ≡ old.file) × (new.schema ≡ old.schema)
KeepsRest (checkpoints job) old new = (new.log ≡ old.log) × (new.file ≡ old.file) × (new.schema ≡ old.schema)
KeepsRest (streams job) old new = (new.log ≡ old.log) × (new.file ≡ old.file) × (new.schema ≡ old.schema)
KeepsRest (reads job) old new = new.loaded ≡ old.loaded
