-- The session of a job of whatever kind: what it is to do, where it is, and what it tells.
use Rattle.std.specs.Prelude.{ℕ, Bool, Option}
use Rattle.session_core.specs.Talks.{Asked, Kind, Talk}
use Rattle.table_log.specs.LoadSessions as loading
use Rattle.snapshot_core.specs.CheckpointSessions as checkpointing
use Rattle.commit_core.specs.CreateSessions as creating
use Rattle.sink_core.specs.SinkFits as sinks
use Rattle.sink_core.specs.SinkSessions as streaming
use Rattle.source_core.specs.SourceSessions as reading
use Rattle.table_jobs.specs.Jobs.{Job, Outcome, checkpoint, checkpoints, creates, creation, load, loads, read, reads, stream, streams}
use Rattle.table_jobs.specs.declared.job_session.JobEnd.{JobEnd}
use Rattle.table_jobs.specs.declared.job_session.JobEnd.TheVariants as ends
use Rattle.table_jobs.specs.declared.job_session.JobSession.{JobSession}
use Rattle.table_jobs.specs.declared.job_session.JobSession.TheVariants.{Create, Load, Checkpoint, Stream, Read}

-- what it is to do
abbrev pub job_of : JobSession → Job
job_of (Create session) = creates (creating.job_of session)
job_of (Load session) = loads (loading.job_of session)
job_of (Checkpoint session) = checkpoints (checkpointing.job_of session)
job_of (Stream session) = streams (streaming.job_of session)
job_of (Read session) = reads (reading.job_of session)

-- the kind of the call that waits for an answer
abbrev pub awaited : JobSession → Option Kind
awaited (Create session) = creating.awaited_at session.stage
awaited (Load session) = loading.awaited_at session.stage
awaited (Checkpoint session) = checkpointing.awaited_at session.stage session.load
awaited (Stream session) = sinks.awaited_at session.stage session
awaited (Read session) = reading.awaited_at session.stage

-- behind what was known before it began, it may have had this talk, and wait for an answer to this call
abbrev pub SessionFits : (before : Talk) → JobSession → Talk → Option Asked → Type 0
SessionFits before (Create session) talk asked = creating.CreateFits before session talk asked
SessionFits before (Load session) talk asked = loading.LoadFits before session talk asked
SessionFits before (Checkpoint session) talk asked = checkpointing.CheckpointFits before session talk asked
SessionFits before (Stream session) talk asked = sinks.SinkFits before session talk asked
SessionFits before (Read session) talk asked = reading.SourceFits before session talk asked

-- how many calls it still makes at most
abbrev pub session_calls_left : JobSession → ℕ
session_calls_left (Create session) = creating.left_at session.stage
session_calls_left (Load session) = loading.left_at session.stage
session_calls_left (Checkpoint session) = checkpointing.left_at session.stage session.load
session_calls_left (Stream session) = sinks.left_at session.stage session
session_calls_left (Read session) = reading.left_of session.stage

-- whether it has ended
abbrev pub is_ended : JobSession → Bool
is_ended (Create session) = creating.is_ended session.stage
is_ended (Load session) = loading.is_ended session.stage
is_ended (Checkpoint session) = checkpointing.is_ended session.stage session.load
is_ended (Stream session) = sinks.is_ended session.stage session
is_ended (Read session) = reading.is_ended session.stage

-- what it told when it ended
abbrev pub end_view : JobEnd → Outcome
end_view (ends.Created result) = creation result
end_view (ends.Loaded result) = load result
end_view (ends.Checkpointed end) = checkpoint end
end_view (ends.Streamed end) = stream end
end_view (ends.Read end) = read end
