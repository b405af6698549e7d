-- Why no checkpoint is put and no snapshot is told, as far as the log says it.
use Rattle.std.specs.Prelude.{◌≡◌, ℕ, Bool, List, Result, Ok}
use Rattle.outcomes.specs.Outcome.{Said, refuses, says_nothing, never_comes}
use Rattle.outcomes.specs.Results.{◌>>=◌, refused_as}
use Rattle.store_core.specs.Objects.{Objects}
use Rattle.store_core.specs.declared.fault.StoreFault.{StoreFault}
use Rattle.store_core.specs.declared.fault.StoreFault.TheVariants as stores
use Rattle.delta_actions.specs.Action.{Action}
use Rattle.delta_replay.specs.Support as supports
use Rattle.delta_replay.specs.Support.{Unsupported, checkpointable, readable}
use Rattle.delta_replay.specs.declared.support.SupportError.{SupportError}
use Rattle.delta_replay.specs.declared.support.SupportError.TheVariants as errors
use Rattle.table_log.specs.Restoring.{replayed}
use Rattle.table_log.specs.declared.fault.LogFault.{LogFault}
use Rattle.table_log.specs.declared.fault.LogFault.TheVariants as logs
use Rattle.snapshot_core.specs.declared.fault.SnapshotFault.{SnapshotFault}
use Rattle.snapshot_core.specs.declared.fault.SnapshotFault.TheVariants as faults

-- Why a log gives no checkpoint or no snapshot.
pub data Reason : Type 0 where
  -- the commit of that version is missing or can't be read
  bad_log : (version : ℕ) → Reason
  -- what the table has or lacks
  unsupported : Unsupported → Reason

-- The commits that a log is seen as whose checkpoint is put, or the first reason why it isn't: the first version that has
-- no commit that can be read, and what the table has or lacks.
abbrev pub checked_for_checkpoint : (use_checkpoints : Bool) → Objects → Result (List (List Action)) Reason
checked_for_checkpoint use_checkpoints objects = do
  commits ← refused_as bad_log (replayed use_checkpoints objects)
  fine ← refused_as unsupported (checkpointable commits)
  Ok commits

-- the same of a log whose table is read
abbrev pub readable_log : (use_checkpoints : Bool) → Objects → Result (List (List Action)) Reason
readable_log use_checkpoints objects = do
  commits ← refused_as bad_log (replayed use_checkpoints objects)
  schema ← refused_as unsupported (readable commits)
  Ok commits

-- What a fault says of a log. That a checkpoint is too large isn't said of one.
abbrev pub says : SnapshotFault → Said Reason
says (faults.BadLog version) = refuses (bad_log version)
says (faults.Unsupported fault) = refuses (unsupported (supports.fault_of fault))
says faults.TooLarge = never_comes
says faults.Lost = says_nothing
says faults.Memory = says_nothing

-- a call of the store that has no answer
abbrev pub IsSnapshotUnanswered : StoreFault → SnapshotFault → Type 0
IsSnapshotUnanswered stores.Lost fault = fault ≡ faults.Lost
IsSnapshotUnanswered stores.Memory fault = fault ≡ faults.Memory

-- a log that isn't loaded
abbrev pub IsSnapshotLogFault : LogFault → SnapshotFault → Type 0
IsSnapshotLogFault (logs.BadLog version) fault = fault ≡ faults.BadLog version
IsSnapshotLogFault logs.Lost fault = fault ≡ faults.Lost
IsSnapshotLogFault logs.Memory fault = fault ≡ faults.Memory

-- a table that isn't read, or whose checkpoint isn't put
abbrev pub IsSnapshotSupportFault : SupportError → SnapshotFault → Type 0
IsSnapshotSupportFault (errors.Fault why) fault = fault ≡ faults.Unsupported why
IsSnapshotSupportFault errors.Memory fault = fault ≡ faults.Memory
