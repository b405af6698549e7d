-- Which outcomes tell that a growth was refused, or that an object would have passed 64 MiB.
use Rattle.std.specs.Prelude.{ℕ, Bool, true, false, Result, Err}
use Rattle.batch_core.specs.declared.fault.SinkFault.{SinkFault}
use Rattle.batch_core.specs.declared.fault.SinkFault.TheVariants as sink
use Rattle.commit_core.specs.declared.fault.CreateFault.{CreateFault}
use Rattle.commit_core.specs.declared.fault.CreateFault.TheVariants as creating
use Rattle.log_rows.specs.declared.read_state.ReadRows.{ReadRows}
use Rattle.log_rows.specs.declared.tail_fault.TailFault.{TailFault}
use Rattle.log_rows.specs.declared.tail_fault.TailFault.TheVariants as tailing
use Rattle.sink_core.specs.declared.sink_state.SinkOutcome.{SinkOutcome}
use Rattle.snapshot_core.specs.declared.fault.SnapshotFault.{SnapshotFault}
use Rattle.snapshot_core.specs.declared.fault.SnapshotFault.TheVariants as snapshot_faults
use Rattle.table_log.specs.declared.fault.LogFault.{LogFault}
use Rattle.table_log.specs.declared.fault.LogFault.TheVariants as log_faults
use Rattle.table_log.specs.declared.loading.Loaded.{Loaded}
use Rattle.table_jobs.specs.Jobs.{Outcome, checkpoint, creation, load, read, stream}

abbrev pub creation_wants : Result (Unit {0}) CreateFault → Bool
creation_wants (Err creating.Memory) = true
creation_wants (Err creating.TooLarge) = true
creation_wants answer = false

abbrev pub load_wants : Result Loaded LogFault → Bool
load_wants (Err log_faults.Memory) = true
load_wants answer = false

abbrev pub checkpoint_wants : Result ℕ SnapshotFault → Bool
checkpoint_wants (Err snapshot_faults.Memory) = true
checkpoint_wants (Err snapshot_faults.TooLarge) = true
checkpoint_wants answer = false

abbrev pub stream_wants : Result SinkOutcome SinkFault → Bool
stream_wants (Err sink.Memory) = true
stream_wants (Err sink.FileTooLarge) = true
stream_wants answer = false

abbrev pub read_wants : Result ReadRows TailFault → Bool
read_wants (Err tailing.Memory) = true
read_wants answer = false

-- what a session told wants memory, or a smaller object
abbrev pub outcome_wants : Outcome → Bool
outcome_wants (creation answer) = creation_wants answer
outcome_wants (load answer) = load_wants answer
outcome_wants (checkpoint end) = checkpoint_wants end.answer
outcome_wants (stream end) = stream_wants end.answer
outcome_wants (read end) = read_wants end.answer
