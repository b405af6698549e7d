-- Which replies to a job are short, and which say that a call was lost, by what its session told.
use Rattle.std.proofs.Common.{◌≡◌, Result, Ok, Err, refl}
use Rattle.batch_core.specs.declared.fault.SinkFault.{SinkFault}
use Rattle.batch_core.specs.declared.fault.SinkFault.TheVariants as sinks
use Rattle.commit_core.specs.CreateSessions.{creation_tells_lost}
use Rattle.commit_core.specs.declared.fault.CreateFault.{CreateFault}
use Rattle.commit_core.specs.declared.fault.CreateFault.TheVariants as creating
use Rattle.log_rows.specs.declared.tail_fault.TailFault.{TailFault}
use Rattle.log_rows.specs.declared.tail_fault.TailFault.TheVariants as tailing
use Rattle.sink_core.specs.SinkSessions.{is_lost_end}
use Rattle.sink_core.specs.declared.sink_state.SinkEnd.{SinkEnd}
use Rattle.sink_core.specs.declared.sink_state.SinkOutcome.{SinkOutcome}
use Rattle.snapshot_core.specs.CheckpointSessions.{is_lost_answer}
use Rattle.snapshot_core.specs.declared.fault.SnapshotFault.{SnapshotFault}
use Rattle.snapshot_core.specs.declared.fault.SnapshotFault.TheVariants as snapshots
use Rattle.source_core.specs.SourceSessions.{loses}
use Rattle.table_log.specs.declared.loading.Loaded.{Loaded}
use Rattle.lake_script.specs.Endings.{stream_loses}
use Rattle.table_jobs.specs.Wants.{checkpoint_wants, creation_wants, read_wants, stream_wants}
use Rattle.lake_script.specs.ReplyView.{is_short_reply, says_lost}
use Rattle.lake_script.specs.declared.reply.LineReply.TheVariants.{NoSnapshot, NotCreated, NotTailed, SinkRefused}

-- ---- want of memory

pub creation_short : (fault : CreateFault) → is_short_reply (NotCreated fault) ≡ creation_wants (Err fault)
creation_short creating.TableExists = refl
creation_short (creating.BadSchema why) = refl
creation_short creating.BadId = refl
creation_short creating.Memory = refl
creation_short creating.Lost = refl
creation_short creating.TooLarge = refl

pub checkpoint_short : (fault : SnapshotFault) → is_short_reply (NoSnapshot fault) ≡ checkpoint_wants (Err fault)
checkpoint_short snapshots.Lost = refl
checkpoint_short snapshots.Memory = refl
checkpoint_short (snapshots.BadLog version) = refl
checkpoint_short (snapshots.Unsupported fault) = refl
checkpoint_short snapshots.TooLarge = refl

pub stream_short : (fault : SinkFault) → is_short_reply (SinkRefused fault) ≡ stream_wants (Err fault)
stream_short sinks.BadApp = refl
stream_short sinks.TooLarge = refl
stream_short sinks.FileTooLarge = refl
stream_short (sinks.BadLog version) = refl
stream_short (sinks.ReadOnly fault) = refl
stream_short (sinks.BadRow index fault) = refl
stream_short (sinks.Stale last) = refl
stream_short sinks.StreamClosed = refl
stream_short (sinks.Differs name) = refl
stream_short (sinks.SchemaChanged version) = refl
stream_short (sinks.Contended newest) = refl
stream_short (sinks.Lost version) = refl
stream_short sinks.Memory = refl

pub read_short : (fault : TailFault) → is_short_reply (NotTailed fault) ≡ read_wants (Err fault)
read_short tailing.BadOffsetText = refl
read_short (tailing.Unsupported fault) = refl
read_short (tailing.BeyondLog next) = refl
read_short (tailing.VersionGone first) = refl
read_short (tailing.RowsRemoved version) = refl
read_short (tailing.SchemaChanged version) = refl
read_short (tailing.BadPlace version) = refl
read_short (tailing.MissingFile path) = refl
read_short (tailing.BadFile version file fault) = refl
read_short (tailing.BadLog version) = refl
read_short tailing.Lost = refl
read_short tailing.Memory = refl

-- ---- a lost call

pub creation_loses : (fault : CreateFault) → says_lost (NotCreated fault) ≡ creation_tells_lost (Err fault)
creation_loses creating.TableExists = refl
creation_loses (creating.BadSchema why) = refl
creation_loses creating.BadId = refl
creation_loses creating.Memory = refl
creation_loses creating.Lost = refl
creation_loses creating.TooLarge = refl

pub checkpoint_loses : (fault : SnapshotFault) → says_lost (NoSnapshot fault) ≡ is_lost_answer (Err fault)
checkpoint_loses snapshots.Lost = refl
checkpoint_loses snapshots.Memory = refl
checkpoint_loses (snapshots.BadLog version) = refl
checkpoint_loses (snapshots.Unsupported fault) = refl
checkpoint_loses snapshots.TooLarge = refl

pub fault_loses : (fault : SinkFault) → says_lost (SinkRefused fault) ≡ stream_loses (Err fault)
fault_loses sinks.BadApp = refl
fault_loses sinks.TooLarge = refl
fault_loses sinks.FileTooLarge = refl
fault_loses (sinks.BadLog version) = refl
fault_loses (sinks.ReadOnly fault) = refl
fault_loses (sinks.BadRow index fault) = refl
fault_loses (sinks.Stale last) = refl
fault_loses sinks.StreamClosed = refl
fault_loses (sinks.Differs name) = refl
fault_loses (sinks.SchemaChanged version) = refl
fault_loses (sinks.Contended newest) = refl
fault_loses (sinks.Lost version) = refl
fault_loses sinks.Memory = refl

-- an append or a close tells so, whatever is known of the log by then
told_loses : (known : Loaded) (answer : Result SinkOutcome SinkFault) → stream_loses answer ≡ is_lost_end (record { known = known; answer = answer })
told_loses known (Ok outcome) = refl
told_loses known (Err sinks.BadApp) = refl
told_loses known (Err sinks.TooLarge) = refl
told_loses known (Err sinks.FileTooLarge) = refl
told_loses known (Err (sinks.BadLog version)) = refl
told_loses known (Err (sinks.ReadOnly fault)) = refl
told_loses known (Err (sinks.BadRow index fault)) = refl
told_loses known (Err (sinks.Stale last)) = refl
told_loses known (Err sinks.StreamClosed) = refl
told_loses known (Err (sinks.Differs name)) = refl
told_loses known (Err (sinks.SchemaChanged version)) = refl
told_loses known (Err (sinks.Contended newest)) = refl
told_loses known (Err (sinks.Lost version)) = refl
told_loses known (Err sinks.Memory) = refl

pub stream_tells : (end : SinkEnd) → stream_loses end.answer ≡ is_lost_end end
stream_tells end = told_loses end.known end.answer

pub read_loses : (fault : TailFault) → says_lost (NotTailed fault) ≡ loses (Err fault)
read_loses tailing.BadOffsetText = refl
read_loses (tailing.Unsupported fault) = refl
read_loses (tailing.BeyondLog next) = refl
read_loses (tailing.VersionGone first) = refl
read_loses (tailing.RowsRemoved version) = refl
read_loses (tailing.SchemaChanged version) = refl
read_loses (tailing.BadPlace version) = refl
read_loses (tailing.MissingFile path) = refl
read_loses (tailing.BadFile version file fault) = refl
read_loses (tailing.BadLog version) = refl
read_loses tailing.Lost = refl
read_loses tailing.Memory = refl
