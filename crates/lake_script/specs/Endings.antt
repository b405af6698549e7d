-- The reply to a job, by what its session told.
use Rattle.std.specs.Prelude.{◌≡◌, ◌⊎◌, ℕ, Bool, true, false, List, Option, Some, Result, Ok, Err}
use Rattle.batch_core.specs.Refusals.{sink_refusal_text, sink_refusal_view}
use Rattle.commit_core.specs.Texts.{create_fault_text, refused}
use Rattle.outcomes.specs.Lines.{with_newline}
use Rattle.lake_script.specs.Checkpoints.{checkpointed_at}
use Rattle.lake_script.specs.Replies.{created, outcome_text}
use Rattle.lake_script.specs.Runs.{no_room_to_read}
use Rattle.lake_script.specs.Told.{not_yet}
use Rattle.schema_tree.specs.Schema.{tree_of}
use Rattle.table_jobs.specs.Jobs.{Outcome, checkpoint, creation, is_lost_outcome, load, read, stream}
use Rattle.table_jobs.specs.Wants.{checkpoint_wants, creation_wants, read_wants, stream_wants}
use Rattle.snapshot_core.specs.FaultTexts as snapshots
use Rattle.source_core.specs.TailFaults as tails
use Rattle.source_core.specs.TailViews.{handed_view}
use Rattle.source_core.specs.TailTexts.{handed_text}
use Rattle.log_reading.specs.declared.log_cache.LogCache.{LogCache}
use Rattle.log_reading.specs.declared.schema_text.TableSchema.{TableSchema}
use Rattle.log_rows.specs.declared.read_state.ReadRows.{ReadRows}
use Rattle.log_rows.specs.declared.tail_fault.TailFault.{TailFault}
use Rattle.sink_core.specs.declared.sink_state.SinkOutcome.{SinkOutcome}
use Rattle.batch_core.specs.declared.fault.SinkFault.{SinkFault}
use Rattle.batch_core.specs.declared.fault.SinkFault.TheVariants as sink
use Rattle.snapshot_core.specs.declared.fault.SnapshotFault.{SnapshotFault}

-- the outcome of an append or a close, or why there is none
abbrev pub stream_reply : Result SinkOutcome SinkFault → List ℕ
stream_reply (Ok outcome) = with_newline (outcome_text outcome)
stream_reply (Err fault) = with_newline (refused (sink_refusal_text (sink_refusal_view fault)))

-- the version of which a checkpoint was put, or why none was
abbrev pub checkpoint_end_reply : Result ℕ SnapshotFault → List ℕ
checkpoint_end_reply (Ok version) = with_newline (checkpointed_at version)
checkpoint_end_reply (Err fault) = with_newline (refused (snapshots.fault_text fault))

-- of rows that were handed out their lines, and where the next read begins; or that there was no room for that text
abbrev pub IsReadReply : Result ReadRows TailFault → List ℕ → Type 0
IsReadReply (Ok handed) reply = (reply ≡ handed_text (tree_of handed.schema.schema) (handed_view handed)) ⊎ (reply ≡ no_room_to_read)
IsReadReply (Err fault) reply = reply ≡ with_newline (refused (tails.read_refusal_text (tails.read_refusal_view fault)))

-- The reply to a line whose session told this. No line asks for a load: one would be told as not yet there.
abbrev pub IsReplyOf : Outcome → List ℕ → Type 0
IsReplyOf (creation (Ok done)) reply = reply ≡ with_newline created
IsReplyOf (creation (Err fault)) reply = reply ≡ with_newline (refused (create_fault_text fault))
IsReplyOf (checkpoint end) reply = reply ≡ checkpoint_end_reply end.answer
IsReplyOf (stream end) reply = reply ≡ stream_reply end.answer
IsReplyOf (read end) reply = IsReadReply end.answer reply
IsReplyOf (load result) reply = reply ≡ not_yet

-- ---- which replies are short, and which say that a call was lost

-- The reply to a read is short just where the read tells so, or where there was no room for the text of its rows.
abbrev pub IsReadShort : Result ReadRows TailFault → (reply : List ℕ) → (short : Bool) → Type 0
IsReadShort (Ok handed) reply short =
    ((reply ≡ handed_text (tree_of handed.schema.schema) (handed_view handed)) × (short ≡ false)) ⊎ ((reply ≡ no_room_to_read) × (short ≡ true))
IsReadShort (Err fault) reply short = short ≡ read_wants (Err fault)

-- So is each other reply just where the session tells so. No line asks for a load, and its reply is never short.
abbrev pub IsShortBy : Outcome → (reply : List ℕ) → (short : Bool) → Type 0
IsShortBy (creation answer) reply short = short ≡ creation_wants answer
IsShortBy (checkpoint end) reply short = short ≡ checkpoint_wants end.answer
IsShortBy (stream end) reply short = short ≡ stream_wants end.answer
IsShortBy (read end) reply short = IsReadShort end.answer reply short
IsShortBy (load result) reply short = short ≡ false

-- an append or a close tells that a call was lost
abbrev pub stream_loses : Result SinkOutcome SinkFault → Bool
stream_loses (Err (sink.Lost version)) = true
stream_loses answer = false

-- whether the reply says that a call was lost: just where the session tells so, but for a load
abbrev pub reply_loses : Outcome → Bool
reply_loses (creation answer) = is_lost_outcome (creation answer)
reply_loses (checkpoint end) = is_lost_outcome (checkpoint end)
reply_loses (stream end) = is_lost_outcome (stream end)
reply_loses (read end) = is_lost_outcome (read end)
reply_loses (load result) = false

-- ---- what is known of a log behind a job

-- Behind rows of which the text was made the schema is kept that they go by.
abbrev pub kept_schema : (before : Option TableSchema) → Result ReadRows TailFault → (short : Bool) → Option TableSchema
kept_schema before (Ok handed) false = Some handed.schema
kept_schema before answer short = before

-- The cache has what the session handed back, and else what it had.
abbrev pub learnt : Outcome → (short : Bool) → LogCache → LogCache
learnt (creation answer) short cache = cache
learnt (load result) short cache = cache
learnt (checkpoint end) short cache = record cache { loaded = end.known }
learnt (stream end) short cache = record cache { loaded = end.known }
learnt (read end) short cache = record cache { log = end.known; file = end.file; schema = kept_schema cache.schema end.answer short }
