-- The replies of the code, as texts.
use Rattle.std.specs.Prelude.{ℕ, List, [], Bool, true, false, Option, None, Some, string_bytes}
use Rattle.store_core.specs.declared.fault.StoreFault.TheVariants as stores
use Rattle.store_core.specs.declared.store.Put.TheVariants as puts
use Rattle.store_core.specs.Texts as texts
use Rattle.commit_core.specs.declared.fault.CreateFault.TheVariants as creating
use Rattle.lake_script.specs.declared.reply.LineReply.{LineReply}
use Rattle.batch_core.specs.declared.fault.SinkFault.TheVariants as sink
use Rattle.lake_script.specs.declared.reply.LineReply.TheVariants.{Created, NotCreated, SinkTold, SinkRefused, NotTailed, Checkpointed, NoSnapshot, NoHistory, Put, Refused, Unanswered, Bytes, Digits, Noted}
use Rattle.log_rows.specs.declared.tail_fault.TailFault.TheVariants as tailing
use Rattle.snapshot_core.specs.FaultTexts as snapshots
use Rattle.snapshot_core.specs.declared.fault.SnapshotFault.TheVariants as snapshot_faults
use Rattle.lake_script.specs.Checkpoints.{checkpointed_at}
use Rattle.commit_core.specs.Histories.{unanswered}
use Rattle.batch_core.specs.Refusals.{sink_refusal_text, sink_refusal_view}
use Rattle.lake_script.specs.Replies.{fault_text, created, noted, outcome_text, put_word}
use Rattle.commit_core.specs.Texts.{create_fault_text, refused}
use Rattle.source_core.specs.TailFaults as tail_texts
use Rattle.outcomes.specs.Lines.{with_newline}

-- the bytes of a reply
abbrev pub reply_text : LineReply → List ℕ
reply_text Created = with_newline created
reply_text (NotCreated fault) = with_newline (refused (create_fault_text fault))
reply_text (SinkTold outcome) = with_newline (outcome_text outcome)
reply_text (SinkRefused fault) = with_newline (refused (sink_refusal_text (sink_refusal_view fault)))
reply_text (NotTailed fault) = with_newline (refused (tail_texts.read_refusal_text (tail_texts.read_refusal_view fault)))
reply_text (Checkpointed version) = with_newline (checkpointed_at version)
reply_text (NoSnapshot fault) = with_newline (refused (snapshots.fault_text fault))
reply_text (NoHistory fault) = with_newline (refused (unanswered fault))
reply_text (Put puts.Created) = with_newline (put_word None)
reply_text (Put puts.Exists) = with_newline (put_word (Some []))
reply_text (Refused fault) = with_newline (refused (fault_text fault))
reply_text (Unanswered fault) = with_newline (refused (texts.fault_text fault))
reply_text (Bytes bytes) = bytes.items
reply_text (Digits digits) = with_newline (string_bytes digits)
reply_text Noted = with_newline noted

-- a growth was refused, or an object would pass 64 MiB
abbrev pub is_short_reply : LineReply → Bool
is_short_reply (NotCreated creating.Memory) = true
is_short_reply (NotCreated creating.TooLarge) = true
is_short_reply (SinkRefused sink.Memory) = true
is_short_reply (SinkRefused sink.FileTooLarge) = true
is_short_reply (NotTailed tailing.Memory) = true
is_short_reply (NoSnapshot snapshot_faults.Memory) = true
is_short_reply (NoSnapshot snapshot_faults.TooLarge) = true
is_short_reply (NoHistory stores.Memory) = true
is_short_reply (Unanswered stores.Memory) = true
is_short_reply _ = false

-- what is replied, if something is, and whether that is short
abbrev pub replied : Option LineReply → List ℕ
replied None = []
replied (Some reply) = reply_text reply

abbrev pub replied_short : Option LineReply → Bool
replied_short None = false
replied_short (Some reply) = is_short_reply reply

-- the store lost a call
abbrev pub says_lost : LineReply → Bool
says_lost (NotCreated creating.Lost) = true
says_lost (SinkRefused (sink.Lost version)) = true
says_lost (NotTailed tailing.Lost) = true
says_lost (NoSnapshot snapshot_faults.Lost) = true
says_lost (NoHistory stores.Lost) = true
says_lost (Unanswered stores.Lost) = true
says_lost _ = false
