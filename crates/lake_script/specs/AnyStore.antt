-- What a line is told over any store, one that loses calls too, and what it did to that store. What stands and which puts are
-- in flight, and how often the store has lost a call, is meant before the line (`old`, `count`) and behind it (`new`, `later`).
use Rattle.std.specs.Prelude.{◌≡◌, ◌⊎◌, ℕ, List, [], Bool, true, false, Option, None, Some, Result, Ok, Err}
use Rattle.store_core.specs.Calls.{HasRisen, IsUntouched, MayHaveLanded}
use Rattle.store_core.specs.Objects.{Objects, object_at}
use Rattle.store_core.specs.Texts as stores
use Rattle.store_core.specs.declared.fault.StoreFault.{StoreFault}
use Rattle.store_core.specs.declared.fault.StoreFault.TheVariants as store_faults
use Rattle.store_core.specs.declared.store.Put.{Put}
use Rattle.store_core.specs.declared.store.Put.TheVariants as puts
use Rattle.session_core.specs.Stores.{State, MayAnswerPut}
use Rattle.session_core.specs.Talks.{told_put}
use Rattle.store_core.specs.Names.{commit_name}
use Rattle.table_log.specs.declared.loading.Loaded.{Loaded}
use Rattle.commit_core.specs.Creating.{Creates}
use Rattle.commit_core.specs.Histories.{history_of, unanswered}
use Rattle.commit_core.specs.Texts.{create_fault_text, refused}
use Rattle.commit_core.specs.declared.fault.CreateFault.{CreateFault}
use Rattle.commit_core.specs.declared.fault.CreateFault.TheVariants as create_faults
use Rattle.table_jobs.specs.Over.{LeavesCreation, TakesCheckpoint}
use Rattle.batch_core.specs.Refusals.{lost, sink_refusal_text, sink_refusal_view}
use Rattle.batch_core.specs.declared.fault.SinkFault.{SinkFault}
use Rattle.sink_core.specs.SinkSessions.{SinkJob, IsSinkJobDriven, append_job, close_job}
use Rattle.sink_core.specs.declared.sink_state.SinkOutcome.{SinkOutcome}
use Rattle.snapshot_core.specs.FaultTexts as snapshots
use Rattle.snapshot_core.specs.Faults.{Reason, readable_log}
use Rattle.snapshot_core.specs.Telling.{TellsSnapshot}
use Rattle.snapshot_core.specs.declared.fault.SnapshotFault.{SnapshotFault}
use Rattle.source_core.specs.TailFaults as tail_texts
use Rattle.source_core.specs.Tailing as tails
use Rattle.source_core.specs.TailTexts.{tailed}
use Rattle.script_lines.specs.Lines.{Statement, append, close, checkpoint, tail, create, task, snapshot, history, show, hex, tries, foreign, look, world}
use Rattle.lake_script.specs.Checkpoints.{checkpointed_at, log_reason_text}
use Rattle.lake_script.specs.Replies.{created, noted, outcome_text, put_word}
use Rattle.lake_script.specs.ReplyView.{reply_text, says_lost}
use Rattle.lake_script.specs.declared.reply.LineReply.{LineReply}
use Rattle.lake_script.specs.Runs.{no_room_to_read, no_room_to_show, no_room_to_tell}
use Rattle.lake_script.specs.Told.{in_hex, not_yet, shown, tailed_reply}
use Rattle.outcomes.specs.Lines.{with_newline}

-- ---- that a call was lost

-- the replies to lines that create a table, read rows, put a checkpoint or tell the snapshot or the history, and show or put an
-- object, where the store lost a call
abbrev pub lost_to_create : List ℕ
lost_to_create = with_newline (refused (create_fault_text create_faults.Lost))

abbrev pub lost_to_read : List ℕ
lost_to_read = with_newline (refused (tail_texts.read_refusal_text tails.lost))

abbrev pub lost_to_tell : List ℕ
lost_to_tell = with_newline (refused (unanswered store_faults.Lost))

abbrev pub lost_to_show : List ℕ
lost_to_show = with_newline (refused (stores.fault_text store_faults.Lost))

-- the reply to an append and to a close: it names the version whose put was lost, and none where another call was
abbrev pub lost_to_append : (version : Option ℕ) → List ℕ
lost_to_append version = with_newline (refused (sink_refusal_text (lost version)))

-- the reply to a line of which a call was lost; no other line is told so
abbrev pub IsToldLost : Statement → List ℕ → Type 0
IsToldLost (create id at schema) reply = reply ≡ lost_to_create
IsToldLost (task (append application number at rows)) reply = (version : Option ℕ) × (reply ≡ lost_to_append version)
IsToldLost (task (close application at)) reply = (version : Option ℕ) × (reply ≡ lost_to_append version)
IsToldLost (task (tail max offset)) reply = reply ≡ lost_to_read
IsToldLost (task checkpoint) reply = reply ≡ lost_to_tell
IsToldLost (look snapshot) reply = reply ≡ lost_to_tell
IsToldLost (look history) reply = reply ≡ lost_to_tell
IsToldLost (look (show version)) reply = reply ≡ lost_to_show
IsToldLost (look (hex name)) reply = reply ≡ lost_to_show
IsToldLost (foreign version action) reply = reply ≡ lost_to_show
IsToldLost (tries count) reply = ⊥
IsToldLost (world line) reply = ⊥

-- A reply says that a call was lost where the store's count of faults rose, and nowhere else, and with the text of its kind of line.
pub record TellsLoss (statement : Statement) (reply : LineReply) (count later : ℕ) : Type 0 where
  pub lost : says_lost reply ≡ true → HasRisen count later
  pub counted : says_lost reply ≡ false → later ≡ count
  pub told_lost : says_lost reply ≡ true → IsToldLost statement (reply_text reply)

-- ---- lines that put something

-- the reply to a line that creates a table, by what the creation answered
abbrev pub creation_answer : Result (Unit {0}) CreateFault → List ℕ
creation_answer (Ok done) = with_newline created
creation_answer (Err why) = with_newline (refused (create_fault_text why))

-- a line that creates a table: some answer of a creation is told, and what that says and leaves is so
abbrev pub TellsCreation : (is_reliable : Type 0) (id : List ℕ) (at : ℕ) (schema reply : List ℕ) (old new : State) (count later : ℕ) → Type 0
TellsCreation is_reliable id at schema reply old new count later = (answer : Result (Unit {0}) CreateFault)
    × (reply ≡ creation_answer answer) × Creates is_reliable id at schema answer old.0 new.0 × LeavesCreation id at schema answer old new count later

-- the reply to an append or a close, by what it answered
abbrev pub sink_answer : Result SinkOutcome SinkFault → List ℕ
sink_answer (Ok outcome) = with_newline (outcome_text outcome)
sink_answer (Err why) = with_newline (refused (sink_refusal_text (sink_refusal_view why)))

-- an append or a close: the answer is told of a talk with the store by which this job was driven, or there was no memory to begin
abbrev pub TellsStreamJob : (is_reliable : Type 0) → SinkJob → (reply : List ℕ) (old new : State) (count later : ℕ) → Type 0
TellsStreamJob is_reliable job reply old new count later = (known : Loaded) × (answer : Result SinkOutcome SinkFault)
    × (reply ≡ sink_answer answer) × IsSinkJobDriven (λ talk. Unit {0}) is_reliable job known answer old new count later

-- the reply to a line that puts a checkpoint, by what that answered
abbrev pub checkpoint_answer : Result ℕ SnapshotFault → List ℕ
checkpoint_answer (Ok version) = with_newline (checkpointed_at version)
checkpoint_answer (Err why) = with_newline (refused (snapshots.fault_text why))

-- a line that puts a checkpoint
abbrev pub TellsCheckpoint : (use_checkpoints : Bool) (reply : List ℕ) (old new : State) (count later : ℕ) → Type 0
TellsCheckpoint use_checkpoints reply old new count later = (answer : Result ℕ SnapshotFault)
    × (reply ≡ checkpoint_answer answer) × TakesCheckpoint use_checkpoints answer old new count later

-- the reply to a line that puts another tool's commit, by what the put answered
abbrev pub put_answer : Result Put StoreFault → List ℕ
put_answer (Ok puts.Created) = with_newline (put_word None)
put_answer (Ok puts.Exists) = with_newline (put_word (Some []))
put_answer (Err why) = with_newline (refused (stores.fault_text why))

-- what became of the put, by its answer
abbrev pub PutsForeign : (version : ℕ) (action : List ℕ) → Result Put StoreFault → (old new : State) (count later : ℕ) → Type 0
PutsForeign version action (Ok put) old new count later = MayAnswerPut old (commit_name version) (with_newline action) (told_put put) new × (later ≡ count)
PutsForeign version action (Err store_faults.Lost) old new count later = MayHaveLanded (commit_name version) (with_newline action) old new × HasRisen count later
PutsForeign version action (Err store_faults.Memory) old new count later = IsUntouched old new × (later ≡ count)

-- a line that puts another tool's commit
abbrev pub TellsForeign : (version : ℕ) (action reply : List ℕ) (old new : State) (count later : ℕ) → Type 0
TellsForeign version action reply old new count later = (answer : Result Put StoreFault)
    × (reply ≡ put_answer answer) × PutsForeign version action answer old new count later

-- ---- lines that put nothing

-- A line that looks leaves the store as it was. It is told what it asks for, or of want of memory; or that a call was lost, and one
-- was.
abbrev pub TellsLook : (told no_room lost_call : Type 0) (old new : State) (count later : ℕ) → Type 0
TellsLook told no_room lost_call old new count later = IsUntouched old new × (((told ⊎ no_room) × (later ≡ count)) ⊎ (lost_call × HasRisen count later))

-- the snapshot of a log is told, or the reason why there is none
abbrev pub IsSnapshotReply : (use_checkpoints : Bool) (objects : Objects) (reply : List ℕ) → Type 0
IsSnapshotReply use_checkpoints objects reply = TellsSnapshot use_checkpoints objects reply
    ⊎ ((why : Reason) × (readable_log use_checkpoints objects ≡ Err why) × (reply ≡ with_newline (refused (log_reason_text why))))

-- lines that read rows, tell the snapshot or the history, and show an object
abbrev pub TellsRows : (use_checkpoints : Bool) (max : ℕ) (offset reply : List ℕ) (old new : State) (count later : ℕ) → Type 0
TellsRows use_checkpoints max offset reply old new count later =
    TellsLook (reply ≡ tailed_reply (tailed use_checkpoints old.0 max offset)) (reply ≡ no_room_to_read) (reply ≡ lost_to_read) old new count later

abbrev pub TellsSnapshotLine : (use_checkpoints : Bool) (reply : List ℕ) (old new : State) (count later : ℕ) → Type 0
TellsSnapshotLine use_checkpoints reply old new count later =
    TellsLook (IsSnapshotReply use_checkpoints old.0 reply) (reply ≡ no_room_to_tell) (reply ≡ lost_to_tell) old new count later

abbrev pub TellsHistory : (reply : List ℕ) (old new : State) (count later : ℕ) → Type 0
TellsHistory reply old new count later = TellsLook (reply ≡ history_of old.0) (reply ≡ no_room_to_tell) (reply ≡ lost_to_tell) old new count later

abbrev pub TellsShownCommit : (version : ℕ) (reply : List ℕ) (old new : State) (count later : ℕ) → Type 0
TellsShownCommit version reply old new count later =
    TellsLook (reply ≡ shown (object_at old.0 (commit_name version))) (reply ≡ no_room_to_show) (reply ≡ lost_to_show) old new count later

abbrev pub TellsDigits : (name reply : List ℕ) (old new : State) (count later : ℕ) → Type 0
TellsDigits name reply old new count later = TellsLook (reply ≡ in_hex (object_at old.0 name)) (reply ≡ no_room_to_show) (reply ≡ lost_to_show) old new count later

-- a line that leaves the store and its count as they were is told this
abbrev pub OnlyTells : (text reply : List ℕ) (old new : State) (count later : ℕ) → Type 0
OnlyTells text reply old new count later = (reply ≡ text) × IsUntouched old new × (later ≡ count)

-- ---- every line

-- What a line is told over any store, and what it did to it. An append and a close try so many versions at most, and begin with what
-- is known of the log.
abbrev pub TellsOver : (is_reliable : Type 0) (use_checkpoints : Bool) (most : ℕ) → Loaded → Statement → (reply : List ℕ) (old new : State) (count later : ℕ) → Type 0
TellsOver is_reliable use_checkpoints most known (create id at schema) reply old new count later = TellsCreation is_reliable id at schema reply old new count later
TellsOver is_reliable use_checkpoints most known (task (append application number at rows)) reply old new count later = TellsStreamJob is_reliable (append_job application number rows at most use_checkpoints known) reply old new count later
TellsOver is_reliable use_checkpoints most known (task (close application at)) reply old new count later = TellsStreamJob is_reliable (close_job application at most use_checkpoints known) reply old new count later
TellsOver is_reliable use_checkpoints most known (task (tail max offset)) reply old new count later = TellsRows use_checkpoints max offset reply old new count later
TellsOver is_reliable use_checkpoints most known (task checkpoint) reply old new count later = TellsCheckpoint use_checkpoints reply old new count later
TellsOver is_reliable use_checkpoints most known (look snapshot) reply old new count later = TellsSnapshotLine use_checkpoints reply old new count later
TellsOver is_reliable use_checkpoints most known (look history) reply old new count later = TellsHistory reply old new count later
TellsOver is_reliable use_checkpoints most known (look (show version)) reply old new count later = TellsShownCommit version reply old new count later
TellsOver is_reliable use_checkpoints most known (look (hex name)) reply old new count later = TellsDigits name reply old new count later
TellsOver is_reliable use_checkpoints most known (foreign version action) reply old new count later = TellsForeign version action reply old new count later
TellsOver is_reliable use_checkpoints most known (tries number) reply old new count later = OnlyTells (with_newline noted) reply old new count later
TellsOver is_reliable use_checkpoints most known (world line) reply old new count later = OnlyTells not_yet reply old new count later
