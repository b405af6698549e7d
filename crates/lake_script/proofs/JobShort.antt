-- Which replies to a line that ran a job are short, and which say that a call was lost: what they tell so is so of the objects, and of the
-- store's count of lost calls.
use Rattle.std.proofs.Common.{◌≡◌, ◌≢◌, ◌∙◌, ℕ, Bool, true, false, List, Option, None, Some, IfSome, Result, Ok, Err, inl, inr, refl, sym, ap, subst}
use Rattle.serde_json.specs.Data.{Items}
use Rattle.store_core.specs.Calls.{HasRisen}
use Rattle.session_core.specs.Stores.{State}
use Rattle.session_core.specs.Talks.{has_lost}
use Rattle.log_reading.specs.declared.log_cache.LogCache.{LogCache}
use Rattle.table_log.specs.Restoring.{RestoresWell}
use Rattle.table_log.specs.declared.fault.LogFault.{LogFault}
use Rattle.table_log.specs.declared.loading.Loaded.{Loaded}
use Rattle.table_model.specs.declared.reading.Offset.{Offset}
use Rattle.commit_core.specs.CreateSessions.{creation_tells_lost}
use Rattle.commit_core.specs.declared.fault.CreateFault.{CreateFault}
use Rattle.batch_core.specs.Refusals.{file_too_large}
use Rattle.batch_core.specs.declared.fault.SinkFault.{SinkFault}
use Rattle.batch_core.specs.declared.fault.SinkFault.TheVariants as sinks
use Rattle.sink_core.specs.Appending.{append_plan}
use Rattle.sink_core.specs.SinkSessions.{AnswerEnds, SinkJob, WritesNone, appends, closes}
use Rattle.sink_core.specs.declared.sink_state.SinkOutcome.{SinkOutcome}
use Rattle.sink_core.proofs.Callers.{append_plan_alike}
use Rattle.snapshot_core.specs.CheckpointSessions.{is_lost_answer}
use Rattle.snapshot_core.specs.Taking.{IsRefusal}
use Rattle.snapshot_core.specs.declared.fault.SnapshotFault.{SnapshotFault}
use Rattle.snapshot_core.specs.declared.fault.SnapshotFault.TheVariants as snapshots
use Rattle.snapshot_core.proofs.Callers.{refusal_alike}
use Rattle.source_core.specs.SourceSessions.{loses}
use Rattle.log_offsets.specs.Offsets.{offset_of}
use Rattle.log_rows.specs.declared.read_state.ReadRows.{ReadRows}
use Rattle.log_rows.specs.declared.tail_fault.TailFault.{TailFault}
use Rattle.log_rows.specs.declared.tail_fault.TailFault.TheVariants as faults
use Rattle.table_jobs.specs.Jobs as jobs
use Rattle.table_jobs.specs.Jobs.{Job, Outcome, is_lost_outcome}
use Rattle.table_jobs.specs.Over.{IsDoneOver, IsJobDriven, TakesCheckpoint}
use Rattle.table_jobs.specs.Sessions.{end_view}
use Rattle.table_jobs.specs.Views.{known_load, with_known}
use Rattle.table_jobs.specs.declared.job_session.JobEnd.{JobEnd}
use Rattle.table_jobs.specs.declared.job_session.JobEnd.TheVariants as ends
use Rattle.script_lines.specs.Lines as lines
use Rattle.script_lines.specs.Lines.{Statement}
use Rattle.lake_script.specs.AnyStore.{IsToldLost, lost_to_append, lost_to_create, lost_to_read, lost_to_tell}
use Rattle.lake_script.specs.Endings.{IsReadReply, IsReadShort, IsReplyOf, IsShortBy, checkpoint_end_reply, reply_loses, stream_loses, stream_reply}
use Rattle.table_jobs.specs.Wants.{checkpoint_wants, creation_wants, stream_wants}
use Rattle.lake_script.specs.JobRuns.{RanOverStore}
use Rattle.lake_script.specs.LineJobs.{job_of_line}
use Rattle.lake_script.specs.ReplyView.{is_short_reply, reply_text}
use Rattle.lake_script.specs.Runs.{IsShort, no_room_to_read}
use Rattle.lake_script.specs.declared.reply.LineReply.TheVariants.{NotTailed}
use Rattle.lake_script.proofs.AnyStoreLemmas.{creation_lost, sink_lost, snapshot_lost, tail_lost}
use Rattle.lake_script.proofs.CheckpointLemmas.{refusal_short}
use Rattle.lake_script.proofs.EndingLemmas as endings
use Rattle.lake_script.proofs.JobReplies.{read_at}
use Rattle.lake_script.proofs.RunsLemmas.{append_short, close_short, creation_short}

-- The job that was found was done over a store; where none was, none of this is.
abbrev IsOverOf : (is_reliable : Type 0) (cache : LogCache) → Option Job → Outcome → (old new : State) (count later : ℕ) → Type 0
IsOverOf is_reliable cache None end old new count later = ⊥
IsOverOf is_reliable cache (Some job) end old new count later = IsDoneOver is_reliable (with_known cache job) end old new count later

-- ---- a file that would be too large

-- a close doesn't tell that its file would be too large: it has none
abbrev pub TellsFitting : Job → Outcome → Type 0
TellsFitting (jobs.streams job) (jobs.stream end) = job.task ≡ closes → end.answer ≢ Err sinks.FileTooLarge
TellsFitting job end = Unit {0}

-- No close tells so that was run.
pub run_fits : (is_reliable : Type 0) (cache : LogCache) (job : Job) (end : JobEnd) (old new : State) (count later : ℕ) → IsJobDriven (λ talk. Unit {0}) is_reliable (with_known cache job) end old new count later
    → TellsFitting job (end_view end)
run_fits is_reliable cache (jobs.streams job) (ends.Streamed end) old new count later driven = λ is large.
    let own : SinkJob = record job { load = known_load cache.loaded job.load } in
    let none : WritesNone own driven.1 driven.3.talk = subst (λ (answer : Result SinkOutcome SinkFault). AnswerEnds own driven.1 driven.3.talk answer) large driven.3.ended.answer in
    let appended : job.task ≡ appends none.number none.is.items = none.is.task in
    cc
run_fits is_reliable cache job end old new count later driven = tt

-- ---- which replies are short

module _ (use_checkpoints : Bool) (old : State) (well : RestoresWell use_checkpoints old.0) (reply : List ℕ) (short : Bool) (so : short ≡ true) where
  create_so : (id : List ℕ) (at : ℕ) (schema : List ℕ) (answer : Result (Unit {0}) CreateFault) → IsReplyOf (jobs.creation answer) reply → short ≡ creation_wants answer → IsShort old.0 (lines.create id at schema) reply
  create_so id at schema (Ok x) is wants = cc
  create_so id at schema (Err fault) is wants =
      subst (λ (r : List ℕ). IsShort old.0 (lines.create id at schema) r) (sym is) (creation_short fault old.0 id at schema (endings.creation_short fault ∙ (sym wants ∙ so)))

  append_so : (application : List ℕ) (number at : ℕ) (items : Items) (answer : Result SinkOutcome SinkFault) → reply ≡ stream_reply answer → short ≡ stream_wants answer
      → (answer ≡ Err sinks.FileTooLarge → append_plan use_checkpoints old.0 application number at items ≡ Err file_too_large) → IsShort old.0 (lines.task (lines.append application number at items)) reply
  append_so application number at items (Ok outcome) is wants large = cc
  append_so application number at items (Err fault) is wants large =
      let plan = append_plan_alike use_checkpoints old.0 well application number at items in
      subst (λ (r : List ℕ). IsShort old.0 (lines.task (lines.append application number at items)) r) (sym is)
      (append_short fault old.0 application number at items (endings.stream_short fault ∙ (sym wants ∙ so)) (λ why. sym plan ∙ large (ap Err why)))

  close_so : (application : List ℕ) (at : ℕ) (answer : Result SinkOutcome SinkFault) → reply ≡ stream_reply answer → short ≡ stream_wants answer → answer ≢ Err sinks.FileTooLarge
      → IsShort old.0 (lines.task (lines.close application at)) reply
  close_so application at (Ok outcome) is wants fits = cc
  close_so application at (Err fault) is wants fits =
      subst (λ (r : List ℕ). IsShort old.0 (lines.task (lines.close application at)) r) (sym is)
      (close_short fault old.0 application at (endings.stream_short fault ∙ (sym wants ∙ so)) (λ why. fits (ap Err why)))

  -- what the refusal of a checkpoint says of the log
  refusal_of : (fault : SnapshotFault) (new : State) (count later : ℕ) → TakesCheckpoint use_checkpoints (Err fault) old new count later → IsRefusal use_checkpoints fault old.0
  refusal_of snapshots.Lost new count later put = tt
  refusal_of _ new count later put = put.0

  checkpoint_so : (answer : Result ℕ SnapshotFault) (new : State) (count later : ℕ) → reply ≡ checkpoint_end_reply answer → short ≡ checkpoint_wants answer → TakesCheckpoint use_checkpoints answer old new count later
      → IsShort old.0 (lines.task lines.checkpoint) reply
  checkpoint_so (Ok version) new count later is wants put = cc
  checkpoint_so (Err fault) new count later is wants put =
      let refusal = refusal_alike use_checkpoints old.0 well fault (refusal_of fault new count later put) in
      subst (λ (r : List ℕ). IsShort old.0 (lines.task lines.checkpoint) r) (sym is) (refusal_short old.0 fault refusal (endings.checkpoint_short fault ∙ (sym wants ∙ so)))

  -- a read is short for want of memory alone
  short_read : (fault : TailFault) → is_short_reply (NotTailed fault) ≡ true → reply_text (NotTailed fault) ≡ no_room_to_read
  short_read faults.Memory is = refl
  short_read _ is = cc

  read_so : (answer : Result ReadRows TailFault) → IsReadReply answer reply → IsReadShort answer reply short → reply ≡ no_room_to_read
  read_so (Ok handed) is (inl whole) = let otherwise : short ≡ false = whole.1 in cc
  read_so (Ok handed) is (inr none) = none.0
  read_so (Err fault) is wants = is ∙ short_read fault (endings.read_short fault ∙ (sym wants ∙ so))

  module _ (is_reliable : Type 0) (tries : ℕ) (cache : LogCache) (new : State) (count later : ℕ) where
    tail_so : (max : ℕ) (found : Option Offset) (end : Outcome) → IsOverOf is_reliable cache (read_at use_checkpoints max found) end old new count later → IsReplyOf end reply → IsShortBy end reply short → reply ≡ no_room_to_read
    tail_so max None end done is wants = absurd done
    tail_so max (Some place) (jobs.read end) done is wants = read_so end.answer is wants
    tail_so max (Some place) end done is wants = absurd done

    line_short : (statement : Statement) (end : Outcome) → IsOverOf is_reliable cache (job_of_line use_checkpoints tries statement) end old new count later → IfSome (job_of_line use_checkpoints tries statement) (λ job. TellsFitting job end)
        → IsReplyOf end reply → IsShortBy end reply short → IsShort old.0 statement reply
    line_short (lines.create id at schema) (jobs.creation answer) done fits is wants = create_so id at schema answer is wants
    line_short (lines.create id at schema) end done fits is wants = absurd done
    line_short (lines.task (lines.append application number at items)) (jobs.stream end) done fits is wants = append_so application number at items end.answer is wants done.large
    line_short (lines.task (lines.append application number at items)) end done fits is wants = absurd done
    line_short (lines.task (lines.close application at)) (jobs.stream end) done fits is wants = close_so application at end.answer is wants (fits refl)
    line_short (lines.task (lines.close application at)) end done fits is wants = absurd done
    line_short (lines.task lines.checkpoint) (jobs.checkpoint end) done fits is wants = checkpoint_so end.answer new count later is wants done.put
    line_short (lines.task lines.checkpoint) end done fits is wants = absurd done
    line_short (lines.task (lines.tail max offset)) end done fits is wants = inl (tail_so max (offset_of offset) end done is wants)
    line_short _ end done fits is wants = absurd done

-- The reply to a line whose job was done is short only where it tells so.
pub job_short : (is_reliable : Type 0) (use_checkpoints : Bool) (tries : ℕ) (cache : LogCache) (old new : State) (count later : ℕ) → RestoresWell use_checkpoints old.0 → (statement : Statement) (job : Job) (end : Outcome) (reply : List ℕ) (short : Bool)
    → job_of_line use_checkpoints tries statement ≡ Some job → IsDoneOver is_reliable (with_known cache job) end old new count later → TellsFitting job end → IsReplyOf end reply → IsShortBy end reply short → short ≡ true
    → IsShort old.0 statement reply
job_short is_reliable use_checkpoints tries cache old new count later well statement job end reply short is done fits told wants so =
    line_short use_checkpoints old well reply short so is_reliable tries cache new count later statement end
    (subst (λ (found : Option Job). IsOverOf is_reliable cache found end old new count later) (sym is) done)
    (subst (λ (found : Option Job). IfSome found (λ job. TellsFitting job end)) (sym is) fits)
    told wants

-- So is that to one whose job was run.
pub run_short : (is_reliable : Type 0) (use_checkpoints : Bool) (tries : ℕ) (cache : LogCache) (statement : Statement) (job : Job) (reply : List ℕ) (short lost : Bool) (old new : State) (count later : ℕ) → RestoresWell use_checkpoints old.0
    → job_of_line use_checkpoints tries statement ≡ Some job → RanOverStore is_reliable cache job reply short lost old new count later → short ≡ true → IsShort old.0 statement reply
run_short is_reliable use_checkpoints tries cache statement job reply short lost old new count later well is ran so =
    job_short is_reliable use_checkpoints tries cache old new count later well statement job (end_view ran.end) reply short is ran.over
    (run_fits is_reliable cache job ran.end old new count later ran.driven) ran.told ran.is_short so

-- ---- which replies say that a call was lost

module _ (reply : List ℕ) where
  create_lost : (answer : Result (Unit {0}) CreateFault) → IsReplyOf (jobs.creation answer) reply → creation_tells_lost answer ≡ true → reply ≡ lost_to_create
  create_lost (Ok x) is so = cc
  create_lost (Err fault) is so = is ∙ creation_lost fault (endings.creation_loses fault ∙ so)

  stream_lost : (answer : Result SinkOutcome SinkFault) → reply ≡ stream_reply answer → stream_loses answer ≡ true → (version : Option ℕ) × (reply ≡ lost_to_append version)
  stream_lost (Ok outcome) is so = cc
  stream_lost (Err fault) is so = let lost = sink_lost fault (endings.fault_loses fault ∙ so) in (lost.0, is ∙ lost.1)

  checkpoint_lost : (answer : Result ℕ SnapshotFault) → reply ≡ checkpoint_end_reply answer → is_lost_answer answer ≡ true → reply ≡ lost_to_tell
  checkpoint_lost (Ok version) is so = cc
  checkpoint_lost (Err fault) is so = is ∙ snapshot_lost fault (endings.checkpoint_loses fault ∙ so)

  pub read_lost : (answer : Result ReadRows TailFault) → IsReadReply answer reply → loses answer ≡ true → reply ≡ lost_to_read
  read_lost (Ok handed) is so = cc
  read_lost (Err fault) is so = is ∙ tail_lost fault (endings.read_loses fault ∙ so)

  module _ (is_reliable : Type 0) (use_checkpoints : Bool) (tries : ℕ) (cache : LogCache) (old new : State) (count later : ℕ) where
    tail_loses : (max : ℕ) (found : Option Offset) (end : Outcome) → IsOverOf is_reliable cache (read_at use_checkpoints max found) end old new count later → IsReplyOf end reply → reply_loses end ≡ true → reply ≡ lost_to_read
    tail_loses max None end done is so = absurd done
    tail_loses max (Some place) (jobs.read end) done is so = read_lost end.answer is so
    tail_loses max (Some place) end done is so = absurd done

    line_lost : (statement : Statement) (end : Outcome) → IsOverOf is_reliable cache (job_of_line use_checkpoints tries statement) end old new count later → IsReplyOf end reply → reply_loses end ≡ true → IsToldLost statement reply
    line_lost (lines.create id at schema) (jobs.creation answer) done is so = create_lost answer is so
    line_lost (lines.create id at schema) end done is so = absurd done
    line_lost (lines.task (lines.append application number at items)) (jobs.stream end) done is so = stream_lost end.answer is (endings.stream_tells end ∙ so)
    line_lost (lines.task (lines.append application number at items)) end done is so = absurd done
    line_lost (lines.task (lines.close application at)) (jobs.stream end) done is so = stream_lost end.answer is (endings.stream_tells end ∙ so)
    line_lost (lines.task (lines.close application at)) end done is so = absurd done
    line_lost (lines.task lines.checkpoint) (jobs.checkpoint end) done is so = checkpoint_lost end.answer is so
    line_lost (lines.task lines.checkpoint) end done is so = absurd done
    line_lost (lines.task (lines.tail max offset)) end done is so = tail_loses max (offset_of offset) end done is so
    line_lost _ end done is so = absurd done

-- A line is told that a call was lost where its job told so.
pub job_lost : (is_reliable : Type 0) (use_checkpoints : Bool) (tries : ℕ) (cache : LogCache) (old new : State) (count later : ℕ) (statement : Statement) (job : Job) (end : Outcome) (reply : List ℕ)
    → job_of_line use_checkpoints tries statement ≡ Some job → IsDoneOver is_reliable (with_known cache job) end old new count later → IsReplyOf end reply → reply_loses end ≡ true → IsToldLost statement reply
job_lost is_reliable use_checkpoints tries cache old new count later statement job end reply is done told so =
    line_lost reply is_reliable use_checkpoints tries cache old new count later statement end (subst (λ (found : Option Job). IsOverOf is_reliable cache found end old new count later) (sym is) done) told so

-- ---- the count of lost calls

-- The reply says that a call was lost just where the end tells so, unless that is of a load.
pub loses_as_told : (end : Outcome) → ((result : Result Loaded LogFault) → end ≢ jobs.load result) → reply_loses end ≡ is_lost_outcome end
loses_as_told (jobs.load result) other = absurd (other result refl)
loses_as_told _ other = refl

-- otherwise line asks for a load
abbrev IsNoLoad : Job → Type 0
IsNoLoad (jobs.loads load) = ⊥
IsNoLoad job = Unit {0}

read_loads_none : (use_checkpoints : Bool) (max : ℕ) (found : Option Offset) → IfSome (read_at use_checkpoints max found) IsNoLoad
read_loads_none use_checkpoints max None = tt
read_loads_none use_checkpoints max (Some place) = tt

line_loads_none : (use_checkpoints : Bool) (tries : ℕ) (statement : Statement) → IfSome (job_of_line use_checkpoints tries statement) IsNoLoad
line_loads_none use_checkpoints tries (lines.task (lines.tail max offset)) = read_loads_none use_checkpoints max (offset_of offset)
line_loads_none use_checkpoints tries _ = tt

loads_none : (use_checkpoints : Bool) (tries : ℕ) (statement : Statement) (job : Job) → job_of_line use_checkpoints tries statement ≡ Some job → IsNoLoad job
loads_none use_checkpoints tries statement job is = subst (λ (found : Option Job). IfSome found IsNoLoad) is (line_loads_none use_checkpoints tries statement)

-- where another job was done, what was told isn't of a load
told_no_load : (is_reliable : Type 0) (cache : LogCache) (job : Job) (result : Result Loaded LogFault) (old new : State) (count later : ℕ) → IsNoLoad job
    → IsDoneOver is_reliable (with_known cache job) (jobs.load result) old new count later → ⊥
told_no_load is_reliable cache (jobs.loads load) result old new count later other done = other
told_no_load is_reliable cache _ result old new count later other done = done

-- The store's count of lost calls rose where the reply says that one was lost, and is what it was where it doesn't.
pub run_counts : (is_reliable : Type 0) (use_checkpoints : Bool) (tries : ℕ) (cache : LogCache) (statement : Statement) (job : Job) (reply : List ℕ) (short lost : Bool) (old new : State) (count later : ℕ) → job_of_line use_checkpoints tries statement ≡ Some job
    → RanOverStore is_reliable cache job reply short lost old new count later → (lost ≡ true → HasRisen count later) × (lost ≡ false → later ≡ count)
run_counts is_reliable use_checkpoints tries cache statement job reply short lost old new count later is ran =
    let drives = ran.driven.3 in
    let no_load = λ (result : Result Loaded LogFault) (load : end_view ran.end ≡ jobs.load result).
    told_no_load is_reliable cache job result old new count later (loads_none use_checkpoints tries statement job is) (subst (λ (end : Outcome). IsDoneOver is_reliable (with_known cache job) end old new count later) load ran.over) in
    let heard : lost ≡ has_lost drives.talk = ran.loses ∙ (loses_as_told (end_view ran.end) no_load ∙ drives.told) in
    ((λ so. drives.counted.0 (sym heard ∙ so)), (λ otherwise. drives.counted.1 (sym heard ∙ otherwise)))
