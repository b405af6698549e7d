-- What a line that ran a job is told over any store, one that loses calls too, and what it did to that store.
use Rattle.std.proofs.Common.{◌≡◌, ◌⊎◌, ◌∙◌, ℕ, [], Bool, true, false, List, Option, None, Some, Result, Ok, Err, inl, inr, refl, sym, ap, subst}
use Rattle.outcomes.specs.Outcome.{IsSaid, Said, never_comes, refuses, says_nothing}
use Rattle.store_core.specs.Objects.{Objects}
use Rattle.session_core.specs.Stores.{State}
use Rattle.log_reading.specs.declared.log_cache.LogCache.{LogCache}
use Rattle.schema_tree.specs.Tree.{Tree}
use Rattle.table_log.specs.LoadSessions.{LoadJob}
use Rattle.table_log.specs.declared.loading.Loaded.{Loaded}
use Rattle.table_model.specs.declared.reading.Offset.{Offset}
use Rattle.commit_core.specs.Creating.{Creates}
use Rattle.commit_core.specs.CreateSessions.{CreateJob}
use Rattle.commit_core.specs.declared.fault.CreateFault.{CreateFault}
use Rattle.commit_core.specs.declared.fault.CreateFault.TheVariants as creations
use Rattle.batch_core.specs.declared.fault.SinkFault.{SinkFault}
use Rattle.batch_core.specs.declared.fault.SinkFault.TheVariants as sinks
use Rattle.sink_core.specs.SinkSessions.{SinkAsks, SinkEnds, SinkJob, appends, closes, is_lost_end}
use Rattle.sink_core.specs.declared.sink_state.SinkOutcome.{SinkOutcome}
use Rattle.snapshot_core.specs.declared.fault.SnapshotFault.{SnapshotFault}
use Rattle.snapshot_core.specs.declared.fault.SnapshotFault.TheVariants as snapshots
use Rattle.store_core.specs.declared.fault.StoreFault.TheVariants as stores
use Rattle.log_offsets.specs.Offsets.{offset_of}
use Rattle.log_rows.specs.TailFaults as tails
use Rattle.log_rows.specs.TailFaults.{ReadGives}
use Rattle.log_rows.specs.Tailing.{ReadRefusal, ReadRows}
use Rattle.log_rows.specs.declared.read_state.ReadRows as code
use Rattle.log_rows.specs.declared.tail_fault.TailFault.{TailFault}
use Rattle.log_rows.specs.declared.tail_fault.TailFault.TheVariants as faults
use Rattle.source_core.specs.SourceSessions as sources
use Rattle.source_core.specs.SourceSessions.{loses, read_view}
use Rattle.source_core.specs.TailTexts.{tailed}
use Rattle.source_core.proofs.SourceTalks.{tailed_refused, tailed_rows}
use Rattle.table_jobs.specs.Jobs as jobs
use Rattle.table_jobs.specs.Jobs.{Asks, Job, Outcome}
use Rattle.table_jobs.specs.Over.{IsDoneOver, IsJobDriven}
use Rattle.table_jobs.specs.Sessions.{end_view}
use Rattle.table_jobs.specs.Views.{known_load, new_load, with_known}
use Rattle.table_jobs.specs.declared.job_session.JobEnd.{JobEnd}
use Rattle.table_jobs.specs.declared.job_session.JobEnd.TheVariants as ends
use Rattle.table_jobs.proofs.Callers.{same_drive}
use Rattle.script_lines.specs.Lines as lines
use Rattle.script_lines.specs.Lines.{Statement}
use Rattle.lake_script.specs.AnyStore.{TellsCheckpoint, TellsCreation, TellsOver, TellsRows, TellsStreamJob, checkpoint_answer, creation_answer, sink_answer}
use Rattle.lake_script.specs.Endings.{IsReadReply, IsReplyOf, checkpoint_end_reply, stream_reply}
use Rattle.lake_script.specs.JobRuns.{RanOverStore}
use Rattle.lake_script.specs.LineJobs.{job_of_line, job_of_task}
use Rattle.lake_script.specs.ReplyView.{reply_text}
use Rattle.lake_script.specs.Runs.{IsWantOfMemory, no_room_to_read}
use Rattle.lake_script.specs.Told.{tailed_reply}
use Rattle.lake_script.specs.declared.reply.LineReply.TheVariants.{NotTailed}
use Rattle.lake_script.proofs.AnyStoreLemmas.{read_told, refusal_answers}
use Rattle.lake_script.proofs.JobExecuted.{no_place, unspelled}
use Rattle.lake_script.proofs.JobReplies.{read_at}
use Rattle.lake_script.proofs.JobShort.{read_lost}

-- ---- the texts of replies

creation_text : (answer : Result (Unit {0}) CreateFault) (reply : List ℕ) → IsReplyOf (jobs.creation answer) reply → reply ≡ creation_answer answer
creation_text (Ok x) reply is = is
creation_text (Err fault) reply is = is

stream_text : (answer : Result SinkOutcome SinkFault) → stream_reply answer ≡ sink_answer answer
stream_text (Ok outcome) = refl
stream_text (Err fault) = refl

checkpoint_text : (answer : Result ℕ SnapshotFault) → checkpoint_end_reply answer ≡ checkpoint_answer answer
checkpoint_text (Ok version) = refl
checkpoint_text (Err fault) = refl

-- ---- lines that put something

module _ (is_reliable : Type 0) (cache : LogCache) (reply : List ℕ) (old new : State) (count later : ℕ) where
  create_any : (job : CreateJob) (end : Outcome) → IsReplyOf end reply → IsDoneOver is_reliable (jobs.creates job) end old new count later → TellsCreation is_reliable job.id job.at job.schema reply old new count later
  create_any job (jobs.creation answer) is done = (answer, creation_text answer reply is, done.0, done.1)
  create_any job end is done = absurd done

  -- an append or a close, which knows what the cache knew
  stream_any : (job : SinkJob) (end : JobEnd) → IsReplyOf (end_view end) reply → IsJobDriven (λ talk. Unit {0}) is_reliable (with_known cache (jobs.streams job)) end old new count later
      → TellsStreamJob is_reliable (record job { load = known_load cache.loaded job.load }) reply old new count later
  stream_any job (ends.Streamed end) is driven =
      let own : SinkJob = record job { load = known_load cache.loaded job.load } in
      let drives = same_drive (λ talk. Unit {0}) is_reliable Asks _ _ SinkAsks SinkEnds is_lost_end _ own driven.0 driven.1 _ end old new count later driven.3 driven.3.asked driven.3.ended driven.3.told in
      (end.known, end.answer, is ∙ stream_text end.answer, inr (driven.1, driven.0, driven.2, drives))
  stream_any job end is driven = absurd driven.3.ended

  checkpoint_any : (job : LoadJob) (end : Outcome) → IsReplyOf end reply → IsDoneOver is_reliable (jobs.checkpoints job) end old new count later → TellsCheckpoint job.use_checkpoints reply old new count later
  checkpoint_any job (jobs.checkpoint end) is done = (end.answer, is ∙ checkpoint_text end.answer, done.put)
  checkpoint_any job end is done = absurd done

-- ---- a read

module _ (use_checkpoints : Bool) (objects : Objects) (max : ℕ) (offset : List ℕ) (place : Offset) (spells : offset_of offset ≡ Some place) where
  -- what is read of the objects from this place on
  abbrev rows_read : Result (Tree × ReadRows) ReadRefusal
  rows_read = sources.read_told (record { place = place; max = max; use_checkpoints = use_checkpoints; known = [] }) objects

  -- what is said of the rows is said of their text
  text_said : (said : Said ReadRefusal) → IsSaid said rows_read → IsSaid said (tailed use_checkpoints objects max offset)
  text_said (refuses refusal) is = tailed_refused use_checkpoints objects max offset place spells refusal is
  text_said says_nothing is = tt
  text_said never_comes is = absurd is

  -- where no call was lost what was read is told, or that there was no memory
  read_answers : (answer : Result code.ReadRows TailFault) (reply : List ℕ) → IsReadReply answer reply → ReadGives read_view answer rows_read → loses answer ≡ false
      → (reply ≡ tailed_reply (tailed use_checkpoints objects max offset)) ⊎ (reply ≡ no_room_to_read)
  read_answers (Ok handed) reply (inl is) read kept = inl (is ∙ ap tailed_reply (sym (tailed_rows use_checkpoints objects max offset place spells (read_view handed) read)))
  read_answers (Ok handed) reply (inr is) read kept = inr is
  read_answers (Err fault) reply is read kept =
      let said = tailed use_checkpoints objects max offset in
      subst (λ (r : List ℕ). (r ≡ tailed_reply said) ⊎ (r ≡ no_room_to_read)) (sym is)
      (refusal_answers fault said (λ lost. let so : loses (Err fault) ≡ true = ap (λ (f : TailFault). loses (Err f)) lost in cc) (text_said (tails.says (tails.read_refusal_view fault)) read))

module _ (is_reliable : Type 0) (use_checkpoints : Bool) (cache : LogCache) (reply : List ℕ) (old new : State) (count later : ℕ) (max : ℕ) (offset : List ℕ) (place : Offset) (spells : offset_of offset ≡ Some place) where
  -- the job that reads from this place
  abbrev reads_place : Job
  reads_place = with_known cache (jobs.reads (record { place = place; max = max; use_checkpoints = use_checkpoints; known = [] }))

  read_any : (end : JobEnd) → IsReplyOf (end_view end) reply → IsJobDriven (λ talk. Unit {0}) is_reliable reads_place end old new count later → IsDoneOver is_reliable reads_place (end_view end) old new count later
      → TellsRows use_checkpoints max offset reply old new count later
  read_any (ends.Read end) is driven done =
      let heard = sym driven.3.told in
      read_told old new count later _ _ _ (loses end.answer) done.same
      (λ so. (read_lost reply end.answer is so, driven.3.counted.0 (heard ∙ so)))
      (λ kept. (read_answers use_checkpoints old.0 max offset place spells end.answer reply is done.told kept, driven.3.counted.1 (heard ∙ kept)))
  read_any end is driven done = absurd done

-- ---- any line

-- The job that was found was run; where none was, none of this is.
abbrev RanOf : (is_reliable : Type 0) (cache : LogCache) → Option Job → (reply : List ℕ) (short lost : Bool) (old new : State) (count later : ℕ) → Type 0
RanOf is_reliable cache None reply short lost old new count later = ⊥
RanOf is_reliable cache (Some job) reply short lost old new count later = RanOverStore is_reliable cache job reply short lost old new count later

module _ (is_reliable : Type 0) (use_checkpoints : Bool) (tries : ℕ) (cache : LogCache) (reply : List ℕ) (short lost : Bool) (old new : State) (count later : ℕ) where
  tail_any : (max : ℕ) (offset : List ℕ) (found : Option Offset) → offset_of offset ≡ found → RanOf is_reliable cache (read_at use_checkpoints max found) reply short lost old new count later
      → TellsRows use_checkpoints max offset reply old new count later
  tail_any max offset None spells ran = absurd ran
  tail_any max offset (Some place) spells ran = read_any is_reliable use_checkpoints cache reply old new count later max offset place spells ran.end ran.told ran.driven ran.over

  line_any : (statement : Statement) → RanOf is_reliable cache (job_of_line use_checkpoints tries statement) reply short lost old new count later
      → TellsOver is_reliable use_checkpoints tries cache.loaded statement reply old new count later
  line_any (lines.create id at schema) ran = create_any is_reliable cache reply old new count later (record { id = id; at = at; schema = schema }) (end_view ran.end) ran.told ran.over
  line_any (lines.task (lines.append application number at items)) ran =
      let job : SinkJob = record { application = application; task = appends number items; at = at; tries = tries; load = new_load use_checkpoints; loads = true } in
      stream_any is_reliable cache reply old new count later job ran.end ran.told ran.driven
  line_any (lines.task (lines.close application at)) ran =
      let job : SinkJob = record { application = application; task = closes; at = at; tries = tries; load = new_load use_checkpoints; loads = true } in
      stream_any is_reliable cache reply old new count later job ran.end ran.told ran.driven
  line_any (lines.task lines.checkpoint) ran = checkpoint_any is_reliable cache reply old new count later (known_load cache.loaded (new_load use_checkpoints)) (end_view ran.end) ran.told ran.over
  line_any (lines.task (lines.tail max offset)) ran = tail_any max offset (offset_of offset) refl ran
  line_any _ ran = absurd ran

-- A line whose job was run is told over any store what that did.
pub job_any : (is_reliable : Type 0) (use_checkpoints : Bool) (tries : ℕ) (cache : LogCache) (statement : Statement) (job : Job) (reply : List ℕ) (short lost : Bool) (old new : State) (count later : ℕ)
    → job_of_line use_checkpoints tries statement ≡ Some job → RanOverStore is_reliable cache job reply short lost old new count later → TellsOver is_reliable use_checkpoints tries cache.loaded statement reply old new count later
job_any is_reliable use_checkpoints tries cache statement job reply short lost old new count later is ran =
    line_any is_reliable use_checkpoints tries cache reply short lost old new count later statement (subst (λ (found : Option Job). RanOf is_reliable cache found reply short lost old new count later) (sym is) ran)

-- ---- a line for which nothing was run

-- a creation for which there was no memory leaves the objects as they were
none_created : (is_reliable : Type 0) (id : List ℕ) (at : ℕ) (schema : List ℕ) (objects : Objects) → Creates is_reliable id at schema (Err creations.Memory) objects objects
none_created is_reliable id at schema objects = record {
  text = [];
  printed = λ other. absurd (other refl);
  told = λ reliable. tt;
  left = λ reliable other. absurd (other refl);
  well_created = λ other. absurd (other refl);
  stands = tt;
  nothing_else = inl refl;
  refusals = tt;
}

-- A line that is told of want of memory may be told so over any store that stays as it was, and loses no call.
pub unrun_any : (is_reliable : Type 0) (use_checkpoints : Bool) (tries : ℕ) (known : Loaded) (statement : Statement) (reply : List ℕ) (state : State) (count : ℕ) → IsWantOfMemory statement reply
    → TellsOver is_reliable use_checkpoints tries known statement reply state state count count
unrun_any is_reliable use_checkpoints tries known (lines.create id at schema) reply state count is = (Err creations.Memory, is, none_created is_reliable id at schema state.0, ((refl, refl), refl))
unrun_any is_reliable use_checkpoints tries known (lines.task (lines.append application number at items)) reply state count is = (known, Err sinks.Memory, is, inl (refl, tt, refl, refl))
unrun_any is_reliable use_checkpoints tries known (lines.task (lines.close application at)) reply state count is = (known, Err sinks.Memory, is, inl (refl, tt, refl, refl))
unrun_any is_reliable use_checkpoints tries known (lines.task (lines.tail max offset)) reply state count is = ((refl, refl), inl (inr is, refl))
unrun_any is_reliable use_checkpoints tries known (lines.task lines.checkpoint) reply state count is = (Err snapshots.Memory, is, (tt, (refl, refl), refl))
unrun_any is_reliable use_checkpoints tries known (lines.look lines.snapshot) reply state count is = ((refl, refl), inl (inr is, refl))
unrun_any is_reliable use_checkpoints tries known (lines.look lines.history) reply state count is = ((refl, refl), inl (inr is, refl))
unrun_any is_reliable use_checkpoints tries known (lines.look (lines.show version)) reply state count is = ((refl, refl), inl (inr is, refl))
unrun_any is_reliable use_checkpoints tries known (lines.look (lines.hex name)) reply state count is = ((refl, refl), inl (inr is, refl))
unrun_any is_reliable use_checkpoints tries known (lines.foreign version action) reply state count is = (Err stores.Memory, is, ((refl, refl), refl))
unrun_any is_reliable use_checkpoints tries known (lines.tries number) reply state count is = absurd is
unrun_any is_reliable use_checkpoints tries known (lines.world line) reply state count is = absurd is

-- So may a read be told whose offset can't be read.
pub bad_offset_any : (is_reliable : Type 0) (use_checkpoints : Bool) (tries : ℕ) (known : Loaded) (max : ℕ) (offset : List ℕ) (state : State) (count : ℕ) → job_of_task use_checkpoints tries (lines.tail max offset) ≡ None
    → TellsOver is_reliable use_checkpoints tries known (lines.task (lines.tail max offset)) (reply_text (NotTailed faults.BadOffsetText)) state state count count
bad_offset_any is_reliable use_checkpoints tries known max offset state count is =
    let none = unspelled use_checkpoints state.0 max offset (no_place use_checkpoints max (offset_of offset) is) in
    ((refl, refl), inl (inl (ap tailed_reply (sym none)), refl))
