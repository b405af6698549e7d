-- What a line is told that runs a job at once, by what its session told and left of these objects: what it asks for. What such a line may put.
use Rattle.std.proofs.Common.{◌≡◌, ◌≢◌, ◌≤◌, ◌∙◌, ℕ, [], Bool, List, Option, None, Some, IfSome, Result, Ok, Err, inl, inr, refl, sym, ap, subst}
use Rattle.std.specs.Prelude.{IsOk, option_map}
use Rattle.std.specs.Str.{IsUtf8}
use Rattle.serde_json.specs.Data.{Items}
use Rattle.outcomes.specs.Lines.{with_newline}
use Rattle.outcomes.specs.Outcome.{IsSaid}
use Rattle.store_core.specs.Objects.{Objects}
use Rattle.commit_core.specs.Creating.{CreateRefusal, Creates, created_by}
use Rattle.commit_core.specs.Creating as creating
use Rattle.commit_core.specs.Texts.{create_fault_text, refused}
use Rattle.commit_core.specs.declared.fault.CreateFault.{CreateFault}
use Rattle.commit_core.specs.declared.fault.CreateFault.TheVariants as creations
use Rattle.table_log.specs.Restoring.{RestoresWell}
use Rattle.batch_core.specs.Refusals.{sink_refusal_view, says}
use Rattle.batch_core.specs.declared.fault.SinkFault.{SinkFault}
use Rattle.sink_core.specs.Appending.{MayAppend, MayHoldFile, with_append}
use Rattle.sink_core.specs.Closes.{MayClose, with_close_commit}
use Rattle.sink_core.specs.declared.sink_state.SinkOutcome.{SinkOutcome}
use Rattle.sink_core.proofs.Callers.{append_plan_alike, appended_alike, close_plan_alike, closed_alike}
use Rattle.snapshot_core.specs.declared.fault.SnapshotFault.{SnapshotFault}
use Rattle.snapshot_core.proofs.Callers.{puts_alike, refusal_alike}
use Rattle.schema_tree.specs.Tree.{Tree}
use Rattle.table_model.specs.declared.reading.Offset.{Offset}
use Rattle.log_offsets.specs.Offsets.{offset_of}
use Rattle.log_rows.specs.TailFaults as tails
use Rattle.log_rows.specs.TailFaults.{ReadGives}
use Rattle.log_rows.specs.Tailing.{ReadRefusal, ReadRows}
use Rattle.log_rows.specs.declared.read_state.ReadRows as code
use Rattle.log_rows.specs.declared.tail_fault.TailFault.{TailFault}
use Rattle.log_rows.specs.declared.tail_fault.TailFault.TheVariants as faults
use Rattle.source_core.specs.SourceSessions.{read_told, read_view}
use Rattle.source_core.specs.TailTexts.{tailed}
use Rattle.source_core.proofs.Callers.{tailed_alike}
use Rattle.source_core.proofs.SourceTalks.{tailed_refused, tailed_rows}
use Rattle.table_jobs.specs.Done.{IsAppended, IsCheckpointed, IsClosed, IsCreationDone, IsJobDone}
use Rattle.table_jobs.specs.Jobs as jobs
use Rattle.table_jobs.specs.Jobs.{IsValidJob, Job, Outcome}
use Rattle.script_lines.specs.Lines as lines
use Rattle.script_lines.specs.Lines.{Statement, Task}
use Rattle.lake_script.specs.LineJobs.{IsOfText, job_of_creation, job_of_line, job_of_task}
use Rattle.lake_script.specs.Endings.{IsReadReply, IsReplyOf, checkpoint_end_reply, stream_reply}
use Rattle.lake_script.specs.Growth.{MayPut}
use Rattle.lake_script.specs.Replies.{created}
use Rattle.lake_script.specs.ReplyView.{reply_text}
use Rattle.lake_script.specs.Runs.{Executes, IsWantOfMemory, MayLeave}
use Rattle.lake_script.specs.Told.{created_reply, tailed_reply}
use Rattle.lake_script.specs.declared.reply.LineReply.TheVariants.{NoSnapshot}
use Rattle.lake_script.proofs.CheckpointLemmas.{has_executed, put_executed, refusal_told}
use Rattle.lake_script.proofs.RestoredLemmas.{append_refusal_told, close_refusal_told, has_append, has_close}

-- The job that was found was done; where none was, none of this is.
abbrev pub IsDoneOf : Option Job → (old new : Objects) → Outcome → Type 0
IsDoneOf None old new end = ⊥
IsDoneOf (Some job) old new end = IsJobDone job old new end

abbrev pub IsValidOf : Option Job → Type 0
IsValidOf None = ⊥
IsValidOf (Some job) = IsValidJob job

-- the job that reads from a place, if it was found
abbrev pub read_at : (use_checkpoints : Bool) (max : ℕ) → Option Offset → Option Job
read_at use_checkpoints max found = option_map (λ place. jobs.reads (record { place = place; max = max; use_checkpoints = use_checkpoints; known = [] })) found

-- ---- a creation

-- where bytes are said, the table is created
pub created_told : (said : Result (List ℕ) CreateRefusal) → IsOk said → with_newline created ≡ created_reply said
created_told (Ok bytes) is = refl
created_told (Err refusal) is = cc

-- a fault's text is its refusal's
pub refused_told : (fault : CreateFault) (said : Result (List ℕ) CreateRefusal) → fault ≢ creations.Memory → IsSaid (creating.says fault) said
    → with_newline (refused (create_fault_text fault)) ≡ created_reply said
refused_told creations.Memory said other is = absurd (other refl)
refused_told creations.TableExists said other is = ap created_reply (sym is)
refused_told (creations.BadSchema fault) said other is = ap created_reply (sym is)
refused_told creations.BadId said other is = ap created_reply (sym is)
refused_told creations.Lost said other is = ap created_reply (sym is)
refused_told creations.TooLarge said other is = ap created_reply (sym is)

module _ (old new : Objects) (id : List ℕ) (at : ℕ) (schema : List ℕ) (reply : List ℕ) where
  -- a creation that wants no memory has what it asks for
  has_creation : (answer : Result (Unit {0}) CreateFault) (made : Creates (Unit {0}) id at schema answer old new) → answer ≢ Err creations.Memory
      → reply ≡ created_reply (created_by old id at schema made.text) → Executes old (lines.create id at schema) reply new
  has_creation answer made enough told = inl (made.text, made.printed enough, told, made.left tt enough)

  create_told : (answer : Result (Unit {0}) CreateFault) → IsReplyOf (jobs.creation answer) reply → IsCreationDone id at schema old new answer → Executes old (lines.create id at schema) reply new
  create_told (Ok x) is done = has_creation (Ok x) done.0 (λ wrong. cc) (is ∙ created_told (created_by old id at schema done.0.text) (done.0.told tt))
  create_told (Err creations.Memory) is done = inr (is, done.1)
  create_told (Err fault) is done = has_creation (Err fault) done.0 (λ wrong. cc) (is ∙ refused_told fault (created_by old id at schema done.0.text) (λ wrong. cc) (done.0.told tt))

  create_so : (end : Outcome) → IsJobDone (job_of_creation id at schema) old new end → IsReplyOf end reply → Executes old (lines.create id at schema) reply new
  create_so (jobs.creation answer) done is = create_told answer is done
  create_so _ done is = absurd done

module _ (old new : Objects) (id : List ℕ) (at : ℕ) (schema : List ℕ) where
  create_may : (answer : Result (Unit {0}) CreateFault) → IsCreationDone id at schema old new answer → MayPut old (lines.create id at schema) new
  create_may (Ok x) done = let enough : Ok x ≢ Err creations.Memory = λ wrong. cc in inr (done.0.text, (done.0.well_created enough, done.0.left tt enough))
  create_may (Err fault) done = inl done.1

  create_grows : (end : Outcome) → IsJobDone (job_of_creation id at schema) old new end → MayPut old (lines.create id at schema) new
  create_grows (jobs.creation answer) done = create_may answer done
  create_grows _ done = absurd done

module _ (use_checkpoints : Bool) (old new : Objects) (well : RestoresWell use_checkpoints old) (reply : List ℕ) where
  -- ---- an append

  module _ (application : List ℕ) (number at : ℕ) (items : Items) where
    append_told : (answer : Result SinkOutcome SinkFault) → reply ≡ stream_reply answer → IsAppended use_checkpoints application number at items old new answer
        → Executes old (lines.task (lines.append application number at items)) reply new
    append_told (Ok outcome) is done =
        let said = appended_alike use_checkpoints old well application number at items in
        let step = append_plan_alike use_checkpoints old well application number at items in
        subst (λ (r : List ℕ). Executes old (lines.task (lines.append application number at items)) r new) (sym is)
        (has_append old application number at items new (done.left (λ wrong. cc) ∙ ap (with_append old) step) outcome (sym said ∙ done.told))
    append_told (Err fault) is done =
        let said = appended_alike use_checkpoints old well application number at items in
        let step = append_plan_alike use_checkpoints old well application number at items in
        subst (λ (r : List ℕ). Executes old (lines.task (lines.append application number at items)) r new) (sym is)
        (append_refusal_told old application number at items new fault
        (subst (IsSaid (says (sink_refusal_view fault))) said done.told)
        (λ other. done.left (λ wrong. other cc) ∙ ap (with_append old) step)
        (λ memory. subst (λ plan. MayHoldFile old plan new) step (done.short (ap Err memory)))
        (λ version lost. done.unlost version (ap Err lost)))

    append_so : (tries : ℕ) (end : Outcome) → IsDoneOf (job_of_task use_checkpoints tries (lines.append application number at items)) old new end → IsReplyOf end reply
        → Executes old (lines.task (lines.append application number at items)) reply new
    append_so tries (jobs.stream end) done is = append_told end.answer is done
    append_so tries _ done is = absurd done

  -- ---- a close

  module _ (application : List ℕ) (at : ℕ) where
    close_told : (answer : Result SinkOutcome SinkFault) → reply ≡ stream_reply answer → IsClosed use_checkpoints application at old new answer → Executes old (lines.task (lines.close application at)) reply new
    close_told (Ok outcome) is done =
        let said = closed_alike use_checkpoints old well application in
        let plan = close_plan_alike use_checkpoints old well application in
        subst (λ (r : List ℕ). Executes old (lines.task (lines.close application at)) r new) (sym is)
        (has_close old application at new (done.left (λ wrong. cc) ∙ ap (with_close_commit old application at) plan) outcome (sym said ∙ done.told))
    close_told (Err fault) is done =
        let said = closed_alike use_checkpoints old well application in
        let plan = close_plan_alike use_checkpoints old well application in
        subst (λ (r : List ℕ). Executes old (lines.task (lines.close application at)) r new) (sym is)
        (close_refusal_told old application at new fault
        (subst (IsSaid (says (sink_refusal_view fault))) said done.told)
        (λ other. done.left (λ wrong. other cc) ∙ ap (with_close_commit old application at) plan)
        (λ memory. done.short (ap Err memory))
        (λ version lost. done.unlost version (ap Err lost)))

    close_so : (tries : ℕ) (end : Outcome) → IsDoneOf (job_of_task use_checkpoints tries (lines.close application at)) old new end → IsReplyOf end reply → Executes old (lines.task (lines.close application at)) reply new
    close_so tries (jobs.stream end) done is = close_told end.answer is done
    close_so tries _ done is = absurd done

  -- ---- a checkpoint

  checkpoint_told : (answer : Result ℕ SnapshotFault) → reply ≡ checkpoint_end_reply answer → IsCheckpointed use_checkpoints old new answer → Executes old (lines.task lines.checkpoint) reply new
  checkpoint_told (Ok version) is done =
      let puts = puts_alike use_checkpoints old well version done.name done.bytes done.puts in
      subst (λ (r : List ℕ). Executes old (lines.task lines.checkpoint) r new) (sym is)
      (has_executed old (lines.task lines.checkpoint) _ new (put_executed old version done.name done.bytes puts new done.put))
  checkpoint_told (Err fault) is done =
      subst (λ (r : List ℕ). Executes old (lines.task lines.checkpoint) r new) (sym is)
      (subst (λ (o : Objects). Executes old (lines.task lines.checkpoint) (reply_text (NoSnapshot fault)) o) (sym done.1)
      (refusal_told old fault (refusal_alike use_checkpoints old well fault done.0) done.2))

  checkpoint_so : (tries : ℕ) (end : Outcome) → IsDoneOf (job_of_task use_checkpoints tries lines.checkpoint) old new end → IsReplyOf end reply → Executes old (lines.task lines.checkpoint) reply new
  checkpoint_so tries (jobs.checkpoint end) done is = checkpoint_told end.answer is done
  checkpoint_so tries _ done is = absurd done

  -- ---- a read

  module _ (max : ℕ) (offset : List ℕ) where
    -- what is told by the log as it is read is told by all its commits
    has_read : (told : Result (List ℕ) ReadRefusal) → tailed use_checkpoints old max offset ≡ told → reply ≡ tailed_reply told → new ≡ old → Executes old (lines.task (lines.tail max offset)) reply new
    has_read told read is same = inl ([], tt, is ∙ ap tailed_reply (sym read ∙ tailed_alike use_checkpoints old well max offset), same)

    module _ (place : Offset) (spells : offset_of offset ≡ Some place) where
      -- what the job reads of the objects
      abbrev rows_read : Result (Tree × ReadRows) ReadRefusal
      rows_read = read_told (record { place = place; max = max; use_checkpoints = use_checkpoints; known = [] }) old

      refused_so : (refusal : ReadRefusal) → rows_read ≡ Err refusal → reply ≡ tailed_reply (Err refusal) → new ≡ old → Executes old (lines.task (lines.tail max offset)) reply new
      refused_so refusal read is same = has_read (Err refusal) (tailed_refused use_checkpoints old max offset place spells refusal read) is same

      read_refused : (fault : TailFault) → IsReadReply (Err fault) reply → IsSaid (tails.says (tails.read_refusal_view fault)) rows_read → fault ≢ faults.Lost → new ≡ old → Executes old (lines.task (lines.tail max offset)) reply new
      read_refused faults.BadOffsetText is said unlost same = refused_so _ said is same
      read_refused (faults.Unsupported fault) is said unlost same = refused_so _ said is same
      read_refused (faults.BeyondLog next) is said unlost same = refused_so _ said is same
      read_refused (faults.VersionGone first) is said unlost same = refused_so _ said is same
      read_refused (faults.RowsRemoved version) is said unlost same = refused_so _ said is same
      read_refused (faults.SchemaChanged version) is said unlost same = refused_so _ said is same
      read_refused (faults.BadPlace version) is said unlost same = refused_so _ said is same
      read_refused (faults.MissingFile path) is said unlost same = refused_so _ said is same
      read_refused (faults.BadFile version file fault) is said unlost same = refused_so _ said is same
      read_refused (faults.BadLog version) is said unlost same = refused_so _ said is same
      read_refused faults.Lost is said unlost same = absurd (unlost refl)
      read_refused faults.Memory is said unlost same = inr (is, same)

      tail_told : (answer : Result code.ReadRows TailFault) → IsReadReply answer reply → ReadGives read_view answer rows_read → answer ≢ Err faults.Lost → new ≡ old → Executes old (lines.task (lines.tail max offset)) reply new
      tail_told (Ok handed) (inl is) read unlost same = has_read _ (tailed_rows use_checkpoints old max offset place spells (read_view handed) read) is same
      tail_told (Ok handed) (inr is) read unlost same = inr (is, same)
      tail_told (Err fault) is said unlost same = read_refused fault is said (λ lost. unlost (ap (λ (f : TailFault). Err f) lost)) same

      tail_at : (end : Outcome) → IsDoneOf (read_at use_checkpoints max (Some place)) old new end → IsReplyOf end reply → Executes old (lines.task (lines.tail max offset)) reply new
      tail_at (jobs.read end) done is = tail_told end.answer is done.told done.unlost done.same
      tail_at _ done is = absurd done

    tail_so : (tries : ℕ) (end : Outcome) → IsDoneOf (job_of_task use_checkpoints tries (lines.tail max offset)) old new end → IsReplyOf end reply → Executes old (lines.task (lines.tail max offset)) reply new
    tail_so tries end done is = by_place (offset_of offset) refl done
      where
        by_place : (found : Option Offset) → offset_of offset ≡ found → IsDoneOf (read_at use_checkpoints max found) old new end → Executes old (lines.task (lines.tail max offset)) reply new
        by_place None spells done = absurd done
        by_place (Some place) spells done = tail_at place spells end done is

-- ---- any line

line_told : (use_checkpoints : Bool) (tries : ℕ) (old new : Objects) → RestoresWell use_checkpoints old → (statement : Statement) (end : Outcome) (reply : List ℕ) → IsDoneOf (job_of_line use_checkpoints tries statement) old new end
    → IsReplyOf end reply → Executes old statement reply new
line_told use_checkpoints tries old new well (lines.create id at schema) end reply done is = create_so old new id at schema reply end done is
line_told use_checkpoints tries old new well (lines.task (lines.append application number at items)) end reply done is = append_so use_checkpoints old new well reply application number at items tries end done is
line_told use_checkpoints tries old new well (lines.task (lines.close application at)) end reply done is = close_so use_checkpoints old new well reply application at tries end done is
line_told use_checkpoints tries old new well (lines.task lines.checkpoint) end reply done is = checkpoint_so use_checkpoints old new well reply tries end done is
line_told use_checkpoints tries old new well (lines.task (lines.tail max offset)) end reply done is = tail_so use_checkpoints old new well reply max offset tries end done is
line_told use_checkpoints tries old new well _ end reply done is = absurd done

-- A line whose job was done is told what it asks for.
pub job_told : (use_checkpoints : Bool) (tries : ℕ) (old new : Objects) → RestoresWell use_checkpoints old → (statement : Statement) (job : Job) (end : Outcome) (reply : List ℕ) → job_of_line use_checkpoints tries statement ≡ Some job
    → IsJobDone job old new end → IsReplyOf end reply → Executes old statement reply new
job_told use_checkpoints tries old new well statement job end reply is done told =
    line_told use_checkpoints tries old new well statement end reply (subst (λ (found : Option Job). IsDoneOf found old new end) (sym is) done) told

-- ---- what it may put

module _ (use_checkpoints : Bool) (tries : ℕ) (old new : Objects) (well : RestoresWell use_checkpoints old) where
  append_grows : (application : List ℕ) (number at : ℕ) (items : Items) (end : Outcome) → IsUtf8 application → IsDoneOf (job_of_task use_checkpoints tries (lines.append application number at items)) old new end
      → MayPut old (lines.task (lines.append application number at items)) new
  append_grows application number at items (jobs.stream end) text done = (text, subst (λ plan. MayAppend application number at plan old new) (append_plan_alike use_checkpoints old well application number at items) done.grows)
  append_grows application number at items _ text done = absurd done

  close_grows : (application : List ℕ) (at : ℕ) (end : Outcome) → IsUtf8 application → IsDoneOf (job_of_task use_checkpoints tries (lines.close application at)) old new end → MayPut old (lines.task (lines.close application at)) new
  close_grows application at (jobs.stream end) text done = (text, subst (λ plan. MayClose application at plan old new) (close_plan_alike use_checkpoints old well application) done.grows)
  close_grows application at _ text done = absurd done

  checkpoint_may : (answer : Result ℕ SnapshotFault) → IsCheckpointed use_checkpoints old new answer → MayPut old (lines.task lines.checkpoint) new
  checkpoint_may (Ok version) done = inr (
    version,
    record {
      name = done.name;
      bytes = done.bytes;
      puts = puts_alike use_checkpoints old well version done.name done.bytes done.puts;
      put = done.put;
    },
  )
  checkpoint_may (Err fault) done = inl done.1

  checkpoint_grows : (end : Outcome) → IsDoneOf (job_of_task use_checkpoints tries lines.checkpoint) old new end → MayPut old (lines.task lines.checkpoint) new
  checkpoint_grows (jobs.checkpoint end) done = checkpoint_may end.answer done
  checkpoint_grows _ done = absurd done

  -- a read puts nothing
  tail_grows : (max : ℕ) (found : Option Offset) (end : Outcome) → IsDoneOf (read_at use_checkpoints max found) old new end → new ≡ old
  tail_grows max None end done = absurd done
  tail_grows max (Some place) (jobs.read end) done = done.same
  tail_grows max (Some place) _ done = absurd done

  line_grows : (statement : Statement) (end : Outcome) → IsValidOf (job_of_line use_checkpoints tries statement) → IsDoneOf (job_of_line use_checkpoints tries statement) old new end → MayPut old statement new
  line_grows (lines.create id at schema) end valid done = create_grows old new id at schema end done
  line_grows (lines.task (lines.append application number at items)) end valid done = append_grows application number at items end valid.0 done
  line_grows (lines.task (lines.close application at)) end valid done = close_grows application at end valid.0 done
  line_grows (lines.task lines.checkpoint) end valid done = checkpoint_grows end done
  line_grows (lines.task (lines.tail max offset)) end valid done = tail_grows max (offset_of offset) end done
  line_grows _ end valid done = absurd done

-- A line whose job was done has put what it may put.
pub job_grows : (use_checkpoints : Bool) (tries : ℕ) (old new : Objects) → RestoresWell use_checkpoints old → (statement : Statement) (job : Job) (end : Outcome) → IsValidJob job → job_of_line use_checkpoints tries statement ≡ Some job
    → IsJobDone job old new end → MayPut old statement new
job_grows use_checkpoints tries old new well statement job end valid is done =
    line_grows use_checkpoints tries old new well statement end (subst IsValidOf (sym is) valid) (subst (λ (found : Option Job). IsDoneOf found old new end) (sym is) done)

-- ---- its job

-- a read has nothing that could be amiss
valid_read : (use_checkpoints : Bool) (max : ℕ) (found : Option Offset) → IfSome (read_at use_checkpoints max found) IsValidJob
valid_read use_checkpoints max None = tt
valid_read use_checkpoints max (Some place) = tt

-- The job of a task is valid whose application's id is text, and which tries a version at least.
pub valid_task : (use_checkpoints : Bool) (tries : ℕ) (job : Task) → 1 ≤ tries → IsOfText job → IfSome (job_of_task use_checkpoints tries job) IsValidJob
valid_task use_checkpoints tries (lines.append application number at rows) some text = (text, some)
valid_task use_checkpoints tries (lines.close application at) some text = (text, some)
valid_task use_checkpoints tries lines.checkpoint some text = tt
valid_task use_checkpoints tries (lines.tail max offset) some text = valid_read use_checkpoints max (offset_of offset)

-- ---- a line for which nothing was run

-- it may leave the objects as they were
may_keep : (objects : Objects) (statement : Statement) → MayLeave objects statement objects
may_keep objects (lines.task (lines.append application number at items)) = inl refl
may_keep objects _ = refl

-- A line for which nothing was run for want of memory is told so.
pub unrun_told : (objects : Objects) (statement : Statement) (reply : List ℕ) → IsWantOfMemory statement reply → Executes objects statement reply objects
unrun_told objects statement reply wants = inr (wants, may_keep objects statement)
