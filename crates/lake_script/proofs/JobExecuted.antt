-- What a line is told and leaves whose job was done and whose reply isn't short: what it asks for, and what it put is well made.
use Rattle.std.proofs.Common.{◌≡◌, ◌≢◌, ◌∙◌, ℕ, [], Bool, true, false, List, Option, None, Some, Result, Ok, Err, inl, inr, refl, sym, ap, subst}
use Rattle.std.specs.Prelude.{IsOk}
use Rattle.std.specs.Str.{IsUtf8}
use Rattle.serde_json.specs.Data.{Items}
use Rattle.outcomes.specs.Outcome.{IsSaid, Said, never_comes, refuses, says_nothing}
use Rattle.store_core.specs.Names.{commit_name}
use Rattle.store_core.specs.Objects.{Objects, object_at}
use Rattle.commit_core.specs.Creating.{CreateRefusal, Creates, creation_from, created_by, unless_there}
use Rattle.commit_core.specs.Creating as creating
use Rattle.commit_core.specs.declared.fault.CreateFault.{CreateFault}
use Rattle.commit_core.specs.declared.fault.CreateFault.TheVariants as creations
use Rattle.table_log.specs.Restoring.{RestoresWell}
use Rattle.table_log.specs.declared.loading.Loaded.{Loaded}
use Rattle.batch_core.specs.Refusals.{sink_refusal_view, says}
use Rattle.batch_core.specs.declared.fault.SinkFault.{SinkFault}
use Rattle.sink_core.specs.Appending.{PutsWell, with_append}
use Rattle.sink_core.specs.Closes.{ClosesWell, with_close_commit}
use Rattle.sink_core.specs.SinkSessions.{SinkJob, SinkTask, appends, closes}
use Rattle.sink_core.specs.declared.sink_state.SinkOutcome.{SinkOutcome}
use Rattle.sink_core.proofs.Callers.{append_plan_alike, appended_alike, close_plan_alike, closed_alike}
use Rattle.snapshot_core.specs.declared.fault.SnapshotFault.{SnapshotFault}
use Rattle.snapshot_core.proofs.Callers.{puts_alike, refusal_alike}
use Rattle.schema_tree.specs.Tree.{Tree}
use Rattle.table_model.specs.declared.reading.Offset.{Offset}
use Rattle.log_offsets.specs.Offsets.{offset_of}
use Rattle.log_reading.specs.declared.log_cache.LogCache.{LogCache}
use Rattle.log_rows.specs.TailFaults as tails
use Rattle.log_rows.specs.TailFaults.{ReadGives}
use Rattle.log_rows.specs.Tailing as reading
use Rattle.log_rows.specs.Tailing.{ReadRefusal, ReadRows}
use Rattle.log_rows.specs.declared.read_state.ReadRows as code
use Rattle.log_rows.specs.declared.tail_fault.TailFault.{TailFault}
use Rattle.log_rows.specs.declared.tail_fault.TailFault.TheVariants as faults
use Rattle.source_core.specs.SourceSessions.{read_told, read_view}
use Rattle.source_core.specs.TailTexts.{tailed}
use Rattle.source_core.proofs.Callers.{tailed_alike}
use Rattle.source_core.proofs.SourceTalks.{tailed_refused, tailed_rows}
use Rattle.table_jobs.specs.Done.{IsAppended, IsCheckpointed, IsClosed, IsCreationDone, IsJobDone, IsTaskDone}
use Rattle.table_jobs.specs.Jobs as jobs
use Rattle.table_jobs.specs.Jobs.{IsValidJob, Job, Outcome}
use Rattle.table_jobs.specs.Views.{known_load, with_known}
use Rattle.script_lines.specs.Lines as lines
use Rattle.script_lines.specs.Lines.{Statement}
use Rattle.lake_script.specs.LineJobs.{job_of_creation, job_of_line, job_of_task}
use Rattle.lake_script.specs.Endings.{IsReadReply, IsReadShort, IsReplyOf, IsShortBy, checkpoint_end_reply, stream_reply}
use Rattle.table_jobs.specs.Wants.{checkpoint_wants, creation_wants, read_wants, stream_wants}
use Rattle.lake_script.specs.ReplyView.{reply_text}
use Rattle.lake_script.specs.Sound.{IsExecuted}
use Rattle.lake_script.specs.Told.{created_reply, tailed_reply}
use Rattle.lake_script.specs.declared.reply.LineReply.TheVariants.{NoSnapshot, NotTailed}
use Rattle.lake_script.proofs.CheckpointLemmas.{put_executed, refusal_executed}
use Rattle.lake_script.proofs.EndingLemmas.{checkpoint_short, stream_short}
use Rattle.lake_script.proofs.JobReplies.{IsDoneOf, IsValidOf, created_told, read_at, refused_told}
use Rattle.lake_script.proofs.RestoredLemmas.{append_executed, append_refusal_executed, close_executed, close_refusal_executed, kept_memory}

-- ---- what was known of the log

task_unknown : (known : Loaded) (job : SinkJob) (task : SinkTask) (old new : Objects) (answer : Result SinkOutcome SinkFault) → IsTaskDone task (record job { load = known_load known job.load }) old new answer → IsTaskDone task job old new answer
task_unknown known job (appends number items) old new answer done = done
task_unknown known job closes old new answer done = done

-- What a job tells and leaves of these objects doesn't rest on what was known of the log when it began.
pub done_unknown : (cache : LogCache) (job : Job) (old new : Objects) (end : Outcome) → IsJobDone (with_known cache job) old new end → IsJobDone job old new end
done_unknown cache (jobs.creates job) old new end done = done
done_unknown cache (jobs.loads job) old new (jobs.load result) done = done
done_unknown cache (jobs.checkpoints job) old new (jobs.checkpoint end) done = done
done_unknown cache (jobs.streams job) old new (jobs.stream end) done = task_unknown cache.loaded job job.task old new end.answer done
done_unknown cache (jobs.reads job) old new (jobs.read end) done = record { told = done.told; same = done.same; unlost = done.unlost }
done_unknown cache job old new end done = absurd done

-- ---- a creation

-- a commit that is too large is told so, whatever stands
large_told : (there : Option (List ℕ)) (commit : Result (List ℕ) CreateRefusal) → commit ≡ Err creating.too_large → unless_there there commit ≡ Err creating.too_large
large_told None commit large = large
large_told (Some old) (Ok bytes) large = absurd cc
large_told (Some old) (Err refusal) large = large

-- so where bytes are said, or a refusal that isn't short, the commit isn't too large
bytes_small : (said : Result (List ℕ) CreateRefusal) → IsOk said → said ≢ Err creating.too_large
bytes_small (Ok bytes) is = λ wrong. cc
bytes_small (Err refusal) is = absurd cc

refused_small : (fault : CreateFault) (said : Result (List ℕ) CreateRefusal) → creation_wants (Err fault) ≡ false → IsSaid (creating.says fault) said → said ≢ Err creating.too_large
refused_small creations.Memory said enough is = absurd cc
refused_small creations.TooLarge said enough is = absurd cc
refused_small creations.TableExists said enough is = λ large. let wrong = sym is ∙ large in cc
refused_small (creations.BadSchema fault) said enough is = λ large. let wrong = sym is ∙ large in cc
refused_small creations.BadId said enough is = λ large. let wrong = sym is ∙ large in cc
refused_small creations.Lost said enough is = λ large. let wrong = sym is ∙ large in cc

-- a refusal that isn't short isn't for want of memory
creation_kept : (fault : CreateFault) → creation_wants (Err fault) ≡ false → fault ≢ creations.Memory
creation_kept creations.Memory enough = absurd cc
creation_kept _ enough = λ wrong. cc

module _ (old new : Objects) (id : List ℕ) (at : ℕ) (schema : List ℕ) (reply : List ℕ) where
  -- a creation that wants no memory, and whose commit isn't too large
  creation_executed : (answer : Result (Unit {0}) CreateFault) (made : Creates (Unit {0}) id at schema answer old new) → answer ≢ Err creations.Memory → reply ≡ created_reply (created_by old id at schema made.text)
      → created_by old id at schema made.text ≢ Err creating.too_large → IsExecuted old (lines.create id at schema) reply new
  creation_executed answer made enough told small = record {
    text = made.text;
    printed = made.printed enough;
    told = told;
    left = made.left tt enough;
    sound = (made.well_created enough, λ large. small (large_told (object_at old (commit_name 0)) (creation_from id at schema made.text) large));
  }

  create_whole : (answer : Result (Unit {0}) CreateFault) → IsReplyOf (jobs.creation answer) reply → creation_wants answer ≡ false → IsCreationDone id at schema old new answer → IsExecuted old (lines.create id at schema) reply new
  create_whole (Ok x) is enough done =
      let said = created_by old id at schema done.0.text in
      creation_executed (Ok x) done.0 (λ wrong. cc) (is ∙ created_told said (done.0.told tt)) (bytes_small said (done.0.told tt))
  create_whole (Err fault) is enough done =
      let said = created_by old id at schema done.0.text in
      let kept = creation_kept fault enough in
      creation_executed (Err fault) done.0 (λ wrong. kept cc) (is ∙ refused_told fault said kept (done.0.told tt)) (refused_small fault said enough (done.0.told tt))

  create_so : (end : Outcome) (short : Bool) → IsJobDone (job_of_creation id at schema) old new end → IsReplyOf end reply → IsShortBy end reply short → short ≡ false → IsExecuted old (lines.create id at schema) reply new
  create_so (jobs.creation answer) short done is asked enough = create_whole answer is (sym asked ∙ enough) done
  create_so _ short done is asked enough = absurd done

module _ (use_checkpoints : Bool) (old new : Objects) (well : RestoresWell use_checkpoints old) (reply : List ℕ) where
  -- ---- an append

  module _ (application : List ℕ) (number at : ℕ) (items : Items) (text : IsUtf8 application) where
    append_whole : (answer : Result SinkOutcome SinkFault) → reply ≡ stream_reply answer → stream_wants answer ≡ false → IsAppended use_checkpoints application number at items old new answer
        → IsExecuted old (lines.task (lines.append application number at items)) reply new
    append_whole (Ok outcome) is enough done =
        let said = appended_alike use_checkpoints old well application number at items in
        let step = append_plan_alike use_checkpoints old well application number at items in
        let made = subst (PutsWell application number at) step (done.well_put (λ wrong. cc)) in
        subst (λ (r : List ℕ). IsExecuted old (lines.task (lines.append application number at items)) r new) (sym is)
        (append_executed old application number at items new (done.left (λ wrong. cc) ∙ ap (with_append old) step) text made outcome (sym said ∙ done.told))
    append_whole (Err fault) is enough done =
        let said = appended_alike use_checkpoints old well application number at items in
        let step = append_plan_alike use_checkpoints old well application number at items in
        let short = stream_short fault ∙ enough in
        let made = subst (PutsWell application number at) step (done.well_put (λ wrong. kept_memory fault short cc)) in
        subst (λ (r : List ℕ). IsExecuted old (lines.task (lines.append application number at items)) r new) (sym is)
        (append_refusal_executed old application number at items new (done.left (λ wrong. kept_memory fault short cc) ∙ ap (with_append old) step) text made fault
        (subst (IsSaid (says (sink_refusal_view fault))) said done.told) short (λ version lost. done.unlost version (ap Err lost)))

    append_so : (tries : ℕ) (end : Outcome) (short : Bool) → IsDoneOf (job_of_task use_checkpoints tries (lines.append application number at items)) old new end → IsReplyOf end reply → IsShortBy end reply short → short ≡ false
        → IsExecuted old (lines.task (lines.append application number at items)) reply new
    append_so tries (jobs.stream end) short done is asked enough = append_whole end.answer is (sym asked ∙ enough) done
    append_so tries _ short done is asked enough = absurd done

  -- ---- a close

  module _ (application : List ℕ) (at : ℕ) (text : IsUtf8 application) where
    close_whole : (answer : Result SinkOutcome SinkFault) → reply ≡ stream_reply answer → stream_wants answer ≡ false → IsClosed use_checkpoints application at old new answer
        → IsExecuted old (lines.task (lines.close application at)) reply new
    close_whole (Ok outcome) is enough done =
        let said = closed_alike use_checkpoints old well application in
        let plan = close_plan_alike use_checkpoints old well application in
        let made = subst (ClosesWell application at) plan (done.well_put (λ wrong. cc)) in
        subst (λ (r : List ℕ). IsExecuted old (lines.task (lines.close application at)) r new) (sym is)
        (close_executed old application at new (done.left (λ wrong. cc) ∙ ap (with_close_commit old application at) plan) text made outcome (sym said ∙ done.told))
    close_whole (Err fault) is enough done =
        let said = closed_alike use_checkpoints old well application in
        let plan = close_plan_alike use_checkpoints old well application in
        let short = stream_short fault ∙ enough in
        let made = subst (ClosesWell application at) plan (done.well_put (λ wrong. kept_memory fault short cc)) in
        subst (λ (r : List ℕ). IsExecuted old (lines.task (lines.close application at)) r new) (sym is)
        (close_refusal_executed old application at new (done.left (λ wrong. kept_memory fault short cc) ∙ ap (with_close_commit old application at) plan) text made fault
        (subst (IsSaid (says (sink_refusal_view fault))) said done.told) short (λ version lost. done.unlost version (ap Err lost)))

    close_so : (tries : ℕ) (end : Outcome) (short : Bool) → IsDoneOf (job_of_task use_checkpoints tries (lines.close application at)) old new end → IsReplyOf end reply → IsShortBy end reply short → short ≡ false
        → IsExecuted old (lines.task (lines.close application at)) reply new
    close_so tries (jobs.stream end) short done is asked enough = close_whole end.answer is (sym asked ∙ enough) done
    close_so tries _ short done is asked enough = absurd done

  -- ---- a checkpoint

  checkpoint_whole : (answer : Result ℕ SnapshotFault) → reply ≡ checkpoint_end_reply answer → checkpoint_wants answer ≡ false → IsCheckpointed use_checkpoints old new answer → IsExecuted old (lines.task lines.checkpoint) reply new
  checkpoint_whole (Ok version) is enough done =
      let puts = puts_alike use_checkpoints old well version done.name done.bytes done.puts in
      subst (λ (r : List ℕ). IsExecuted old (lines.task lines.checkpoint) r new) (sym is) (put_executed old version done.name done.bytes puts new done.put)
  checkpoint_whole (Err fault) is enough done =
      subst (λ (r : List ℕ). IsExecuted old (lines.task lines.checkpoint) r new) (sym is)
      (subst (λ (o : Objects). IsExecuted old (lines.task lines.checkpoint) (reply_text (NoSnapshot fault)) o) (sym done.1)
      (refusal_executed old fault (refusal_alike use_checkpoints old well fault done.0) (checkpoint_short fault ∙ enough) done.2))

  checkpoint_so : (tries : ℕ) (end : Outcome) (short : Bool) → IsDoneOf (job_of_task use_checkpoints tries lines.checkpoint) old new end → IsReplyOf end reply → IsShortBy end reply short → short ≡ false
      → IsExecuted old (lines.task lines.checkpoint) reply new
  checkpoint_so tries (jobs.checkpoint end) short done is asked enough = checkpoint_whole end.answer is (sym asked ∙ enough) done
  checkpoint_so tries _ short done is asked enough = absurd done

-- ---- a read

-- a refusal's text is what is told of it, unless it is short or a call was lost
refused_reply : (fault : TailFault) (said : Result (List ℕ) ReadRefusal) → fault ≢ faults.Lost → read_wants (Err fault) ≡ false → IsSaid (tails.says (tails.read_refusal_view fault)) said → reply_text (NotTailed fault) ≡ tailed_reply said
refused_reply faults.BadOffsetText said unlost enough is = sym (ap tailed_reply is)
refused_reply (faults.Unsupported fault) said unlost enough is = sym (ap tailed_reply is)
refused_reply (faults.BeyondLog next) said unlost enough is = sym (ap tailed_reply is)
refused_reply (faults.VersionGone first) said unlost enough is = sym (ap tailed_reply is)
refused_reply (faults.RowsRemoved version) said unlost enough is = sym (ap tailed_reply is)
refused_reply (faults.SchemaChanged version) said unlost enough is = sym (ap tailed_reply is)
refused_reply (faults.BadPlace version) said unlost enough is = sym (ap tailed_reply is)
refused_reply (faults.MissingFile path) said unlost enough is = sym (ap tailed_reply is)
refused_reply (faults.BadFile version file fault) said unlost enough is = sym (ap tailed_reply is)
refused_reply (faults.BadLog version) said unlost enough is = sym (ap tailed_reply is)
refused_reply faults.Lost said unlost enough is = absurd (unlost refl)
refused_reply faults.Memory said unlost enough is = absurd cc

module _ (use_checkpoints : Bool) (old new : Objects) (well : RestoresWell use_checkpoints old) (reply : List ℕ) (max : ℕ) (offset : List ℕ) where
  -- what is told by the log as it is read is told by all its commits
  read_whole : (told : Result (List ℕ) ReadRefusal) → tailed use_checkpoints old max offset ≡ told → reply ≡ tailed_reply told → new ≡ old → IsExecuted old (lines.task (lines.tail max offset)) reply new
  read_whole told read is same = record {
    text = [];
    printed = tt;
    told = is ∙ ap tailed_reply (sym read ∙ tailed_alike use_checkpoints old well max offset);
    left = same;
    sound = tt;
  }

  module _ (place : Offset) (spells : offset_of offset ≡ Some place) where
    -- what the job reads of the objects
    abbrev rows_read : Result (Tree × ReadRows) ReadRefusal
    rows_read = read_told (record { place = place; max = max; use_checkpoints = use_checkpoints; known = [] }) old

    -- what is said of its rows is said of their text
    said_so : (said : Said ReadRefusal) → IsSaid said rows_read → IsSaid said (tailed use_checkpoints old max offset)
    said_so (refuses refusal) is = tailed_refused use_checkpoints old max offset place spells refusal is
    said_so says_nothing is = tt
    said_so never_comes is = absurd is

    tail_whole : (answer : Result code.ReadRows TailFault) (short : Bool) → IsReadReply answer reply → IsReadShort answer reply short → short ≡ false → ReadGives read_view answer rows_read → answer ≢ Err faults.Lost → new ≡ old
        → IsExecuted old (lines.task (lines.tail max offset)) reply new
    tail_whole (Ok handed) short is (inl has) enough read unlost same = read_whole _ (tailed_rows use_checkpoints old max offset place spells (read_view handed) read) has.0 same
    tail_whole (Ok handed) short is (inr wants) enough read unlost same = let wrong : true ≡ false = sym wants.1 ∙ enough in absurd cc
    tail_whole (Err fault) short is asked enough read unlost same =
        let told = tailed use_checkpoints old max offset in
        let said = said_so (tails.says (tails.read_refusal_view fault)) read in
        read_whole told refl (is ∙ refused_reply fault told (λ lost. unlost (ap (λ (f : TailFault). Err f) lost)) (sym asked ∙ enough) said) same

    tail_at : (end : Outcome) (short : Bool) → IsDoneOf (read_at use_checkpoints max (Some place)) old new end → IsReplyOf end reply → IsShortBy end reply short → short ≡ false → IsExecuted old (lines.task (lines.tail max offset)) reply new
    tail_at (jobs.read end) short done is asked enough = tail_whole end.answer short is asked enough done.told done.unlost done.same
    tail_at _ short done is asked enough = absurd done

  tail_so : (tries : ℕ) (end : Outcome) (short : Bool) → IsDoneOf (job_of_task use_checkpoints tries (lines.tail max offset)) old new end → IsReplyOf end reply → IsShortBy end reply short → short ≡ false
      → IsExecuted old (lines.task (lines.tail max offset)) reply new
  tail_so tries end short done is asked enough = by_place (offset_of offset) refl done
    where
      by_place : (found : Option Offset) → offset_of offset ≡ found → IsDoneOf (read_at use_checkpoints max found) old new end → IsExecuted old (lines.task (lines.tail max offset)) reply new
      by_place None spells done = absurd done
      by_place (Some place) spells done = tail_at place spells end short done is asked enough

-- a read has no job only where its offset can't be read, and then that is what is told
pub no_place : (use_checkpoints : Bool) (max : ℕ) (found : Option Offset) → read_at use_checkpoints max found ≡ None → found ≡ None
no_place use_checkpoints max None is = refl
no_place use_checkpoints max (Some place) is = absurd cc

pub unspelled : (use_checkpoints : Bool) (objects : Objects) (max : ℕ) (text : List ℕ) → offset_of text ≡ None → tailed use_checkpoints objects max text ≡ Err reading.bad_offset
unfolding tailed
unspelled use_checkpoints objects max text none = rw none refl

-- A read has what it asks for whose offset can't be read: it is told so, and nothing is run.
pub bad_offset : (use_checkpoints : Bool) (tries : ℕ) (old : Objects) → RestoresWell use_checkpoints old → (max : ℕ) (offset : List ℕ) → job_of_task use_checkpoints tries (lines.tail max offset) ≡ None
    → IsExecuted old (lines.task (lines.tail max offset)) (reply_text (NotTailed faults.BadOffsetText)) old
bad_offset use_checkpoints tries old well max offset none = record {
  text = [];
  printed = tt;
  told = ap tailed_reply (sym (unspelled false old max offset (no_place use_checkpoints max (offset_of offset) none)));
  left = refl;
  sound = tt;
}

-- ---- any line

line_executed : (use_checkpoints : Bool) (tries : ℕ) (old new : Objects) → RestoresWell use_checkpoints old → (statement : Statement) (end : Outcome) (reply : List ℕ) (short : Bool) → IsValidOf (job_of_line use_checkpoints tries statement)
    → IsDoneOf (job_of_line use_checkpoints tries statement) old new end → IsReplyOf end reply → IsShortBy end reply short → short ≡ false → IsExecuted old statement reply new
line_executed use_checkpoints tries old new well (lines.create id at schema) end reply short valid done is asked enough = create_so old new id at schema reply end short done is asked enough
line_executed use_checkpoints tries old new well (lines.task (lines.append application number at items)) end reply short valid done is asked enough =
    append_so use_checkpoints old new well reply application number at items valid.0 tries end short done is asked enough
line_executed use_checkpoints tries old new well (lines.task (lines.close application at)) end reply short valid done is asked enough = close_so use_checkpoints old new well reply application at valid.0 tries end short done is asked enough
line_executed use_checkpoints tries old new well (lines.task lines.checkpoint) end reply short valid done is asked enough = checkpoint_so use_checkpoints old new well reply tries end short done is asked enough
line_executed use_checkpoints tries old new well (lines.task (lines.tail max offset)) end reply short valid done is asked enough = tail_so use_checkpoints old new well reply max offset tries end short done is asked enough
line_executed use_checkpoints tries old new well _ end reply short valid done is asked enough = absurd done

-- A line whose job was done, and whose reply isn't short, has what it asks for, and what it put is well made.
pub job_executed : (use_checkpoints : Bool) (tries : ℕ) (cache : LogCache) (old new : Objects) → RestoresWell use_checkpoints old → (statement : Statement) (job : Job) (end : Outcome) (reply : List ℕ) (short : Bool) → IsValidJob job
    → job_of_line use_checkpoints tries statement ≡ Some job → IsJobDone (with_known cache job) old new end → IsReplyOf end reply → IsShortBy end reply short → short ≡ false → IsExecuted old statement reply new
job_executed use_checkpoints tries cache old new well statement job end reply short valid is done told asked enough =
    line_executed use_checkpoints tries old new well statement end reply short (subst IsValidOf (sym is) valid)
    (subst (λ (found : Option Job). IsDoneOf found old new end) (sym is) (done_unknown cache job old new end done)) told asked enough
