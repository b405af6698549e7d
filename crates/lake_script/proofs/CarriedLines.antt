-- What a line is told and does over one store, put together from what is so of it.
use Rattle.std.proofs.Common.{◌≡◌, ◌∙◌, ℕ, Bool, true, false, List, [], Option, None, Some, Result, Ok, Err, inl, inr, refl, sym, ap, subst}
use Rattle.outcomes.specs.Lines.{with_newline}
use Rattle.store_core.specs.Calls.{HasRisen}
use Rattle.store_core.specs.Objects.{Objects}
use Rattle.session_core.specs.Stores.{State}
use Rattle.session_core.specs.Talks.{Talk}
use Rattle.log_reading.specs.LogCache.{IsCacheOf}
use Rattle.log_reading.specs.declared.log_cache.LogCache.{LogCache}
use Rattle.table_log.specs.Restoring.{RestoresWell}
use Rattle.table_log.specs.declared.loading.Loaded.{Loaded}
use Rattle.table_jobs.specs.Jobs as jobs
use Rattle.table_jobs.specs.Jobs.{IsValidJob, Job, Outcome}
use Rattle.table_jobs.specs.Over.{IsJobDriven, KnowsSo}
use Rattle.table_jobs.specs.Sessions.{end_view}
use Rattle.table_jobs.specs.declared.job_session.JobEnd.{JobEnd}
use Rattle.log_rows.specs.declared.tail_fault.TailFault.TheVariants.{BadOffsetText}
use Rattle.script_lines.specs.Lines as lines
use Rattle.script_lines.specs.Lines.{Look, Statement, Task, WorldLine}
use Rattle.lake_script.specs.AnyStore.{IsToldLost, TellsOver}
use Rattle.lake_script.specs.CarriedOut.{IsCarriedOut}
use Rattle.lake_script.specs.Endings.{learnt}
use Rattle.lake_script.specs.Growth.{MayPut}
use Rattle.lake_script.specs.JobRuns.{RanOverStore}
use Rattle.lake_script.specs.LineJobs.{IsOfText, job_of_line, job_of_task}
use Rattle.lake_script.specs.ReplyView.{reply_text}
use Rattle.lake_script.specs.Replies.{noted}
use Rattle.lake_script.specs.Runs.{Executes, IsWantOfMemory}
use Rattle.lake_script.specs.Sound.{IsExecuted}
use Rattle.lake_script.specs.Told.{not_yet}
use Rattle.lake_script.specs.Tries.{IsLook}
use Rattle.lake_script.specs.declared.reply.LineReply.TheVariants.{NotTailed}
use Rattle.lake_script.proofs.CheckpointLemmas.{has_executed}
use Rattle.lake_script.proofs.JobAnyStore.{bad_offset_any, job_any, unrun_any}
use Rattle.lake_script.proofs.JobExecuted.{bad_offset, done_unknown, job_executed}
use Rattle.lake_script.proofs.JobReplies.{job_grows, job_told, unrun_told}
use Rattle.lake_script.proofs.JobShort.{job_lost, run_counts, run_short}

-- ---- a line that looks

module _ (is_reliable : Type 0) (use_checkpoints : Bool) (tries : ℕ) (known : Loaded) (line : Look) (reply : List ℕ) (lost : Bool) (old new : State) (count later : ℕ) (same : new.0 ≡ old.0) where
  look_told : (short : Bool) → (is_reliable → RestoresWell use_checkpoints old.0 → short ≡ false → IsExecuted old.0 (lines.look line) reply old.0) → (RestoresWell use_checkpoints old.0 → short ≡ true → IsWantOfMemory (lines.look line) reply)
      → is_reliable → RestoresWell use_checkpoints old.0 → Executes old.0 (lines.look line) reply new.0
  look_told false executed wants reliable well = has_executed old.0 (lines.look line) reply new.0 (subst (IsExecuted old.0 (lines.look line) reply) (sym same) (executed reliable well refl))
  look_told true executed wants reliable well = inr (wants well refl, same)

  -- It leaves the objects as they are.
  pub look_carried : (short : Bool) → (is_reliable → RestoresWell use_checkpoints old.0 → short ≡ false → IsExecuted old.0 (lines.look line) reply old.0) → (RestoresWell use_checkpoints old.0 → short ≡ true → IsWantOfMemory (lines.look line) reply)
      → (lost ≡ true → HasRisen count later) → (lost ≡ false → later ≡ count) → (lost ≡ true → IsToldLost (lines.look line) reply) → TellsOver is_reliable use_checkpoints tries known (lines.look line) reply old new count later
      → IsCarriedOut is_reliable use_checkpoints tries known (lines.look line) reply short lost old new count later
  look_carried short executed wants risen counted told_lost any = record {
    whole = λ reliable well enough. subst (IsExecuted old.0 (lines.look line) reply) (sym same) (executed reliable well enough);
    told = look_told short executed wants;
    grows = λ reliable well. same;
    looks = λ is. same;
    short = λ well is. inl (wants well is);
    lost = risen;
    counted = counted;
    told_lost = told_lost;
    any = any;
  }

-- ---- a line whose job was run

-- a line that looks has no job
no_look : (use_checkpoints : Bool) (tries : ℕ) (statement : Statement) (job : Job) → job_of_line use_checkpoints tries statement ≡ Some job → IsLook statement → ⊥
no_look use_checkpoints tries (lines.look line) job is look = cc
no_look use_checkpoints tries (lines.create id at schema) job is look = look
no_look use_checkpoints tries (lines.task task) job is look = look
no_look use_checkpoints tries (lines.foreign version action) job is look = look
no_look use_checkpoints tries (lines.tries number) job is look = look
no_look use_checkpoints tries (lines.world line) job is look = look

pub run_carried : (is_reliable : Type 0) (use_checkpoints : Bool) (tries : ℕ) (cache : LogCache) (statement : Statement) (job : Job) (reply : List ℕ) (short lost : Bool) (old new : State) (count later : ℕ)
    → IsValidJob job → job_of_line use_checkpoints tries statement ≡ Some job → RanOverStore is_reliable cache job reply short lost old new count later → IsCarriedOut is_reliable use_checkpoints tries cache.loaded statement reply short lost old new count later
run_carried is_reliable use_checkpoints tries cache statement job reply short lost old new count later valid is ran =
    let end = end_view ran.end in
    let counts = run_counts is_reliable use_checkpoints tries cache statement job reply short lost old new count later is ran in
    record {
      whole = λ reliable well enough. job_executed use_checkpoints tries cache old.0 new.0 well statement job end reply short valid is (ran.done reliable) ran.told ran.is_short enough;
      told = λ reliable well. job_told use_checkpoints tries old.0 new.0 well statement job end reply is (done_unknown cache job old.0 new.0 end (ran.done reliable)) ran.told;
      grows = λ reliable well. job_grows use_checkpoints tries old.0 new.0 well statement job end valid is (done_unknown cache job old.0 new.0 end (ran.done reliable));
      looks = λ look. absurd (no_look use_checkpoints tries statement job is look);
      short = λ well wants. run_short is_reliable use_checkpoints tries cache statement job reply short lost old new count later well is ran wants;
      lost = counts.0;
      counted = counts.1;
      told_lost = λ loses. job_lost is_reliable use_checkpoints tries cache old new count later statement job end reply is ran.over ran.told (sym ran.loses ∙ loses);
      any = job_any is_reliable use_checkpoints tries cache statement job reply short lost old new count later is ran;
    }

-- whatever its session was driven by
pub run_somehow : (makes : Talk → Type 0) (is_reliable : Type 0) (job : Job) (end : JobEnd) (old new : State) (count later : ℕ) → IsJobDriven makes is_reliable job end old new count later → IsJobDriven (λ talk. Unit {0}) is_reliable job end old new count later
run_somehow makes is_reliable job end old new count later run =
    let d = run.3 in (
      run.0,
      run.1,
      run.2,
      record {
        talk = d.talk;
        talked = d.talked;
        called = tt;
        exact = d.exact;
        asked = d.asked;
        ended = d.ended;
        borne = d.borne;
        still_borne = d.still_borne;
        counted = d.counted;
        told = d.told;
        few = d.few;
      },
    )

-- What its session knew by its end is so of the store.
pub learnt_so : (objects : Objects) (end : Outcome) (short : Bool) (cache : LogCache) → IsCacheOf objects cache → KnowsSo objects end → IsCacheOf objects (learnt end short cache)
learnt_so objects (jobs.creation answer) short cache is knows = is
learnt_so objects (jobs.load result) short cache is knows = is
learnt_so objects (jobs.checkpoint end) short cache is knows = record { loaded = knows; log = is.log; file = is.file }
learnt_so objects (jobs.stream end) short cache is knows = record { loaded = knows; log = is.log; file = is.file }
learnt_so objects (jobs.read end) short cache is knows = record { loaded = is.loaded; log = knows.0; file = knows.1 }

-- ---- a line for which nothing was run

-- what it may put
keeps_put : (objects : Objects) (task : Task) → IsOfText task → MayPut objects (lines.task task) objects
keeps_put objects (lines.append application number at rows) text = (text, inl refl)
keeps_put objects (lines.close application at) text = (text, inl refl)
keeps_put objects lines.checkpoint text = inl refl
keeps_put objects (lines.tail max offset) text = refl

module _ (is_reliable : Type 0) (use_checkpoints : Bool) (tries : ℕ) (known : Loaded) (state : State) (count : ℕ) where
  -- for want of memory
  unrun_carried : (statement : Statement) (reply : List ℕ) → IsWantOfMemory statement reply → (IsLook statement → ⊥) → MayPut state.0 statement state.0 → TellsOver is_reliable use_checkpoints tries known statement reply state state count count
      → IsCarriedOut is_reliable use_checkpoints tries known statement reply true false state state count count
  unrun_carried statement reply wants look may any = record {
    whole = λ reliable well enough. cc;
    told = λ reliable well. unrun_told state.0 statement reply wants;
    grows = λ reliable well. may;
    looks = λ is. absurd (look is);
    short = λ well is. inl wants;
    lost = λ is. cc;
    counted = λ is. refl;
    told_lost = λ is. cc;
    any = any;
  }

  pub uncreated : (id : List ℕ) (at : ℕ) (schema reply : List ℕ) → IsWantOfMemory (lines.create id at schema) reply → IsCarriedOut is_reliable use_checkpoints tries known (lines.create id at schema) reply true false state state count count
  uncreated id at schema reply wants = unrun_carried (lines.create id at schema) reply wants (λ look. look) (inl refl) (unrun_any is_reliable use_checkpoints tries known (lines.create id at schema) reply state count wants)

  pub undone : (task : Task) (reply : List ℕ) → IsOfText task → IsWantOfMemory (lines.task task) reply → IsCarriedOut is_reliable use_checkpoints tries known (lines.task task) reply true false state state count count
  undone task reply text wants = unrun_carried (lines.task task) reply wants (λ look. look) (keeps_put state.0 task text) (unrun_any is_reliable use_checkpoints tries known (lines.task task) reply state count wants)

  -- since its offset can't be read
  pub unplaced : (task : Task) → job_of_task use_checkpoints tries task ≡ None → IsCarriedOut is_reliable use_checkpoints tries known (lines.task task) (reply_text (NotTailed BadOffsetText)) false false state state count count
  unplaced (lines.append application number at rows) is = cc
  unplaced (lines.close application at) is = cc
  unplaced lines.checkpoint is = cc
  unplaced (lines.tail max offset) is =
      let reply = reply_text (NotTailed BadOffsetText) in
      let line = lines.task (lines.tail max offset) in
      record {
        whole = λ reliable well enough. bad_offset use_checkpoints tries state.0 well max offset is;
        told = λ reliable well. has_executed state.0 line reply state.0 (bad_offset use_checkpoints tries state.0 well max offset is);
        grows = λ reliable well. refl;
        looks = λ look. absurd look;
        short = λ well short. cc;
        lost = λ lost. cc;
        counted = λ lost. refl;
        told_lost = λ lost. cc;
        any = bad_offset_any is_reliable use_checkpoints tries known max offset state count is;
      }

-- ---- lines that touch no store

module _ (is_reliable : Type 0) (use_checkpoints : Bool) (tries : ℕ) (known : Loaded) (state : State) (count : ℕ) where
  -- one that sets how many versions are tried
  pub noted_carried : (number : ℕ) → IsCarriedOut is_reliable use_checkpoints tries known (lines.tries number) (with_newline noted) false false state state count count
  noted_carried number =
      let executed : IsExecuted state.0 (lines.tries number) (with_newline noted) state.0 = record { text = []; printed = tt; told = refl; left = refl; sound = tt } in
      record {
        whole = λ reliable well enough. executed;
        told = λ reliable well. has_executed state.0 (lines.tries number) (with_newline noted) state.0 executed;
        grows = λ reliable well. refl;
        looks = λ look. absurd look;
        short = λ well short. cc;
        lost = λ lost. cc;
        counted = λ lost. refl;
        told_lost = λ lost. cc;
        any = (refl, (refl, refl), refl);
      }

  -- one of actors, where there are none
  pub not_here_carried : (line : WorldLine) → IsCarriedOut is_reliable use_checkpoints tries known (lines.world line) not_yet false false state state count count
  not_here_carried line =
      let executed : IsExecuted state.0 (lines.world line) not_yet state.0 = record { text = []; printed = tt; told = refl; left = refl; sound = tt } in
      record {
        whole = λ reliable well enough. executed;
        told = λ reliable well. has_executed state.0 (lines.world line) not_yet state.0 executed;
        grows = λ reliable well. refl;
        looks = λ look. absurd look;
        short = λ well short. cc;
        lost = λ lost. cc;
        counted = λ lost. refl;
        told_lost = λ lost. cc;
        any = (refl, (refl, refl), refl);
      }
