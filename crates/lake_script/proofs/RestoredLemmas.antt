-- Of a log that is read from sound checkpoints what is told and left is what all its commits say.
use Rattle.std.proofs.Common.{◌≡◌, ◌≢◌, ℕ, Bool, false, List, [], Option, Result, Ok, Err, inl, inr, refl, sym, ap, subst, ◌∙◌}
use Rattle.std.specs.Str.{IsUtf8}
use Rattle.serde_json.specs.Data.{Items}
use Rattle.outcomes.specs.Outcome.{IsSaid}
use Rattle.outcomes.specs.Results.{◌>>=◌}
use Rattle.store_core.specs.Objects.{Objects}
use Rattle.table_log.specs.Restoring.{HasOnlySoundCheckpoints, AreCheckpointsSound, HasSoundCheckpoints, RestoresWell}
use Rattle.commit_core.specs.Texts.{refused}
use Rattle.sink_core.specs.Appending.{AppendPlan, appended_by, plan_answer, append_plan, with_append, MayHoldFile, PutsWell}
use Rattle.sink_core.specs.Closes.{close_plan, stream_closed_by, with_close_commit, ClosesWell}
use Rattle.batch_core.specs.Refusals.{SinkRefusal, sink_refusal_text, sink_refusal_view, says, file_too_large}
use Rattle.sink_core.specs.declared.sink_state.SinkOutcome.{SinkOutcome}
use Rattle.batch_core.specs.declared.fault.SinkFault.{SinkFault}
use Rattle.batch_core.specs.declared.fault.SinkFault.TheVariants as faults
use Rattle.lake_script.specs.declared.reply.LineReply.TheVariants as replies
use Rattle.lake_script.specs.declared.reply.LineReply.TheVariants.{SinkRefused}
use Rattle.script_lines.specs.Lines.{append, close, task}
use Rattle.lake_script.specs.ReplyView.{reply_text, is_short_reply}
use Rattle.lake_script.specs.Runs.{Executes}
use Rattle.lake_script.specs.Sound.{IsExecuted}
use Rattle.lake_script.specs.Told.{sink_reply}
use Rattle.table_log.proofs.Callers.{sound_empty}
use Rattle.outcomes.specs.Lines.{with_newline}

-- in an empty store no checkpoint stands
pub well_of_empty : (use_checkpoints : Bool) (objects : Objects) → objects ≡ [] → RestoresWell use_checkpoints objects
well_of_empty use_checkpoints objects empty = λ is. subst HasSoundCheckpoints (sym empty) (sound_empty false)

-- where each checkpoint is one of the log, those that read well are
pub well_of_sound : (use_checkpoints : Bool) (objects : Objects) → HasOnlySoundCheckpoints objects → RestoresWell use_checkpoints objects
well_of_sound use_checkpoints objects sound = λ is name version bytes named there asked. sound name version bytes named there tt

-- where checkpoints go on to be sound, a log goes on to be read from them
pub still_well : (use_checkpoints : Bool) (old new : Objects) → RestoresWell use_checkpoints old → ((every : Bool) → AreCheckpointsSound every old → AreCheckpointsSound every new) → RestoresWell use_checkpoints new
still_well use_checkpoints old new well sound = λ is. sound false (well is)

-- ---- an append

-- what the code answers is told
answer_text : (answer : SinkOutcome) → reply_text (replies.SinkTold answer) ≡ sink_reply (Ok answer)
answer_text answer = refl

-- an append that is answered has no file that is too large, and one that has is told so
not_large : (step : Result AppendPlan SinkRefusal) (number : ℕ) (answer : SinkOutcome) → (step >>= plan_answer number) ≡ Ok answer → step ≢ Err file_too_large
not_large (Ok step) number answer told = λ wrong. cc
not_large (Err refusal) number answer told = absurd cc

large_told : (step : Result AppendPlan SinkRefusal) (number : ℕ) → step ≡ Err file_too_large → (step >>= plan_answer number) ≡ Err file_too_large
large_told (Ok step) number large = absurd cc
large_told (Err refusal) number large = let is : refusal ≡ file_too_large = cc in ap Err is

-- a refusal that isn't short isn't for want of memory
pub kept_memory : (fault : SinkFault) → is_short_reply (SinkRefused fault) ≡ false → fault ≢ faults.Memory
kept_memory faults.Memory enough = absurd cc
kept_memory _ enough = λ wrong. cc

module _ (objects : Objects) (application : List ℕ) (number at : ℕ) (items : Items) (after : Objects) where
  module _ (left : after ≡ with_append objects (append_plan false objects application number at items)) (text : IsUtf8 application) (made : PutsWell application number at (append_plan false objects application number at items)) where
    -- a batch that is appended, or stands already, is told so
    pub append_executed : (answer : SinkOutcome) → appended_by false objects application number at items ≡ Ok answer → IsExecuted objects (task (append application number at items)) (reply_text (replies.SinkTold answer)) after
    append_executed answer told = record {
      text = [];
      printed = tt;
      told = answer_text answer ∙ ap sink_reply (sym told);
      left = left;
      sound = (text, made, not_large (append_plan false objects application number at items) number answer told);
    }

    -- so is a refusal
    refused_executed : (refusal : SinkRefusal) → appended_by false objects application number at items ≡ Err refusal → refusal ≢ file_too_large → IsExecuted objects (task (append application number at items)) (with_newline (refused (sink_refusal_text refusal))) after
    refused_executed refusal told small = record {
      text = [];
      printed = tt;
      told = ap sink_reply (sym told);
      left = left;
      sound = (text, made, λ large. small (let is = sym told ∙ large_told (append_plan false objects application number at items) number large in cc));
    }

    -- each that isn't short
    pub append_refusal_executed : (fault : SinkFault) → IsSaid (says (sink_refusal_view fault)) (appended_by false objects application number at items) → is_short_reply (SinkRefused fault) ≡ false → ((version : Option ℕ) → fault ≢ faults.Lost version)
        → IsExecuted objects (task (append application number at items)) (reply_text (SinkRefused fault)) after
    append_refusal_executed faults.BadApp said enough kept = refused_executed _ said (λ wrong. cc)
    append_refusal_executed faults.TooLarge said enough kept = refused_executed _ said (λ wrong. cc)
    append_refusal_executed faults.FileTooLarge said enough kept = absurd cc
    append_refusal_executed (faults.BadLog version) said enough kept = refused_executed _ said (λ wrong. cc)
    append_refusal_executed (faults.ReadOnly fault) said enough kept = refused_executed _ said (λ wrong. cc)
    append_refusal_executed (faults.BadRow index fault) said enough kept = refused_executed _ said (λ wrong. cc)
    append_refusal_executed (faults.Stale last) said enough kept = refused_executed _ said (λ wrong. cc)
    append_refusal_executed faults.StreamClosed said enough kept = refused_executed _ said (λ wrong. cc)
    append_refusal_executed (faults.Differs name) said enough kept = refused_executed _ said (λ wrong. cc)
    append_refusal_executed (faults.SchemaChanged version) said enough kept = refused_executed _ said (λ wrong. cc)
    append_refusal_executed (faults.Contended version) said enough kept = refused_executed _ said (λ wrong. cc)
    append_refusal_executed (faults.Lost version) said enough kept = absurd (kept version refl)
    append_refusal_executed faults.Memory said enough kept = absurd cc

  module _ (left : after ≡ with_append objects (append_plan false objects application number at items)) where
    pub has_append : (answer : SinkOutcome) → appended_by false objects application number at items ≡ Ok answer → Executes objects (task (append application number at items)) (reply_text (replies.SinkTold answer)) after
    has_append answer told = inl ([], tt, answer_text answer ∙ ap sink_reply (sym told), left)

    has_refused : (refusal : SinkRefusal) → appended_by false objects application number at items ≡ Err refusal → Executes objects (task (append application number at items)) (with_newline (refused (sink_refusal_text refusal))) after
    has_refused refusal told = inl ([], tt, ap sink_reply (sym told), left)

  -- an append that is refused is told so, or of want of memory
  pub append_refusal_told : (fault : SinkFault) → IsSaid (says (sink_refusal_view fault)) (appended_by false objects application number at items) → (fault ≢ faults.Memory → after ≡ with_append objects (append_plan false objects application number at items))
      → (fault ≡ faults.Memory → MayHoldFile objects (append_plan false objects application number at items) after) → ((version : Option ℕ) → fault ≢ faults.Lost version)
      → Executes objects (task (append application number at items)) (reply_text (SinkRefused fault)) after
  append_refusal_told faults.BadApp said left short kept = has_refused (left (λ wrong. cc)) _ said
  append_refusal_told faults.TooLarge said left short kept = has_refused (left (λ wrong. cc)) _ said
  append_refusal_told faults.FileTooLarge said left short kept = has_refused (left (λ wrong. cc)) _ said
  append_refusal_told (faults.BadLog version) said left short kept = has_refused (left (λ wrong. cc)) _ said
  append_refusal_told (faults.ReadOnly fault) said left short kept = has_refused (left (λ wrong. cc)) _ said
  append_refusal_told (faults.BadRow index fault) said left short kept = has_refused (left (λ wrong. cc)) _ said
  append_refusal_told (faults.Stale last) said left short kept = has_refused (left (λ wrong. cc)) _ said
  append_refusal_told faults.StreamClosed said left short kept = has_refused (left (λ wrong. cc)) _ said
  append_refusal_told (faults.Differs name) said left short kept = has_refused (left (λ wrong. cc)) _ said
  append_refusal_told (faults.SchemaChanged version) said left short kept = has_refused (left (λ wrong. cc)) _ said
  append_refusal_told (faults.Contended version) said left short kept = has_refused (left (λ wrong. cc)) _ said
  append_refusal_told (faults.Lost version) said left short kept = absurd (kept version refl)
  append_refusal_told faults.Memory said left short kept = inr (refl, short refl)

-- ---- a close

module _ (objects : Objects) (application : List ℕ) (at : ℕ) (after : Objects) where
  module _ (left : after ≡ with_close_commit objects application at (close_plan false objects application)) where
    module _ (text : IsUtf8 application) (made : ClosesWell application at (close_plan false objects application)) where
      -- a stream that is closed, or was closed already, is told so
      pub close_executed : (answer : SinkOutcome) → stream_closed_by false objects application ≡ Ok answer → IsExecuted objects (task (close application at)) (reply_text (replies.SinkTold answer)) after
      close_executed answer told = record { text = []; printed = tt; told = ap sink_reply (sym told); left = left; sound = (text, made) }

      -- so is a refusal
      close_refused_executed : (refusal : SinkRefusal) → stream_closed_by false objects application ≡ Err refusal → IsExecuted objects (task (close application at)) (with_newline (refused (sink_refusal_text refusal))) after
      close_refused_executed refusal told = record { text = []; printed = tt; told = ap sink_reply (sym told); left = left; sound = (text, made) }

      -- each that isn't short
      pub close_refusal_executed : (fault : SinkFault) → IsSaid (says (sink_refusal_view fault)) (stream_closed_by false objects application) → is_short_reply (SinkRefused fault) ≡ false → ((version : Option ℕ) → fault ≢ faults.Lost version)
          → IsExecuted objects (task (close application at)) (reply_text (SinkRefused fault)) after
      close_refusal_executed faults.BadApp said enough kept = close_refused_executed _ said
      close_refusal_executed faults.TooLarge said enough kept = close_refused_executed _ said
      close_refusal_executed faults.FileTooLarge said enough kept = absurd cc
      close_refusal_executed (faults.BadLog version) said enough kept = close_refused_executed _ said
      close_refusal_executed (faults.ReadOnly fault) said enough kept = close_refused_executed _ said
      close_refusal_executed (faults.BadRow index fault) said enough kept = close_refused_executed _ said
      close_refusal_executed (faults.Stale last) said enough kept = close_refused_executed _ said
      close_refusal_executed faults.StreamClosed said enough kept = close_refused_executed _ said
      close_refusal_executed (faults.Differs name) said enough kept = close_refused_executed _ said
      close_refusal_executed (faults.SchemaChanged version) said enough kept = close_refused_executed _ said
      close_refusal_executed (faults.Contended version) said enough kept = close_refused_executed _ said
      close_refusal_executed (faults.Lost version) said enough kept = absurd (kept version refl)
      close_refusal_executed faults.Memory said enough kept = absurd cc

    pub has_close : (answer : SinkOutcome) → stream_closed_by false objects application ≡ Ok answer → Executes objects (task (close application at)) (reply_text (replies.SinkTold answer)) after
    has_close answer told = inl ([], tt, ap sink_reply (sym told), left)

    close_has_refused : (refusal : SinkRefusal) → stream_closed_by false objects application ≡ Err refusal → Executes objects (task (close application at)) (with_newline (refused (sink_refusal_text refusal))) after
    close_has_refused refusal told = inl ([], tt, ap sink_reply (sym told), left)

  -- a close that is refused is told so, or of want of memory
  pub close_refusal_told : (fault : SinkFault) → IsSaid (says (sink_refusal_view fault)) (stream_closed_by false objects application) → (fault ≢ faults.Memory → after ≡ with_close_commit objects application at (close_plan false objects application))
      → (fault ≡ faults.Memory → after ≡ objects) → ((version : Option ℕ) → fault ≢ faults.Lost version)
      → Executes objects (task (close application at)) (reply_text (SinkRefused fault)) after
  close_refusal_told faults.BadApp said left short kept = close_has_refused (left (λ wrong. cc)) _ said
  close_refusal_told faults.TooLarge said left short kept = close_has_refused (left (λ wrong. cc)) _ said
  close_refusal_told faults.FileTooLarge said left short kept = close_has_refused (left (λ wrong. cc)) _ said
  close_refusal_told (faults.BadLog version) said left short kept = close_has_refused (left (λ wrong. cc)) _ said
  close_refusal_told (faults.ReadOnly fault) said left short kept = close_has_refused (left (λ wrong. cc)) _ said
  close_refusal_told (faults.BadRow index fault) said left short kept = close_has_refused (left (λ wrong. cc)) _ said
  close_refusal_told (faults.Stale last) said left short kept = close_has_refused (left (λ wrong. cc)) _ said
  close_refusal_told faults.StreamClosed said left short kept = close_has_refused (left (λ wrong. cc)) _ said
  close_refusal_told (faults.Differs name) said left short kept = close_has_refused (left (λ wrong. cc)) _ said
  close_refusal_told (faults.SchemaChanged version) said left short kept = close_has_refused (left (λ wrong. cc)) _ said
  close_refusal_told (faults.Contended version) said left short kept = close_has_refused (left (λ wrong. cc)) _ said
  close_refusal_told (faults.Lost version) said left short kept = absurd (kept version refl)
  close_refusal_told faults.Memory said left short kept = inr (refl, short refl)
