-- How what comes of a job is told.
use Rattle.std.proofs.Common.{◌≡◌, ◌⊎◌, ◌∙◌, inl, inr, ℕ, Bool, true, false, List, Option, Some, None, Ok, Err, ap, refl, subst}
use Rattle.std.specs.Prelude.{◌||◌, if◌then◌else◌}
use Rattle.std.specs.Io.KnownBytes.{Appends}
use Rattle.outcomes.specs.Lines.{with_newline}
use Rattle.table_folder.specs.declared.fault.LoadFault.TheVariants as loads
use Rattle.lake_script.specs.ReplyView as replies
use Rattle.lake_script.specs.ReplyView.{reply_text}
use Rattle.lake_script.specs.Streams.{held, write_failed}
use Rattle.lake_script.specs.declared.outputs.Output.{Output}
use Rattle.lake_script.specs.declared.outputs.OutputError.{OutputError}
use Rattle.lake_script.specs.declared.outputs.OutputError.TheVariants.{Broken, Memory}
use Rattle.lake_script.specs.declared.reply.LineReply.{LineReply}
use Rattle.lake_words.specs.Asked.{Work}
use Rattle.lake_hints.specs.ErrorOutputs.{AreInTurn, TellsSome}
use Rattle.lake_hints.specs.Hints.{IsRefusalHint}
use Rattle.lake_hints.specs.Meanings.{IsMeaningOf}
use Rattle.lake_hints.specs.Notes.{IsNoteOf, is_noted}
use Rattle.lake_hints.specs.declared.error_output.ErrorOutput.{ErrorOutput}
use Rattle.lake_hints.proofs.Callers.{told_behind, told_in_turn}
use Rattle.lake_command.specs.Codes.{code_in}
use Rattle.lake_command.specs.Endings.{EndsWith, IsLineTold, IsLineUntold, IsTextWritten, is_explained, is_growth_refused, output_of}
use Rattle.lake_command.specs.ErrorTexts.{IsBesideReply, IsErrText, IsMeaningIn, IsUnwrittenTold, failure_hint, failure_line, is_told_as_reply}
use Rattle.lake_command.specs.Failures.{failure_text}
use Rattle.lake_command.specs.Status.{is_want_of_memory, refuses, status_of_failure}
use Rattle.lake_command.specs.declared.exit.Exit.{Exit}
use Rattle.lake_command.specs.declared.failure.Failure.{Failure}
use Rattle.lake_command.specs.declared.failure.Failure.TheVariants as failures

-- ---- where a failure is told

-- on the output
pub as_reply : (failure : Failure) → is_told_as_reply failure ≡ true → output_of (Err failure) ≡ Some (with_newline (failure_text failure))
as_reply (failures.BadLine number flaw) is = refl
as_reply failures.Memory is = refl
as_reply failures.Misused is = let no = is in cc
as_reply failures.NotRead is = let no = is in cc
as_reply (failures.Miscounted rows found) is = let no = is in cc
as_reply (failures.Loading fault) is = let no = is in cc
as_reply (failures.Saving fault) is = let no = is in cc

-- on standard error
pub not_as_reply : (failure : Failure) → is_told_as_reply failure ≡ false → output_of (Err failure) ≡ None
not_as_reply (failures.BadLine number flaw) is = let no = is in cc
not_as_reply failures.Memory is = let no = is in cc
not_as_reply failures.Misused is = refl
not_as_reply failures.NotRead is = refl
not_as_reply (failures.Miscounted rows found) is = refl
not_as_reply (failures.Loading fault) is = refl
not_as_reply (failures.Saving fault) is = refl

-- ---- why what comes of a job isn't told

pub cause_of : (error : OutputError) (was_short is_short : Bool) {P : Type 0} → is_short ≡ (was_short || is_growth_refused error) → (error ≡ Broken → P) → P ⊎ (is_short ≡ true)
cause_of Broken was_short is_short short broken = inl (broken refl)
cause_of Memory true is_short short broken = inr short
cause_of Memory false is_short short broken = inr short

-- ---- where something is told beside a reply

right_false : (a b : Bool) → (a || b) ≡ false → b ≡ false
right_false false b none = none
right_false true b none = absurd cc

left_true : (a b : Bool) → true ≡ a → (a || b) ≡ false → ⊥
left_true true b is none = cc
left_true false b is none = cc

module _ {W E : Type 0} (contents : W → Option (List ℕ)) (contents_err : E → Option (List ℕ)) where
  -- ---- a failure

  -- what stands on the output stays, whatever is told behind it
  written_behind : (work : Work) (rows : ℕ) (failure : Failure) (old new : Output W) (err_old between err_new : ErrorOutput E) → IsTextWritten contents (output_of (Err failure)) true old new err_old between
      → IsTextWritten contents (output_of (Err failure)) (is_explained work rows (Err failure)) old new err_old err_new
  written_behind work rows (failures.BadLine number flaw) old new err_old between err_new written = (written.0, λ no. absurd cc)
  written_behind work rows failures.Memory old new err_old between err_new written = (written.0, λ no. absurd cc)
  written_behind work rows failures.Misused old new err_old between err_new written = written
  written_behind work rows failures.NotRead old new err_old between err_new written = written
  written_behind work rows (failures.Miscounted said found) old new err_old between err_new written = written
  written_behind work rows (failures.Loading fault) old new err_old between err_new written = written
  written_behind work rows (failures.Saving fault) old new err_old between err_new written = written

  -- a failure is told
  pub failure_told : (work : Work) (rows : ℕ) (failure : Failure) (old new : Output W) (err_old between err_new : ErrorOutput E) (exit : Exit) → IsLineTold contents contents_err failure old new err_old between
      → TellsSome contents_err (AreInTurn (IsMeaningIn (code_in failure)) (λ hint. hint ≡ failure_hint failure)) between err_new → exit.status ≡ status_of_failure failure → exit.is_short ≡ is_want_of_memory failure
      → EndsWith contents contents_err work rows (Err failure) old new err_old err_new exit
  failure_told work rows failure old new err_old between err_new exit line rest status short = inl (record {
    written = written_behind work rows failure old new err_old between err_new line.written;
    err_told = told_behind contents_err _ err_old between err_new (failure_line failure) line.err_told rest;
    status = status;
    short = short;
  })

  -- or isn't, where its line goes to the output
  pub failure_untold : (work : Work) (rows : ℕ) (failure : Failure) (old new : Output W) (err_old between err_new : ErrorOutput E) (exit : Exit) → IsLineUntold contents failure old new err_old between
      → TellsSome contents_err IsUnwrittenTold between err_new → (write_failed new ≡ true) ⊎ (exit.is_short ≡ true) → exit.status ≡ 1 → EndsWith contents contents_err work rows (Err failure) old new err_old err_new exit
  failure_untold work rows failure old new err_old between err_new exit line told cause status = inr (record {
    text = with_newline (failure_text failure);
    meant = line.meant;
    front = line.front;
    err_told = subst (λ (err : ErrorOutput E). TellsSome contents_err IsUnwrittenTold err err_new) line.silent told;
    cause = cause;
    status = status;
  })

  -- ---- a reply

  -- what is told beside one, by whether it refuses the job
  beside_reply : (work : Work) (rows : ℕ) (reply : LineReply) (is : Bool) (err_old err_new : ErrorOutput E) → is ≡ refuses work reply → TellsSome contents_err (IsBesideReply work rows reply is) err_old err_new
      → TellsSome contents_err (IsErrText work rows (Ok reply)) err_old err_new
  beside_reply work rows reply is err_old err_new same told = subst (λ (b : Bool). TellsSome contents_err (IsBesideReply work rows reply b) err_old err_new) same told

  -- one that doesn't is told
  pub reply_told : (work : Work) (rows : ℕ) (reply : LineReply) (old new : Output W) (err_old err_new : ErrorOutput E) (exit : Exit) → false ≡ refuses work reply
      → Appends (held contents old) (contents new.writer) (reply_text reply) → (is_noted work rows ≡ false → err_new ≡ err_old) → TellsSome contents_err (IsNoteOf work rows) err_old err_new
      → exit.status ≡ 0 → exit.is_short ≡ replies.is_short_reply reply → EndsWith contents contents_err work rows (Ok reply) old new err_old err_new exit
  reply_told work rows reply old new err_old err_new exit not_refused told silent noted status short = inl (record {
    written = (told, λ none. silent (right_false (refuses work reply) (is_noted work rows) none));
    err_told = beside_reply work rows reply false err_old err_new not_refused noted;
    status = status ∙ ap (λ (b : Bool). if b then 1 else 0) not_refused;
    short = short;
  })

  -- one that does is told, and explained
  pub refusal_told : (work : Work) (rows : ℕ) (reply : LineReply) (old new : Output W) (err_old between err_new : ErrorOutput E) (exit : Exit) → true ≡ refuses work reply
      → Appends (held contents old) (contents new.writer) (reply_text reply) → TellsSome contents_err (IsMeaningOf (reply_text reply)) err_old between → TellsSome contents_err (IsRefusalHint reply work rows) between err_new
      → exit.status ≡ 1 → exit.is_short ≡ replies.is_short_reply reply → EndsWith contents contents_err work rows (Ok reply) old new err_old err_new exit
  refusal_told work rows reply old new err_old between err_new exit refused told meaning hint status short = inl (record {
    written = (told, λ none. absurd (left_true (refuses work reply) (is_noted work rows) refused none));
    err_told = beside_reply work rows reply true err_old err_new refused (told_in_turn contents_err (IsMeaningOf (reply_text reply)) (IsRefusalHint reply work rows) err_old between err_new meaning hint);
    status = status ∙ ap (λ (b : Bool). if b then 1 else 0) refused;
    short = short;
  })

  -- want of memory for the folder itself says that it is short
  pub short_told : (work : Work) (rows : ℕ) (old new : Output W) (err_old err_new : ErrorOutput E) (exit : Exit) → EndsWith contents contents_err work rows (Err (failures.Loading loads.Memory)) old new err_old err_new exit → (exit.status ≡ 1) × (exit.is_short ≡ true)
  short_told work rows old new err_old err_new exit (inl told) = (told.status, told.short)
  short_told work rows old new err_old err_new exit (inr untold) = let none = untold.meant in cc
