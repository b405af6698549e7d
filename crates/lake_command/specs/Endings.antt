-- How a job on the table in a folder ends: what comes of it, what is told and where, and the exit status.
use Rattle.std.specs.Prelude.{◌≡◌, ◌⊎◌, ◌≤◌, ◌||◌, ℕ, Bool, true, false, List, Option, Some, None, Result, Ok, Err, IfErr, IfOk, IfSome, if◌then◌else◌, length}
use Rattle.std.specs.Io.KnownBytes.{Appends}
use Rattle.clap.specs.declared.error.kind.ErrorKind.{ErrorKind}
use Rattle.store_core.specs.Objects.{Objects}
use Rattle.table_folder.specs.Traces.{FolderCall, Traced}
use Rattle.lake_script.specs.ReplyView as replies
use Rattle.lake_script.specs.ReplyView.{reply_text}
use Rattle.lake_script.specs.Streams.{held, write_failed, WritesFront}
use Rattle.lake_script.specs.declared.inputs.TheConstants.{MOST_READS}
use Rattle.lake_script.specs.declared.outputs.Output.{Output}
use Rattle.lake_script.specs.declared.outputs.OutputError.{OutputError}
use Rattle.lake_script.specs.declared.outputs.OutputError.TheVariants as outputs
use Rattle.lake_script.specs.declared.reply.LineReply.{LineReply}
use Rattle.lake_words.specs.Asked.{Work}
use Rattle.lake_hints.specs.ErrorOutputs.{TellsText, TellsSome}
use Rattle.lake_hints.specs.Notes.{is_noted}
use Rattle.lake_hints.specs.declared.error_output.ErrorOutput.{ErrorOutput}
use Rattle.lake_command.specs.Again.{RanAsAsked}
use Rattle.lake_command.specs.Answering.{IsAnswerOver}
use Rattle.lake_command.specs.Counts.{IsRowCount}
use Rattle.lake_command.specs.ErrorTexts.{IsErrText, IsUnwrittenTold, failure_line}
use Rattle.lake_command.specs.Failures.{HasCause, IsCaused, failure_text}
use Rattle.lake_command.specs.Folders.{IsMiscounted, reads_input}
use Rattle.lake_command.specs.Status.{IsStatusOf, is_want_of_memory, refuses, status_of_failure}
use Rattle.lake_command.specs.declared.exit.Exit.{Exit}
use Rattle.lake_command.specs.declared.failure.Failure.{Failure}
use Rattle.lake_command.specs.declared.failure.Failure.TheVariants.{BadLine, Memory}
use Rattle.outcomes.specs.Lines.{with_newline}

-- what is told where replies go: a reply, a bad line, or that no room was left for the input or its rows; all else goes
-- to standard error
abbrev pub output_of : Result LineReply Failure → Option (List ℕ)
output_of (Ok reply) = Some (reply_text reply)
output_of (Err (BadLine number flaw)) = Some (with_newline (failure_text (BadLine number flaw)))
output_of (Err Memory) = Some (with_newline (failure_text Memory))
output_of (Err _) = None

-- 0 where a job is done, 1 where its reply refuses it, and the status of a failure where it has no reply
abbrev pub status_of_outcome : Work → Result LineReply Failure → ℕ
status_of_outcome work (Ok reply) = if refuses work reply then 1 else 0
status_of_outcome work (Err failure) = status_of_failure failure

-- a growth was refused, or an object would pass 64 MiB
abbrev pub is_short_outcome : Result LineReply Failure → Bool
is_short_outcome (Ok reply) = replies.is_short_reply reply
is_short_outcome (Err failure) = is_want_of_memory failure

-- Something may be told on standard error beside a text that is told where replies go: of a refusal what it means, of a bad
-- line what is wrong with it, and of a job that is done, and had so many rows, what its caller may not have meant.
abbrev pub is_explained : Work → (rows : ℕ) → Result LineReply Failure → Bool
is_explained work rows (Ok reply) = refuses work reply || is_noted work rows
is_explained work rows (Err Memory) = true
is_explained work rows (Err (BadLine number flaw)) = true
is_explained work rows (Err _) = false

-- With a text: it is on the output, behind what was there, and standard error is as it was unless something is told
-- there. Without one the output is as it was.
abbrev pub IsTextWritten : {W E : Type 0} → (W → Option (List ℕ)) → Option (List ℕ) → (is_explained : Bool) → (old new : Output W) → (err_old err_new : ErrorOutput E) → Type 0
IsTextWritten contents (Some text) is_explained old new err_old err_new = Appends (held contents old) (contents new.writer) text × (is_explained ≡ false → err_new ≡ err_old)
IsTextWritten contents None is_explained old new err_old err_new = new ≡ old

-- What came of a job, which had so many rows, is told on both outputs, and the status is its own.
pub record IsToldWhole {W E : Type 0} (contents : W → Option (List ℕ)) (contents_err : E → Option (List ℕ)) (work : Work) (rows : ℕ) (outcome : Result LineReply Failure) (old new : Output W) (err_old err_new : ErrorOutput E) (exit : Exit) : Type 0 where
  pub written : IsTextWritten contents (output_of outcome) (is_explained work rows outcome) old new err_old err_new
  pub err_told : TellsSome contents_err (IsErrText work rows outcome) err_old err_new
  pub status : exit.status ≡ status_of_outcome work outcome
  pub short : exit.is_short ≡ is_short_outcome outcome

-- What came of a job isn't told, or not to its end: a write failed or a growth was refused, which is told on standard error, and
-- the status is 1.
pub record IsUntold {W E : Type 0} (contents : W → Option (List ℕ)) (contents_err : E → Option (List ℕ)) (outcome : Result LineReply Failure) (old new : Output W) (err_old err_new : ErrorOutput E) (exit : Exit) : Type 0 where
  pub text : List ℕ
  pub meant : output_of outcome ≡ Some text
  pub front : WritesFront (held contents old) (contents new.writer) text
  pub err_told : TellsSome contents_err IsUnwrittenTold err_old err_new
  pub cause : (write_failed new ≡ true) ⊎ (exit.is_short ≡ true)
  pub status : exit.status ≡ 1

abbrev pub EndsWith : {W E : Type 0} → (W → Option (List ℕ)) → (E → Option (List ℕ)) → Work → (rows : ℕ) → Result LineReply Failure → (old new : Output W) → (err_old err_new : ErrorOutput E) → Exit → Type 0
EndsWith contents contents_err work rows outcome old new err_old err_new exit =
    IsToldWhole contents contents_err work rows outcome old new err_old err_new exit ⊎ IsUntold contents contents_err outcome old new err_old err_new exit

-- the line of a failure is told where it belongs
pub record IsLineTold {W E : Type 0} (contents : W → Option (List ℕ)) (contents_err : E → Option (List ℕ)) (failure : Failure) (old new : Output W) (err_old err_new : ErrorOutput E) : Type 0 where
  pub written : IsTextWritten contents (output_of (Err failure)) true old new err_old err_new
  pub err_told : TellsText contents_err err_old err_new (failure_line failure)

-- or not to its end on the output, where it is told
pub record IsLineUntold {W E : Type 0} (contents : W → Option (List ℕ)) (failure : Failure) (old new : Output W) (err_old err_new : ErrorOutput E) : Type 0 where
  pub meant : output_of (Err failure) ≡ Some (with_newline (failure_text failure))
  pub front : WritesFront (held contents old) (contents new.writer) (with_newline (failure_text failure))
  pub silent : err_new ≡ err_old

-- a growth was refused
abbrev pub is_growth_refused : OutputError → Bool
is_growth_refused outputs.Memory = true
is_growth_refused outputs.Broken = false

-- However a job on the table in a folder ends, there is a reply, or a failure that has its cause. It is told where it
-- belongs, and on standard error what it means and what to do, with its status, or a write failed or a growth was
-- refused, which is told there, and the status is 1.
pub record EndsTableJob {W E : Type 0} (contents : W → Option (List ℕ)) (contents_err : E → Option (List ℕ)) (is_well : Type 0) (made : List FolderCall → Type 0) (use_checkpoints : Bool) (work : Work) (text : Option (List ℕ)) (is_broken : Bool) (objects_old objects_new : Objects) (faults_old faults_new : ℕ) (old new : Output W) (err_old err_new : ErrorOutput E) (exit : Exit) : Type 0 where
  pub outcome : Result LineReply Failure
  pub rows : ℕ
  pub rows_counted : IfOk outcome (λ _. IsRowCount work text rows)
  -- Over a steady folder whose checkpoints are sound, or with all commits read, it is the answer, or leaves what it
  -- may.
  pub over : is_well → IsAnswerOver outcome work text objects_old objects_new faults_old faults_new
  pub caused : IsCaused outcome work text is_broken faults_old faults_new
  -- Over any folder it is what runs of what the words ask for tell.
  pub ran : RanAsAsked made work text is_broken use_checkpoints faults_old faults_new outcome
  pub told : EndsWith contents contents_err work rows outcome old new err_old err_new exit

-- The status is that of words or of an input that can't be read, unless a read or a write failed, the input may have taken
-- too many reads, or memory ran out.
abbrev pub IsMisused : (text : Option (List ℕ)) → (is_broken is_unwritten : Bool) → Exit → Type 0
IsMisused text is_broken is_unwritten exit =
    (exit.status ≡ 2) ⊎ ((exit.is_short ≡ true) ⊎ ((is_broken ≡ true) ⊎ ((is_unwritten ≡ true) ⊎ IfSome text (λ bytes. MOST_READS ≤ length bytes))))

-- these calls were made of a folder of that path, which had counted no fault before them, and so many behind them
abbrev pub AreCallsAt : {F : Type 0} → (path_of : F → List ℕ) → (count_of : F → ℕ) → (makes : F → FolderCall → F → Type 0) → (path : List ℕ) → (faults : ℕ) → List FolderCall → Type 0
AreCallsAt {F} path_of count_of makes path faults calls = (old new : F) × (path_of old ≡ path) × (count_of old ≡ 0) × (count_of new ≡ faults) × Traced makes old calls new

-- What comes of a job, some reply or a failure, is told; a failure has its cause in the words or the input, or comes
-- from the folder, and what is told is what runs of what the words ask for tell, by calls of the folder of which this holds,
-- with the count of its faults by then.
pub record IsJobTold {W E : Type 0} (contents : W → Option (List ℕ)) (contents_err : E → Option (List ℕ)) (made : (faults : ℕ) → List FolderCall → Type 0) (use_checkpoints : Bool) (work : Work) (text : Option (List ℕ)) (is_broken : Bool) (old new : Output W) (err_old err_new : ErrorOutput E) (exit : Exit) : Type 0 where
  pub outcome : Result LineReply Failure
  pub rows : ℕ
  pub rows_counted : IfOk outcome (λ _. IsRowCount work text rows)
  pub cause : IfErr outcome (λ failure. HasCause failure work text is_broken)
  pub faults : ℕ
  pub ran : RanAsAsked (made faults) work text is_broken use_checkpoints 0 faults outcome
  pub told : EndsWith contents contents_err work rows outcome old new err_old err_new exit

-- or memory ran out, and nothing more is said
abbrev pub TellsJob : {W E : Type 0} → (W → Option (List ℕ)) → (E → Option (List ℕ)) → (made : (faults : ℕ) → List FolderCall → Type 0) → (use_checkpoints : Bool) → Work → (text : Option (List ℕ)) → (is_broken : Bool) → (old new : Output W) → (err_old err_new : ErrorOutput E) → Exit → Type 0
TellsJob contents contents_err made use_checkpoints work text is_broken old new err_old err_new exit =
    ((exit.status ≡ 1) × (exit.is_short ≡ true)) ⊎ IsJobTold contents contents_err made use_checkpoints work text is_broken old new err_old err_new exit

-- How a job ends on the table in a folder of the disk. What it leaves there isn't claimed.
pub record EndsDiskJob {W E I : Type 0} (contents : W → Option (List ℕ)) (contents_err : E → Option (List ℕ)) (made : (faults : ℕ) → List FolderCall → Type 0) (use_checkpoints : Bool) (work : Work) (text : Option (List ℕ)) (is_broken : Bool) (input_old input_new : I) (old new : Output W) (err_old err_new : ErrorOutput E) (exit : Exit) : Type 0 where
  -- What comes of it is told where it belongs, with its status, and a failure of the words or the input has its cause
  -- there, unless memory runs out; all else is what runs of what the words ask for tell, over the folder that they name.
  pub job : TellsJob contents contents_err made use_checkpoints work text is_broken old new err_old err_new exit
  -- An append whose input has another count of lines than its words say has the status 2, by the same rule.
  pub counted : IsMiscounted work text → IsMisused text is_broken (write_failed new) exit
  pub input_untouched : reads_input work ≡ false → input_new ≡ input_old

-- Words that can't be read have the status of what is wrong with them, and run nothing.
pub record AreMisread {W I : Type 0} (kinds : List ErrorKind) (input_old input_new : I) (old new : Output W) (exit : Exit) : Type 0 where
  pub misused : IsStatusOf kinds exit.status exit.is_short
  pub unread : (input_new ≡ input_old) × (new ≡ old)
