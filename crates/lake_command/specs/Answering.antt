-- What an answer to a job tells and leaves: over a steady folder, of what stays, and by the words and the input.
use Rattle.std.specs.Prelude.{◌≡◌, ◌⊎◌, ℕ, Bool, false, List, Option, Some, Result, IfErr, IfOk, IsErrAnd, IsOkAnd}
use Rattle.store_core.specs.Objects.{AreBytes, Objects, object_at}
use Rattle.lake_script.specs.ReplyView.{reply_text}
use Rattle.lake_script.specs.SoundStores.{IsSoundStore}
use Rattle.lake_script.specs.Told.{not_yet}
use Rattle.lake_script.specs.declared.reply.LineReply.{LineReply}
use Rattle.lake_words.specs.Asked.{Work}
use Rattle.lake_command.specs.Counts.{IsRowCount}
use Rattle.lake_command.specs.Failures.{FailureComesOfACall, IsByFolder, IsOfInput, Leaves}
use Rattle.lake_command.specs.Folders.{IsJobAnswer, IsMiscounted, IsNotYet, JobMayLeave, reads_input}
use Rattle.lake_command.specs.declared.failure.Failure.{Failure}

-- What comes of a job over a steady folder whose checkpoints are sound, or with all commits read.
pub record IsAnswerOver (outcome : Result LineReply Failure) (work : Work) (text : Option (List ℕ)) (old new : Objects) (faults_old faults_new : ℕ) : Type 0 where
  -- The reply and what the folder then holds are those of the same line of a script over the folder's objects.
  pub told : IfOk outcome (λ reply. IsJobAnswer work text old (reply_text reply) new)
  -- A fault of the words or of the input leaves the folder as it was. Where the table isn't saved whole, it holds what
  -- the job put, or its data file alone, or nothing of it; an object that isn't saved is one that the job puts where
  -- nothing stood, and a call of the folder failed then.
  pub failed : IfErr outcome (λ failure. Leaves failure work text old new)
  pub alone : FailureComesOfACall outcome faults_old faults_new
  -- However it ends, such a folder holds what it had, or what the job may put, well made: all of it, or its data file
  -- alone.
  pub puts : JobMayLeave work text old new

-- What a steady folder keeps, however a job ends.
pub record KeepsFolder (stays_steady : Type 0) (old new : Objects) : Type 0 where
  -- A sound table stays sound: it has all that the job put, or its data file alone, or nothing of it.
  pub sound : AreBytes old → IsSoundStore old → IsSoundStore new
  -- Whatever happens, what stood stands.
  pub kept : (name bytes : List ℕ) → object_at old name ≡ Some bytes → object_at new name ≡ Some bytes
  pub steady : stays_steady

-- What comes of a job by its words and its input, before the folder is looked at.
pub record GoesByInput {F I : Type 0} (outcome : Result LineReply Failure) (work : Work) (text : Option (List ℕ)) (is_broken : Bool) (folder_old folder_new : F) (input_old input_new : I) (count : ℕ) : Type 0 where
  -- The folder isn't touched where the words or the input are refused.
  pub first : IfErr outcome (λ failure. IsByFolder failure ⊎ (folder_new ≡ folder_old))
  -- An append whose input has another count of lines than its words say is refused for its words or its input.
  pub counted : IsMiscounted work text → IsErrAnd outcome (λ failure. IsOfInput failure work text is_broken)
  -- A job but `append` leaves the input alone.
  pub input_untouched : reads_input work ≡ false → input_new ≡ input_old
  -- What isn't there yet is told as such, without a look at the folder.
  pub later : IsNotYet work → IsOkAnd outcome (λ reply. reply_text reply ≡ not_yet) × (folder_new ≡ folder_old)
  -- Where a reply comes of an append, the count that is set is that of its rows.
  pub rows : IfOk outcome (λ _. IsRowCount work text count)
