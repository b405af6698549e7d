-- What is told of a check.
use Rattle.std.proofs.Common.{◌≡◌, ◌⊎◌, ◌++◌, ◌∙◌, inl, inr, ℕ, List, [], Option, Result, Ok, Err, true, ap, refl, subst, sym, append-nil, append_assoc, codes}
use Rattle.std.specs.Prelude.{IfErr, IfOk, String, Vec, map, string_bytes}
use Rattle.std.specs.declared.alloc.Global.{Global}
use Rattle.table_folder.specs.declared.fault.LoadFault.{LoadFault}
use Rattle.table_folder.specs.declared.fault.LoadFault.TheVariants.{NotLoaded, Memory}
use Rattle.store_core.specs.Calls.{HasRisen}
use Rattle.store_core.specs.Objects.{Objects}
use Rattle.table_audit.specs.LargeFiles.{HasLargeFile}
use Rattle.table_audit.specs.Verdicts.{IsVerdictOf}
use Rattle.table_audit.specs.declared.verdict.Verdict.{Verdict}
use Rattle.folder_check.specs.Beside.{AreBeside}
use Rattle.folder_check.specs.Faults.{ComesOfACall, CheckTellsNoFile}
use Rattle.folder_check.specs.declared.fault.CheckFault.{CheckFault}
use Rattle.folder_check.specs.declared.fault.CheckFault.TheVariants.{Folder}
use Rattle.lake_script.specs.declared.outputs.Output.{Output}
use Rattle.lake_words.specs.Asked.{Work}
use Rattle.lake_hints.specs.ErrorOutputs.{AreInTurn, TellsText, TellsSome}
use Rattle.lake_hints.specs.Meanings.{IsMeaning}
use Rattle.lake_hints.specs.declared.error_output.ErrorOutput.{ErrorOutput}
use Rattle.lake_hints.proofs.Callers.{told_on}
use Rattle.lake_command.specs.Checks.{IsBeside, IsJudged, IsNothing, IsOfTooLarge, IsOfVerdict, IsTextTold, IsTextUntold, IsUnjudged, code_of_verdict, status_of_verdict, too_large_text}
use Rattle.lake_command.specs.Endings.{EndsWith}
use Rattle.lake_command.specs.ErrorTexts.{IsBesideTold, IsFailureTold, IsMeaningIn, IsUnwrittenTold}
use Rattle.lake_command.specs.declared.exit.Exit.{Exit}
use Rattle.lake_command.specs.declared.failure.Failure.TheVariants.{Loading}

-- two lines, put together in two ways
pub two_lines : (words number why newline : List ℕ) → words ++ (number ++ (newline ++ (why ++ newline))) ≡ ((words ++ number) ++ newline) ++ (why ++ newline)
two_lines words number why newline = sym (append_assoc (words ++ number) newline (why ++ newline) ∙ append_assoc words number (newline ++ (why ++ newline)))

-- what is told of what lies beside a table, where it is what lies there
pub beside_told : (is_steady : Type 0) (objects : Objects) (beside : Result (Vec (String Global) Global) CheckFault) (text : List ℕ) → IfErr beside CheckTellsNoFile
    → (is_steady → IfOk beside (λ lines. AreBeside objects (map string_bytes lines.items))) → IsBeside beside text → IsBesideTold is_steady objects text
beside_told is_steady objects (Ok lines) text no_file lies is = inl (map string_bytes lines.items, lies, is)
beside_told is_steady objects (Err fault) text no_file lies is = inr (fault, no_file, is)

-- so it is behind another text
beside_told_behind : (is_steady : Type 0) (objects : Objects) (beside : Result (Vec (String Global) Global) CheckFault) (P : List ℕ → Type 0) (text : List ℕ) → IfErr beside CheckTellsNoFile
    → (is_steady → IfOk beside (λ lines. AreBeside objects (map string_bytes lines.items))) → AreInTurn P (IsBeside beside) text → AreInTurn P (IsBesideTold is_steady objects) text
beside_told_behind is_steady objects beside P text no_file lies (front, rest, first, second, parts) = (front, rest, first, beside_told is_steady objects beside rest no_file lies second, parts)

module _ {W E : Type 0} (contents : W → Option (List ℕ)) (contents_err : E → Option (List ℕ)) where
  cut_weaker : (P Q : List ℕ → Type 0) (old new : Output W) (exit : Exit) → ((text : List ℕ) → P text → Q text) → IsTextUntold contents P old new exit → IsTextUntold contents Q old new exit
  cut_weaker P Q old new exit weaker (inl cut) = inl (cut.0, weaker cut.0 cut.1, cut.2, cut.3, cut.4)
  cut_weaker P Q old new exit weaker (inr none) = inr none

  -- a text that is told is one for which something weaker holds
  pub text_weaker : (P Q R : List ℕ → Type 0) (status : ℕ) (old new : Output W) (err_old err_new : ErrorOutput E) (exit : Exit)
      → ((text : List ℕ) → P text → Q text) → IsTextTold contents contents_err P R status old new err_old err_new exit → IsTextTold contents contents_err Q R status old new err_old err_new exit
  text_weaker P Q R status old new err_old err_new exit weaker (inl (told, beside)) = inl ((told.0, weaker told.0 told.1, told.2, told.3), beside)
  text_weaker P Q R status old new err_old err_new exit weaker (inr (untold, beside)) = inr (cut_weaker P Q old new exit weaker untold, beside)

  -- so is one that stands on standard error
  pub beside_weaker : (P Q R : List ℕ → Type 0) (status : ℕ) (old new : Output W) (err_old err_new : ErrorOutput E) (exit : Exit)
      → ((text : List ℕ) → Q text → R text) → IsTextTold contents contents_err P Q status old new err_old err_new exit → IsTextTold contents contents_err P R status old new err_old err_new exit
  beside_weaker P Q R status old new err_old err_new exit weaker (inl (told, (text, is, tells))) = inl (told, (text, weaker text is, tells))
  beside_weaker P Q R status old new err_old err_new exit weaker (inr (untold, (text, (front, rest, first, second, parts), tells))) =
      inr (untold, (text, (front, rest, first, weaker rest second, parts), tells))

  -- a text isn't told, and nothing is to be told beside it
  pub untold_alone : (P : List ℕ → Type 0) (status : ℕ) (old new : Output W) (err_old err_new : ErrorOutput E) (exit : Exit)
      → IsTextUntold contents P old new exit → TellsSome contents_err IsUnwrittenTold err_old err_new → IsTextTold contents contents_err P IsNothing status old new err_old err_new exit
  untold_alone P status old new err_old err_new exit untold told = inr (untold, (told.0, (told.0, [], told.1, refl, sym (append-nil told.0)), told.2))

  -- what is told beside a text is told behind it
  pub told_then : (P Q : List ℕ → Type 0) (status : ℕ) (old new : Output W) (err_old between err_new : ErrorOutput E) (exit : Exit)
      → IsTextTold contents contents_err P IsNothing status old new err_old between exit → TellsSome contents_err Q between err_new → IsTextTold contents contents_err P Q status old new err_old err_new exit
  told_then P Q status old new err_old between err_new exit (inl (told, (text, none, tells))) rest =
      inl (told, (rest.0, rest.1, subst (λ (front : List ℕ). TellsText contents_err err_old err_new (front ++ rest.0)) none (told_on contents_err err_old between err_new text rest.0 tells rest.2)))
  told_then P Q status old new err_old between err_new exit (inr (untold, (text, (front, nothing, first, none, parts), tells))) rest =
      inr (
        untold,
        (
          front ++ rest.0,
          (front, rest.0, first, rest.1, refl),
          subst (λ (begins : List ℕ). TellsText contents_err err_old err_new (begins ++ rest.0)) (parts ∙ ap (λ (x : List ℕ). front ++ x) none ∙ append-nil front) (told_on contents_err err_old between err_new text rest.0 tells rest.2),
        ),
      )

  -- a verdict is told, what it means, and what lies beside the table
  pub judged : (is_steady : Type 0) (objects : Objects) (verdict : Verdict) (beside : Result (Vec (String Global) Global) CheckFault) (old new : Output W) (err_old err_new : ErrorOutput E) (exit : Exit)
      → (is_steady → IsVerdictOf objects verdict) → IfErr beside CheckTellsNoFile → (is_steady → IfOk beside (λ lines. AreBeside objects (map string_bytes lines.items)))
      → IsTextTold contents contents_err (IsOfVerdict verdict) (AreInTurn (IsMeaningIn (code_of_verdict verdict)) (IsBeside beside)) (status_of_verdict verdict) old new err_old err_new exit → IsJudged contents contents_err is_steady objects old new err_old err_new exit
  judged is_steady objects verdict beside old new err_old err_new exit is no_file lies told =
      let meaning = IsMeaningIn (code_of_verdict verdict) in
      (verdict, is, beside_weaker (IsOfVerdict verdict) (AreInTurn meaning (IsBeside beside)) (AreInTurn meaning (IsBesideTold is_steady objects)) (status_of_verdict verdict) old new err_old err_new exit (λ text. beside_told_behind is_steady objects beside meaning text no_file lies) told)

  -- a data file that is told as too large leaves no verdict
  pub large_unjudged : (is_steady : Type 0) (objects : Objects) (name told : List ℕ) (faults_old faults_new : ℕ) (old new : Output W) (err_old err_new : ErrorOutput E) (exit : Exit)
      → told ≡ name → (is_steady → HasLargeFile objects name) → IsTextTold contents contents_err (λ text. text ≡ too_large_text told) (IsMeaning (codes "P9")) 1 old new err_old err_new exit
      → IsUnjudged contents contents_err is_steady objects faults_old faults_new old new err_old err_new exit
  large_unjudged is_steady objects name told faults_old faults_new old new err_old err_new exit same large is =
      inl (text_weaker _ (IsOfTooLarge is_steady objects) (IsMeaning (codes "P9")) 1 old new err_old err_new exit (λ text is_text. (name, is_text ∙ ap too_large_text same, large)) is)

  -- where the folder fails nothing is told on the output
  pub folder_unjudged : {Told : Type 0} (work : Work) (rows : ℕ) (fault : LoadFault) (faults_old faults_new : ℕ) (old new : Output W) (err_old err_new : ErrorOutput E) (exit : Exit)
      → ComesOfACall faults_old faults_new (Folder fault) → EndsWith contents contents_err work rows (Err (Loading fault)) old new err_old err_new exit
      → Told ⊎ ((new ≡ old) × (exit.status ≡ 1) × (HasRisen faults_old faults_new ⊎ (exit.is_short ≡ true)) × ((cause : LoadFault) × TellsSome contents_err (IsFailureTold (Loading cause)) err_old err_new))
  folder_unjudged work rows (NotLoaded name reason) faults_old faults_new old new err_old err_new exit rose (inl told) = inr (told.written, told.status, inl rose, (NotLoaded name reason, told.err_told))
  folder_unjudged work rows (NotLoaded name reason) faults_old faults_new old new err_old err_new exit rose (inr untold) = let none = untold.meant in cc
  folder_unjudged work rows Memory faults_old faults_new old new err_old err_new exit rose (inl told) = inr (told.written, told.status, inr told.short, (Memory, told.err_told))
  folder_unjudged work rows Memory faults_old faults_new old new err_old err_new exit rose (inr untold) = let none = untold.meant in cc

  -- nor where there was no memory for its path
  pub folder_unopened : (work : Work) (rows : ℕ) (old new : Output W) (err_old err_new : ErrorOutput E) (exit : Exit) → EndsWith contents contents_err work rows (Err (Loading Memory)) old new err_old err_new exit
      → (new ≡ old) × (exit.status ≡ 1) × (exit.is_short ≡ true)
  folder_unopened work rows old new err_old err_new exit (inl told) = (told.written, told.status, told.short)
  folder_unopened work rows old new err_old err_new exit (inr untold) = let none = untold.meant in cc
