-- How a check of the table in a folder ends: what it tells, and the exit status.
use Rattle.std.specs.Prelude.{◌≡◌, ◌⊎◌, ◌++◌, ◌==◌, ℕ, List, [], Option, Some, None, Result, Ok, Err, String, Vec, true, codes, map, string_bytes, if◌then◌else◌}
use Rattle.std.specs.declared.alloc.Global.{Global}
use Rattle.std.specs.Fmt.{decimal}
use Rattle.std.specs.Io.KnownBytes.{Appends}
use Rattle.outcomes.specs.Lines.{with_newline}
use Rattle.folder_check.specs.declared.fault.CheckFault.{CheckFault}
use Rattle.lake_script.specs.Streams.{held, write_failed, WritesFront}
use Rattle.lake_script.specs.declared.outputs.Output.{Output}
use Rattle.store_core.specs.Calls.{HasRisen}
use Rattle.store_core.specs.Objects.{Objects}
use Rattle.table_audit.specs.LargeFiles.{HasLargeFile}
use Rattle.table_audit.specs.ReasonTexts.{reason_text}
use Rattle.table_audit.specs.Verdicts.{IsVerdictOf}
use Rattle.table_audit.specs.declared.verdict.Verdict.{Verdict}
use Rattle.table_audit.specs.declared.verdict.Verdict.TheVariants.{Sound, Unsound}
use Rattle.table_folder.specs.declared.fault.LoadFault.{LoadFault}
use Rattle.lake_hints.specs.ErrorOutputs.{AreInTurn, TellsSome}
use Rattle.lake_hints.specs.Meanings.{IsMeaning}
use Rattle.lake_hints.specs.declared.error_output.ErrorOutput.{ErrorOutput}
use Rattle.lake_command.specs.ErrorTexts.{IsBesideFault, IsBesideTold, IsFailureTold, IsMeaningIn, IsUnwrittenTold, lines_text}
use Rattle.lake_command.specs.declared.exit.Exit.{Exit}
use Rattle.lake_command.specs.declared.failure.Failure.TheVariants.{Loading}

-- what is told of a sound log of so many versions: where no commit stands there is no table, which is told as `history` tells it
abbrev pub sound_text : (versions : ℕ) → List ℕ
sound_text versions = if versions == 0 then with_newline (codes "refused K7 BadLog 0") else with_newline (codes "sound " ++ decimal versions)

-- what is told of a verdict: so many versions, or the first unsound one, and in a line of its own why
abbrev pub verdict_text : Verdict → List ℕ
verdict_text (Sound versions) = sound_text versions
verdict_text (Unsound unsound) = with_newline (codes "unsound " ++ decimal unsound.version) ++ with_newline (reason_text unsound.reason)

-- the code of the refusal that is told in place of a verdict
abbrev pub code_of_verdict : Verdict → Option (List ℕ)
code_of_verdict (Sound versions) = if versions == 0 then Some (codes "K7") else None
code_of_verdict (Unsound unsound) = None

abbrev pub status_of_verdict : Verdict → ℕ
status_of_verdict (Sound versions) = if versions == 0 then 1 else 0
status_of_verdict (Unsound unsound) = 1

-- what is told of a verdict
abbrev pub IsOfVerdict : Verdict → List ℕ → Type 0
IsOfVerdict verdict text = text ≡ verdict_text verdict

-- what is told of a data file that is too large to be read
abbrev pub too_large_text : (name : List ℕ) → List ℕ
too_large_text name = with_newline (codes "refused P9 TooLarge " ++ name)

-- what may be told of one; where the folder is steady, one of this name is, in the commit of some version
abbrev pub IsOfTooLarge : (is_steady : Type 0) → Objects → List ℕ → Type 0
IsOfTooLarge is_steady objects text = (name : List ℕ) × (text ≡ too_large_text name) × (is_steady → HasLargeFile objects name)

-- A text for which this holds is told, with a status.
abbrev pub IsToldWithStatus : {W : Type 0} → (W → Option (List ℕ)) → (List ℕ → Type 0) → (status : ℕ) → (old new : Output W) → Exit → Type 0
IsToldWithStatus contents P status old new exit =
    (text : List ℕ) × P text × Appends (held contents old) (contents new.writer) text × (exit.status ≡ status)

-- A text for which this holds isn't told, or not to its end: a write failed or a growth was refused, and the status is 1.
abbrev pub IsTextCutShort : {W : Type 0} → (W → Option (List ℕ)) → (List ℕ → Type 0) → (old new : Output W) → Exit → Type 0
IsTextCutShort contents P old new exit =
    (text : List ℕ) × P text × WritesFront (held contents old) (contents new.writer) text
    × ((write_failed new ≡ true) ⊎ (exit.is_short ≡ true)) × (exit.status ≡ 1)

-- a text for which this holds isn't told, or not to its end, as above; or no room was left for it, and nothing is told
abbrev pub IsTextUntold : {W : Type 0} → (W → Option (List ℕ)) → (List ℕ → Type 0) → (old new : Output W) → Exit → Type 0
IsTextUntold contents P old new exit = IsTextCutShort contents P old new exit ⊎ ((new ≡ old) × (exit.is_short ≡ true) × (exit.status ≡ 1))

-- A text of the first kind is told, or it isn't. On standard error stands one of the second kind, in front of it that the output
-- couldn't be written where the first isn't told.
abbrev pub IsTextTold : {W E : Type 0} → (W → Option (List ℕ)) → (E → Option (List ℕ)) → (P Q : List ℕ → Type 0) → (status : ℕ) → (old new : Output W) → (err_old err_new : ErrorOutput E) → Exit → Type 0
IsTextTold contents contents_err P Q status old new err_old err_new exit =
    (IsToldWithStatus contents P status old new exit × TellsSome contents_err Q err_old err_new)
    ⊎ (IsTextUntold contents P old new exit × TellsSome contents_err (AreInTurn IsUnwrittenTold Q) err_old err_new)

-- nothing is told
abbrev pub IsNothing : List ℕ → Type 0
IsNothing text = text ≡ []

-- what lies beside a table, a line each, or why that isn't known
abbrev pub IsBeside : Result (Vec (String Global) Global) CheckFault → List ℕ → Type 0
IsBeside (Ok lines) text = text ≡ lines_text (map string_bytes lines.items)
IsBeside (Err fault) text = IsBesideFault fault text

-- A verdict is told, with its status; where the folder is steady it is that of its objects. On standard error stands what the
-- refusal means that is told in its place, if one is, and behind it what lies beside the table, or why that isn't known.
abbrev pub IsJudged : {W E : Type 0} → (W → Option (List ℕ)) → (E → Option (List ℕ)) → (is_steady : Type 0) → Objects → (old new : Output W) → (err_old err_new : ErrorOutput E) → Exit → Type 0
IsJudged contents contents_err is_steady objects old new err_old err_new exit =
    (verdict : Verdict) × (is_steady → IsVerdictOf objects verdict)
    × IsTextTold contents contents_err (IsOfVerdict verdict) (AreInTurn (IsMeaningIn (code_of_verdict verdict)) (IsBesideTold is_steady objects)) (status_of_verdict verdict) old new err_old err_new exit

-- No verdict is told, and the status is 1: a data file is told as too large to be read, over a steady folder one that is, and on
-- standard error what that means; or nothing is told on the output, since a call of the folder failed or a growth was refused, and
-- the failure is told on standard error.
abbrev pub IsUnjudged : {W E : Type 0} → (W → Option (List ℕ)) → (E → Option (List ℕ)) → (is_steady : Type 0) → Objects → (faults_old faults_new : ℕ) → (old new : Output W) → (err_old err_new : ErrorOutput E) → Exit → Type 0
IsUnjudged contents contents_err is_steady objects faults_old faults_new old new err_old err_new exit =
    IsTextTold contents contents_err (IsOfTooLarge is_steady objects) (IsMeaning (codes "P9")) 1 old new err_old err_new exit
    ⊎ ((new ≡ old) × (exit.status ≡ 1) × (HasRisen faults_old faults_new ⊎ (exit.is_short ≡ true))
    × ((fault : LoadFault) × TellsSome contents_err (IsFailureTold (Loading fault)) err_old err_new))

abbrev pub TellsCheck : {W E : Type 0} → (W → Option (List ℕ)) → (E → Option (List ℕ)) → (is_steady : Type 0) → Objects → (faults_old faults_new : ℕ) → (old new : Output W) → (err_old err_new : ErrorOutput E) → Exit → Type 0
TellsCheck contents contents_err is_steady objects faults_old faults_new old new err_old err_new exit =
    IsJudged contents contents_err is_steady objects old new err_old err_new exit ⊎ IsUnjudged contents contents_err is_steady objects faults_old faults_new old new err_old err_new exit

-- Of a folder of that path on the disk it isn't said what it holds; its faults were counted from none on. Or memory ran out for
-- the words or its path, and nothing is told on the output.
abbrev pub ChecksDisk : {W E F : Type 0} → (W → Option (List ℕ)) → (E → Option (List ℕ)) → (path_of : F → List ℕ) → (count_of : F → ℕ) → (path : List ℕ) → (old new : Output W) → (err_old err_new : ErrorOutput E) → Exit → Type 0
ChecksDisk {W} {E} {F} contents contents_err path_of count_of path old new err_old err_new exit =
    ((new ≡ old) × (exit.status ≡ 1) × (exit.is_short ≡ true))
    ⊎ ((folder : F) × (faults : ℕ) × (path_of folder ≡ path) × (count_of folder ≡ 0) × TellsCheck contents contents_err ⊥ [] (count_of folder) faults old new err_old err_new exit)
