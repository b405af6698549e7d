-- What is told on standard error of a failure, of a reply and of a script's end, and beside a verdict.
use Rattle.std.specs.Prelude.{◌≡◌, ◌⊎◌, ◌++◌, ℕ, Bool, true, false, List, [], ◌∷◌, Option, Some, None, Result, Ok, Err, codes, if◌then◌else◌}
use Rattle.outcomes.specs.Lines.{with_newline}
use Rattle.commit_core.specs.Texts.{refused}
use Rattle.folder_check.specs.Beside.{AreBeside}
use Rattle.folder_check.specs.Faults.{CheckTellsNoFile, check_text}
use Rattle.folder_check.specs.declared.fault.CheckFault.{CheckFault}
use Rattle.json_lines.specs.FlawTexts.{flaw_text}
use Rattle.store_core.specs.Objects.{Objects}
use Rattle.table_folder.specs.declared.fault.LoadFault.TheVariants as loads
use Rattle.table_folder.specs.declared.fault.SaveFault.TheVariants as saves
use Rattle.lake_script.specs.Replies.{fault_text}
use Rattle.lake_script.specs.ReplyView.{reply_text}
use Rattle.lake_script.specs.declared.engine.End.{End}
use Rattle.lake_script.specs.declared.engine.End.TheVariants as ends
use Rattle.lake_script.specs.declared.faults.Fault.{Fault}
use Rattle.lake_script.specs.declared.faults.Fault.TheVariants as faults
use Rattle.lake_script.specs.declared.reply.LineReply.{LineReply}
use Rattle.lake_words.specs.Asked.{Work}
use Rattle.lake_hints.specs.ErrorOutputs.{AreInTurn, IsTextBehind}
use Rattle.lake_hints.specs.Hints.{IsBadLineHint, IsRefusalHint, hint_of}
use Rattle.lake_hints.specs.Meanings.{IsMeaning, IsMeaningOf}
use Rattle.lake_hints.specs.Notes.{IsNoteOf}
use Rattle.lake_command.specs.Codes.{code_in}
use Rattle.lake_command.specs.Failures.{failure_text}
use Rattle.lake_command.specs.Status.{refuses}
use Rattle.lake_command.specs.declared.failure.Failure.{Failure}
use Rattle.lake_command.specs.declared.failure.Failure.TheVariants.{BadLine, Memory, Loading, Saving}

-- a bad line of the input, and that no room was left for it or its rows, are told where replies go
abbrev pub is_told_as_reply : Failure → Bool
is_told_as_reply (BadLine number flaw) = true
is_told_as_reply Memory = true
is_told_as_reply failure = false

-- each other failure is told in a line of its own
abbrev pub failure_line : Failure → List ℕ
failure_line failure = if is_told_as_reply failure then [] else with_newline (failure_text failure)

-- what a code means, where there is one
abbrev pub IsMeaningIn : Option (List ℕ) → List ℕ → Type 0
IsMeaningIn None text = text ≡ []
IsMeaningIn (Some code) text = IsMeaning code text

-- that no memory was left
abbrev pub memory_hint : List ℕ
memory_hint = with_newline (codes "hint: memory ran out: make room for more and run the same command again")

-- what more there is to say of a failure: what is wrong with a bad line, what to do about a call of the folder, and that
-- no memory was left
abbrev pub failure_hint : Failure → List ℕ
failure_hint (BadLine number flaw) = with_newline (codes "hint: the line " ++ flaw_text flaw)
failure_hint (Loading (loads.NotLoaded name reason)) = hint_of reason
failure_hint (Saving (saves.NotSaved name reason)) = hint_of reason
failure_hint (Loading loads.Memory) = memory_hint
failure_hint (Saving saves.Memory) = memory_hint
failure_hint failure = []

-- of a failure: its line, what its code means, and what more there is to say
abbrev pub IsFailureTold : Failure → List ℕ → Type 0
IsFailureTold failure = IsTextBehind (failure_line failure) (AreInTurn (IsMeaningIn (code_in failure)) (λ hint. hint ≡ failure_hint failure))

-- Of a reply to a job, which had so many rows: where it refuses the job what it means, and which limit was passed or how the
-- schema is none; else at most that the table takes no rows, or that a batch without rows uses up its number.
abbrev pub IsBesideReply : Work → (rows : ℕ) → LineReply → (refuses : Bool) → List ℕ → Type 0
IsBesideReply work rows reply true = AreInTurn (IsMeaningOf (reply_text reply)) (IsRefusalHint reply work rows)
IsBesideReply work rows reply false = IsNoteOf work rows

-- of what comes of a job
abbrev pub IsErrText : Work → (rows : ℕ) → Result LineReply Failure → List ℕ → Type 0
IsErrText work rows (Ok reply) = IsBesideReply work rows reply (refuses work reply)
IsErrText work rows (Err failure) = IsFailureTold failure

-- of a fault of the program itself, with this code: its line, and what the code means
abbrev pub IsFaultTold : Fault → (code : List ℕ) → List ℕ → Type 0
IsFaultTold fault code = IsTextBehind (with_newline (refused (fault_text fault))) (IsMeaning code)

-- the output couldn't be written
abbrev pub IsUnwrittenTold : List ℕ → Type 0
IsUnwrittenTold = IsFaultTold faults.NotWritten (codes "F4")

-- of a script that ended so
abbrev pub IsEndTold : End → List ℕ → Type 0
IsEndTold ends.Done text = text ≡ []
IsEndTold (ends.BadLine number) text = IsBadLineHint number text
IsEndTold ends.NotRead text = IsFaultTold faults.NotRead (codes "F3") text
IsEndTold ends.NotWritten text = IsUnwrittenTold text

-- of a script that isn't refused, by the number of its first bad line
abbrev pub IsBadLineTold : Option ℕ → List ℕ → Type 0
IsBadLineTold None text = text ≡ []
IsBadLineTold (Some number) text = IsBadLineHint number text

-- some lines, each with a newline
abbrev pub lines_text : List (List ℕ) → List ℕ
lines_text [] = []
lines_text (line ∷ lines) = with_newline line ++ lines_text lines

-- that what lies beside a table can't be told, and why
abbrev pub IsBesideFault : CheckFault → List ℕ → Type 0
IsBesideFault fault = IsTextBehind (with_newline (refused (check_text fault))) (IsMeaning (codes "F1"))

-- What lies beside the table, a line each, over a steady folder all of it and nothing else; or why it can't be told.
abbrev pub IsBesideTold : (is_steady : Type 0) → Objects → List ℕ → Type 0
IsBesideTold is_steady objects text =
    ((lines : List (List ℕ)) × (is_steady → AreBeside objects lines) × (text ≡ lines_text lines))
    ⊎ ((fault : CheckFault) × CheckTellsNoFile fault × IsBesideFault fault text)
