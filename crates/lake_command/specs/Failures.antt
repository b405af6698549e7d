-- Why a job on a folder has no reply: the texts, and what the folder holds then.
use Rattle.std.specs.Prelude.{◌≡◌, ◌≢◌, ◌⊎◌, ◌<◌, ◌≤◌, ◌++◌, ℕ, Bool, true, List, Option, Some, None, Result, Err, IfErr, IfSome, IsSome, IsTrue, codes, length, string_bytes}
use Rattle.std.specs.Fmt.{decimal}
use Rattle.store_core.specs.Calls.{HasRisen}
use Rattle.store_core.specs.Names.{is_commit}
use Rattle.store_core.specs.Objects.{Objects, object_at}
use Rattle.table_folder.specs.Texts.{load_text, save_text}
use Rattle.table_folder.specs.declared.fault.LoadFault.TheVariants as loads
use Rattle.table_folder.specs.declared.fault.SaveFault.TheVariants as saves
use Rattle.table_folder.specs.declared.reason.Reason.TheVariants.{Taken}
use Rattle.json_lines.specs.Rows.{IsFirstBadLine, input_lines}
use Rattle.json_lines.specs.declared.LineFault.{LineFault}
use Rattle.json_lines.specs.declared.LineFault.TheVariants as lines
use Rattle.lake_script.specs.declared.inputs.InputError.{InputError}
use Rattle.lake_script.specs.declared.inputs.InputError.TheVariants as inputs
use Rattle.lake_script.specs.declared.inputs.TheConstants.{MOST_BYTES, MOST_READS}
use Rattle.lake_script.specs.Growth.{MayPut}
use Rattle.script_lines.specs.Lines.{Statement}
use Rattle.lake_words.specs.Asked.{Work}
use Rattle.lake_words.specs.Asked as words
use Rattle.lake_command.specs.declared.failure.Failure.{Failure}
use Rattle.lake_command.specs.declared.failure.Failure.TheVariants.{Misused, NotRead, BadLine, Miscounted, Memory, Loading, Saving}
use Rattle.lake_command.specs.Folders.{IsAskedBy, JobMayLeave, reads_input, rows_said}

-- the printed form
abbrev pub failure_text : Failure → List ℕ
failure_text Misused = codes "--at is past 999999999999999"
failure_text NotRead = codes "refused F3 NotRead"
failure_text (BadLine number flaw) = codes "bad line " ++ decimal number
failure_text (Miscounted rows found) =
    codes "--rows says " ++ (decimal rows ++ (codes ", but the count of rows in the input is " ++ (decimal found ++ codes "; nothing was run")))
failure_text Memory = codes "refused S6 Memory"
failure_text (Loading fault) = codes "refused " ++ load_text fault
failure_text (Saving fault) = codes "refused " ++ save_text fault

-- the failure of an input that isn't read to its end, or for which no memory was left
abbrev pub IsFailureOfInput : InputError → Failure → Type 0
IsFailureOfInput inputs.Memory failure = failure ≡ Memory
IsFailureOfInput _ failure = failure ≡ NotRead

-- the failure of lines that are no objects, or for which no memory was left
abbrev pub IsFailureOfLine : LineFault → Failure → Type 0
IsFailureOfLine (lines.Bad number flaw) failure = failure ≡ BadLine number flaw
IsFailureOfLine lines.Memory failure = failure ≡ Memory

-- a failure of the folder: what isn't loaded leaves it as it was
abbrev pub IsOfFolder : Failure → (old new : Objects) → Type 0
IsOfFolder (Loading fault) old new = new ≡ old
IsOfFolder (Saving fault) old new = Unit {0}
IsOfFolder _ old new = ⊥

-- the table isn't loaded
abbrev pub IsLoading : Failure → Type 0
IsLoading (Loading fault) = Unit {0}
IsLoading _ = ⊥

-- the commit timestamp of a creation or an append, in milliseconds; 0 for other jobs
abbrev pub moment_of_work : Work → ℕ
moment_of_work (words.create id schema at) = at
moment_of_work (words.append application number at tries rows) = at
moment_of_work (words.close application at tries) = at
moment_of_work _ = 0

-- a job that is there asks for something; an append does where each line of its text, if that is known, is an object
abbrev pub AsksSomething : Work → (text : Option (List ℕ)) → Type 0
AsksSomething work text = (statement : Statement) × IsAskedBy work text statement

-- The failure comes from the words or from an append's input of that text: a moment past the last one, a read that
-- failed, or an input of 1,048,576 bytes or more, which may have taken as many reads, the first line that is no object,
-- another count of lines than the words say, or no memory for the input or its rows. Of a text that isn't known nothing is
-- asked.
abbrev pub IsOfInput : Failure → Work → (text : Option (List ℕ)) → (is_broken : Bool) → Type 0
IsOfInput Misused work text is_broken = 999_999_999_999_999 < moment_of_work work
IsOfInput NotRead work text is_broken = (reads_input work ≡ true) × ((is_broken ≡ true) ⊎ IfSome text (λ bytes. MOST_READS ≤ length bytes))
IsOfInput (BadLine number flaw) work text is_broken = (reads_input work ≡ true) × IfSome text (λ bytes. IsFirstBadLine bytes number)
IsOfInput (Miscounted rows found) work text is_broken = (rows_said work ≡ Some rows) × (found ≢ rows) × IfSome text (λ bytes. length (input_lines bytes) ≡ found)
IsOfInput Memory work text is_broken = reads_input work ≡ true
IsOfInput (Loading fault) work text is_broken = ⊥
IsOfInput (Saving fault) work text is_broken = ⊥

-- The failure comes from the folder. That a store loses a call is none: it lies in memory.
abbrev pub IsByFolder : Failure → Type 0
IsByFolder (Loading fault) = Unit {0}
IsByFolder (Saving (saves.NotSaved name reason)) = Unit {0}
IsByFolder (Saving saves.Memory) = Unit {0}
IsByFolder _ = ⊥

-- a failure has its cause in the words or the input, or comes from the folder behind an input that asks for something
abbrev pub HasCause : Failure → Work → (text : Option (List ℕ)) → (is_broken : Bool) → Type 0
HasCause failure work text is_broken = IsOfInput failure work text is_broken ⊎ (IsByFolder failure × AsksSomething work text)

-- an append whose input isn't read to its end is told so, unless its moment is past the last one or memory runs out
abbrev pub IsNotRead : {X : Type 0} → Result X Failure → Type 0
IsNotRead (Err Misused) = Unit {0}
IsNotRead (Err NotRead) = Unit {0}
IsNotRead (Err Memory) = Unit {0}
IsNotRead _ = ⊥

-- The folder's count of faults rises where the table isn't loaded or saved for a call of the folder that failed, and
-- nowhere else. An object isn't saved either where its name is told as taken.
abbrev pub CountsFolderFault : {X : Type 0} → Result X Failure → (old new : ℕ) → Type 0
CountsFolderFault (Err (Loading (loads.NotLoaded name reason))) old new = HasRisen old new
CountsFolderFault (Err (Saving (saves.NotSaved name reason))) old new = HasRisen old new ⊎ ((new ≡ old) × (reason ≡ Taken))
CountsFolderFault _ old new = new ≡ old

-- What comes of a job has its cause, where the input's last read failed or didn't, and the folder counted so many
-- faults before and after: a read that failed and a text of more than 1 GiB are told, and so is a call of the folder
-- that failed.
pub record IsCaused {X : Type 0} (outcome : Result X Failure) (work : Work) (text : Option (List ℕ)) (is_broken : Bool) (old new : ℕ) : Type 0 where
  pub cause : IfErr outcome (λ failure. HasCause failure work text is_broken)
  pub broken : reads_input work ≡ true → is_broken ≡ true → IsNotRead outcome
  pub too_long : reads_input work ≡ true → IfSome text (λ bytes. MOST_BYTES < length bytes → IsNotRead outcome)
  pub counts : CountsFolderFault outcome old new

-- A line puts an object under this name, where nothing stood.
pub record LinePutsUnder (statement : Statement) (old : Objects) (name : List ℕ) : Type 0 where
  pub after : Objects
  pub put : MayPut old statement after
  pub absent : object_at old name ≡ None
  pub stands : IsSome (object_at after name)

-- so does a job, by the line that it asks for
abbrev pub PutsUnder : Work → (text : Option (List ℕ)) → (old : Objects) → (name : List ℕ) → Type 0
PutsUnder work text old name = (statement : Statement) × IsAskedBy work text statement × LinePutsUnder statement old name

-- What a folder holds behind a failure: what it held, or where the table wasn't saved whole what the job may have put.
-- An object that isn't saved is one that the job puts where nothing stood.
abbrev pub Leaves : Failure → Work → (text : Option (List ℕ)) → (old new : Objects) → Type 0
Leaves (Saving (saves.NotSaved name reason)) work text old new = JobMayLeave work text old new × PutsUnder work text old (string_bytes name)
Leaves (Saving fault) work text old new = JobMayLeave work text old new
Leaves _ work text old new = new ≡ old

-- an object that isn't saved is one that the line puts where nothing stood
abbrev pub NamesPut : Failure → Statement → (old : Objects) → Type 0
NamesPut (Saving (saves.NotSaved name reason)) statement old = LinePutsUnder statement old (string_bytes name)
NamesPut _ statement old = Unit {0}

-- saving is refused, since a commit's name is taken
abbrev pub IsCommitTaken : {X : Type 0} → Result X Failure → Type 0
IsCommitTaken (Err (Saving (saves.NotSaved name reason))) = (reason ≡ Taken) × IsTrue (is_commit (string_bytes name))
IsCommitTaken _ = ⊥

-- nobody else takes a name in a steady folder: a file that isn't saved comes of a call that failed
abbrev pub FailureComesOfACall : {X : Type 0} → Result X Failure → (old new : ℕ) → Type 0
FailureComesOfACall (Err (Saving (saves.NotSaved name reason))) old new = HasRisen old new
FailureComesOfACall _ old new = Unit {0}
