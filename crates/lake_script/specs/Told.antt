-- What a script is told. Beside a line that creates a table stands the text that its schema is printed as, beside one
-- that puts a checkpoint its bytes, and beside one that tells a snapshot its text: no other line looks at the text that
-- stands beside it. All is told by the whole log: that a log may be read from a checkpoint doesn't show.
use Rattle.std.specs.Prelude.{◌≡◌, ◌+◌, ◌++◌, ℕ, Bool, true, false, List, [], ◌∷◌, Option, Some, None, Result, Ok, Err, ⊤, if◌then◌else◌}
use Rattle.delta_actions.specs.Commit.{lines_of}
use Rattle.hex.specs.Hex.{encode_lower}
use Rattle.store_core.specs.Objects.{Objects, object_at, with_object}
use Rattle.lake_script.specs.declared.engine.End.{End}
use Rattle.lake_script.specs.declared.engine.End.TheVariants.{Done, BadLine, NotRead, NotWritten}
use Rattle.lake_script.specs.declared.engine.Outcome.{Outcome}
use Rattle.lake_script.specs.declared.faults.Fault.TheVariants.{NotYet, NoSuchName}
use Rattle.sink_core.specs.Appending.{appended_by, append_plan, with_append}
use Rattle.sink_core.specs.declared.sink_state.SinkOutcome.{SinkOutcome}
use Rattle.sink_core.specs.Closes.{close_plan, stream_closed_by, with_close_commit}
use Rattle.store_core.specs.Names.{commit_name}
use Rattle.commit_core.specs.Creating as creations
use Rattle.commit_core.specs.Creating.{creation_from, created_by, with_creation, IsPrintedFor}
use Rattle.commit_core.specs.Histories.{history_of}
use Rattle.snapshot_core.specs.Faults.{readable_log}
use Rattle.lake_script.specs.Checkpoints.{checkpoint_by_bytes, checkpoint_reply, snapshot_reply, with_checkpoint, IsItsCheckpoint, IsItsSnapshot}
use Rattle.script_lines.specs.Lines.{Statement, append, close, checkpoint, tail, create, task, snapshot, history, show, hex, tries, foreign, Reading, skipped, bad, asks, reading_of, look, world}
use Rattle.batch_core.specs.Refusals.{SinkRefusal, sink_refusal_text}
use Rattle.lake_script.specs.Replies.{fault_text, created, noted, outcome_text, put_word, bad_line}
use Rattle.commit_core.specs.Texts as texts
use Rattle.commit_core.specs.Texts.{refused}
use Rattle.source_core.specs.TailFaults as tail_texts
use Rattle.source_core.specs.Tailing as tails
use Rattle.source_core.specs.TailTexts.{tailed}
use Rattle.outcomes.specs.Lines.{with_newline}

-- the reply to a line that creates a table
abbrev pub created_reply : Result (List ℕ) creations.CreateRefusal → List ℕ
created_reply (Ok bytes) = with_newline created
created_reply (Err refusal) = with_newline (refused (texts.create_refusal_text refusal))

-- the reply to a line that appends a batch, or closes a stream
abbrev pub sink_reply : Result SinkOutcome SinkRefusal → List ℕ
sink_reply (Ok outcome) = with_newline (outcome_text outcome)
sink_reply (Err refusal) = with_newline (refused (sink_refusal_text refusal))

-- the reply to a line that reads from an offset on
abbrev pub tailed_reply : Result (List ℕ) tails.ReadRefusal → List ℕ
tailed_reply (Ok text) = text
tailed_reply (Err refusal) = with_newline (refused (tail_texts.read_refusal_text refusal))

-- an object, as it stands
abbrev pub shown : Option (List ℕ) → List ℕ
shown None = with_newline (refused (fault_text NoSuchName))
shown (Some bytes) = bytes

-- an object, in hexadecimal
abbrev pub in_hex : Option (List ℕ) → List ℕ
in_hex None = with_newline (refused (fault_text NoSuchName))
in_hex (Some bytes) = with_newline (encode_lower bytes)

-- the reply to what isn't there yet
abbrev pub not_yet : List ℕ
not_yet = with_newline (refused (fault_text NotYet))

-- the text is one that the schema of a line that creates a table is printed as, the bytes of the checkpoint that a line
-- puts, or the text of the snapshot that a line tells, over these objects
abbrev pub IsPrintedStatement : Objects → Statement → (printed : List ℕ) → Type 0
IsPrintedStatement objects (create id at schema) printed = IsPrintedFor id schema printed
IsPrintedStatement objects (task checkpoint) printed = IsItsCheckpoint objects printed
IsPrintedStatement objects (look snapshot) printed = IsItsSnapshot objects printed
IsPrintedStatement objects (task (append application number at rows)) printed = Unit {0}
IsPrintedStatement objects (task (tail max offset)) printed = Unit {0}
IsPrintedStatement objects (look history) printed = Unit {0}
IsPrintedStatement objects (look (show version)) printed = Unit {0}
IsPrintedStatement objects (look (hex name)) printed = Unit {0}
IsPrintedStatement objects (foreign version action) printed = Unit {0}
IsPrintedStatement objects (task (close application at)) printed = Unit {0}
IsPrintedStatement objects (tries count) printed = Unit {0}
IsPrintedStatement objects (world line) printed = Unit {0}

-- the reply to what a line asks for, over the objects that stand
abbrev pub reply_to_statement : Objects → Statement → (printed : List ℕ) → List ℕ
reply_to_statement objects (create id at schema) printed = created_reply (created_by objects id at schema printed)
reply_to_statement objects (task (append application number at rows)) printed = sink_reply (appended_by false objects application number at rows)
reply_to_statement objects (task (tail max offset)) printed = tailed_reply (tailed false objects max offset)
reply_to_statement objects (task checkpoint) printed = checkpoint_reply (checkpoint_by_bytes objects printed)
reply_to_statement objects (look snapshot) printed = snapshot_reply (readable_log false objects) printed
reply_to_statement objects (look history) printed = history_of objects
reply_to_statement objects (look (show version)) printed = shown (object_at objects (commit_name version))
reply_to_statement objects (look (hex name)) printed = in_hex (object_at objects name)
reply_to_statement objects (foreign version action) printed = with_newline (put_word (object_at objects (commit_name version)))
reply_to_statement objects (task (close application at)) printed = sink_reply (stream_closed_by false objects application)
reply_to_statement objects (tries count) printed = with_newline noted
reply_to_statement objects (world line) printed = not_yet

-- the objects that stand once a line has what it asks for
abbrev pub left_by_statement : Objects → Statement → (printed : List ℕ) → Objects
left_by_statement objects (create id at schema) printed = with_creation objects (creation_from id at schema printed)
left_by_statement objects (task (append application number at rows)) printed = with_append objects (append_plan false objects application number at rows)
left_by_statement objects (task checkpoint) printed = with_checkpoint objects printed (checkpoint_by_bytes objects printed)
left_by_statement objects (foreign version action) printed = with_object objects (commit_name version) (with_newline action)
left_by_statement objects (task (tail max offset)) printed = objects
left_by_statement objects (look line) printed = objects
left_by_statement objects (task (close application at)) printed = with_close_commit objects application at (close_plan false objects application)
left_by_statement objects (tries count) printed = objects
left_by_statement objects (world line) printed = objects

-- the same three of a line as it is read, of that number
abbrev pub IsPrintedLine : Objects → Reading → (printed : List ℕ) → Type 0
IsPrintedLine objects skipped printed = Unit {0}
IsPrintedLine objects bad printed = Unit {0}
IsPrintedLine objects (asks statement) printed = IsPrintedStatement objects statement printed

abbrev pub reply_to : ℕ → Objects → Reading → (printed : List ℕ) → List ℕ
reply_to number objects skipped printed = []
reply_to number objects bad printed = bad_line number
reply_to number objects (asks statement) printed = reply_to_statement objects statement printed

abbrev pub left_by : Objects → Reading → (printed : List ℕ) → Objects
left_by objects skipped printed = objects
left_by objects bad printed = objects
left_by objects (asks statement) printed = left_by_statement objects statement printed

-- a line doesn't put another tool's commit
abbrev pub IsPutHere : Reading → Type 0
IsPutHere (asks (foreign version action)) = ⊥
IsPutHere skipped = Unit {0}
IsPutHere bad = Unit {0}
IsPutHere (asks (create id at schema)) = Unit {0}
IsPutHere (asks (task (append application number at rows))) = Unit {0}
IsPutHere (asks (task (tail max offset))) = Unit {0}
IsPutHere (asks (task checkpoint)) = Unit {0}
IsPutHere (asks (look line)) = Unit {0}
IsPutHere (asks (task (close application at))) = Unit {0}
IsPutHere (asks (tries count)) = Unit {0}
IsPutHere (asks (world line)) = Unit {0}

-- no line puts another tool's commit, so that what is put is this program's
abbrev pub ArePutHere : List (List ℕ) → Type 0
ArePutHere [] = Unit {0}
ArePutHere (line ∷ lines) = IsPutHere (reading_of line) × ArePutHere lines

-- a bad line ends a run
abbrev pub is_bad : Reading → Bool
is_bad skipped = false
is_bad bad = true
is_bad (asks statement) = false

-- what holds where a line isn't bad
abbrev pub UnlessBad : Bool → Type 0 → Type 0
UnlessBad true Holds = Unit {0}
UnlessBad false Holds = Holds

-- One text stands beside each of these lines, up to the first bad one, and is one of its own over the objects in front
-- of it.
unfoldable pub ArePrintedLines : Objects → (lines texts : List (List ℕ)) → Type 0
ArePrintedLines objects [] texts = Unit {0}
ArePrintedLines objects (line ∷ lines) [] = ⊥
ArePrintedLines objects (line ∷ lines) (printed ∷ texts) =
    IsPrintedLine objects (reading_of line) printed × UnlessBad (is_bad (reading_of line)) (ArePrintedLines (left_by objects (reading_of line) printed) lines texts)

-- The same of some first lines, as many as there are texts.
unfoldable pub ArePrintedInPart : Objects → (lines texts : List (List ℕ)) → Type 0
ArePrintedInPart objects [] texts = Unit {0}
ArePrintedInPart objects (line ∷ lines) [] = Unit {0}
ArePrintedInPart objects (line ∷ lines) (printed ∷ texts) =
    IsPrintedLine objects (reading_of line) printed × UnlessBad (is_bad (reading_of line)) (ArePrintedInPart (left_by objects (reading_of line) printed) lines texts)

-- What is told for these lines, of which the first has that number; nothing is told behind a bad line, nor for a line
-- beside which no text stands.
unfoldable pub expected_from : ℕ → Objects → (lines texts : List (List ℕ)) → List ℕ
expected_from number objects [] texts = []
expected_from number objects (line ∷ lines) [] = []
expected_from number objects (line ∷ lines) (printed ∷ texts) =
    reply_to number objects (reading_of line) printed
    ++ (if is_bad (reading_of line) then [] else expected_from (number + 1) (left_by objects (reading_of line) printed) lines texts)

-- the objects that stand behind these lines
unfoldable pub left_from : Objects → (lines texts : List (List ℕ)) → Objects
left_from objects [] texts = objects
left_from objects (line ∷ lines) [] = objects
left_from objects (line ∷ lines) (printed ∷ texts) =
    if is_bad (reading_of line) then objects else left_from (left_by objects (reading_of line) printed) lines texts

-- the number of the first bad line among these, if there is one
unfoldable pub first_bad_from : ℕ → List (List ℕ) → Option ℕ
first_bad_from number [] = None
first_bad_from number (line ∷ lines) =
    if is_bad (reading_of line) then Some number else first_bad_from (number + 1) lines

-- what is told for a script over these objects, its lines counted from 1
abbrev pub expected_output : Objects → (script : List ℕ) (texts : List (List ℕ)) → List ℕ
expected_output objects script texts = expected_from 1 objects (lines_of script) texts

-- the objects that stand behind a script
abbrev pub left : Objects → (script : List ℕ) (texts : List (List ℕ)) → Objects
left objects script texts = left_from objects (lines_of script) texts

-- this is told for a script over these objects, with some texts beside its lines
abbrev pub IsScriptTold : Objects → (script written : List ℕ) → Type 0
IsScriptTold objects script written = (texts : List (List ℕ)) × ArePrintedLines objects (lines_of script) texts × (written ≡ expected_output objects script texts)

-- the number of a script's first bad line, if it has one
abbrev pub first_bad : List ℕ → Option ℕ
first_bad text = first_bad_from 1 (lines_of text)

-- where a run ended by itself, P holds of the number of its bad line, if it met one
abbrev pub Finishes : End → (Option ℕ → Type 0) → Type 0
Finishes Done P = P None
Finishes (BadLine number) P = P (Some number)
Finishes NotRead P = ⊤
Finishes NotWritten P = ⊤

-- a growth was refused on the way of a run, or a commit, a data file or a checkpoint would have passed 64 MiB
abbrev pub fell_short : Outcome → Bool
fell_short outcome = outcome.is_short
