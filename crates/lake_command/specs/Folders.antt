-- What a job on the table in a folder asks for, in the words of a script, and what it leaves in the folder.
use Rattle.std.specs.Prelude.{◌≡◌, ◌≢◌, ◌⊎◌, ℕ, Bool, List, Option, Some, None, IfSome, IsSomeAnd, bytes_eq, codes, length, map, true, false, if◌then◌else◌}
use Rattle.std.specs.Io.KnownBytes.{Appends}
use Rattle.serde_json.specs.Data.{Data}
use Rattle.serde_json.specs.View.{items_of}
use Rattle.store_core.specs.Objects.{Objects}
use Rattle.json_lines.specs.Rows.{input_lines, json_object_in_line}
use Rattle.lake_words.specs.Asked.{Work}
use Rattle.lake_words.specs.Asked as words
use Rattle.lake_script.specs.LineJobs.{IsOfText}
use Rattle.lake_script.specs.Growth.{MayPut}
use Rattle.script_lines.specs.Lines.{Statement, create, task, task_view, append, close, checkpoint, tail, look, snapshot, history}
use Rattle.lake_script.specs.Runs.{Executes}
use Rattle.lake_script.specs.ReplyView.{reply_text}
use Rattle.lake_script.specs.Told.{not_yet}
use Rattle.lake_script.specs.declared.reply.LineReply.{LineReply}
use Rattle.lake_command.specs.declared.job_line.JobLine.{JobLine}
use Rattle.lake_command.specs.declared.job_line.JobLine.TheVariants as lines
use Rattle.lake_command.specs.Status.{refuses}

-- these are the rows of an input: the JSON objects of its lines
abbrev pub AreLineRows : List ℕ → List Data → Type 0
AreLineRows text rows = map json_object_in_line (input_lines text) ≡ map (λ row. Some row) rows

-- an append alone reads the input
abbrev pub reads_input : Work → Bool
reads_input (words.append application number at tries rows) = true
reads_input _ = false

-- the bytes that a job reads, where the reader tells them; of a job that reads none nothing is asked
abbrev pub IsInputOf : Work → (known : Option (List ℕ)) → (bytes : List ℕ) → Type 0
IsInputOf work known bytes = reads_input work ≡ true → IfSome known (λ text. bytes ≡ text)

-- how many rows an append's input has, where its words say so
abbrev pub rows_said : Work → Option ℕ
rows_said (words.append application number at tries rows) = rows
rows_said _ = None

-- the input of an append has another count of lines than its words say
abbrev pub IsMiscounted : Work → (text : Option (List ℕ)) → Type 0
IsMiscounted work text = IsSomeAnd (rows_said work) (λ rows. IsSomeAnd text (λ bytes. length (input_lines bytes) ≢ rows))

-- the text of the offset that a word names: `start` that of a table's first row, and each other word the text that it is
abbrev pub offset_named : List ℕ → List ℕ
offset_named word = if bytes_eq word (codes "start") then codes "{\"file\":0,\"row\":0,\"version\":0}" else word

-- What a job asks for. An append's rows are those of the input's lines, as many as its words say, if they do; where the
-- reader doesn't tell its bytes, those of the lines of some text.
abbrev pub IsAskedBy : Work → (text : Option (List ℕ)) → Statement → Type 0
IsAskedBy (words.create id schema at) text statement = statement ≡ create id at schema
IsAskedBy (words.append application number at tries said) text statement =
    (bytes : List ℕ) × (rows : List Data) × IfSome text (λ known. bytes ≡ known) × AreLineRows bytes rows × (statement ≡ task (append application number at (items_of rows)))
    × IfSome said (λ count. length rows ≡ count)
IsAskedBy (words.close application at tries) text statement = statement ≡ task (close application at)
IsAskedBy (words.load workers at tries) text statement = ⊥
IsAskedBy (words.tail max offset) text statement = statement ≡ task (tail max (offset_named offset))
IsAskedBy words.snapshot text statement = statement ≡ look snapshot
IsAskedBy words.checkpoint text statement = statement ≡ task checkpoint
IsAskedBy words.history text statement = statement ≡ look history

-- the job isn't there yet
abbrev pub IsNotYet : Work → Type 0
IsNotYet (words.load workers at tries) = Unit {0}
IsNotYet _ = ⊥

-- the reply to a job, and the objects behind it: those of a line of a script, over the same objects
abbrev pub IsJobAnswer : Work → (text : Option (List ℕ)) → (old : Objects) → (reply : List ℕ) → (new : Objects) → Type 0
IsJobAnswer work text old reply new =
    (IsNotYet work × (reply ≡ not_yet) × (new ≡ old)) ⊎ ((statement : Statement) × IsAskedBy work text statement × Executes old statement reply new)

-- A job is done: its reply is written behind what was held, doesn't refuse it, and the folder holds what it leaves.
pub record IsAnsweredJob (work : Work) (text : Option (List ℕ)) (old : Objects) (before after : Option (List ℕ)) (new : Objects) : Type 0 where
  pub reply : LineReply
  pub told : Appends before after (reply_text reply)
  pub done : refuses work reply ≡ false
  pub answer : IsJobAnswer work text old (reply_text reply) new

-- what a line of the code that a job asks for is in a script
abbrev pub line_view : JobLine → Statement
line_view (lines.Create id at schema) = create id.now at schema.now
line_view (lines.Job job) = task (task_view job)
line_view lines.Snapshot = look snapshot
line_view lines.History = look history

-- it creates a table, or is a job that puts something
abbrev pub IsPutter : Statement → Type 0
IsPutter (create id at schema) = Unit {0}
IsPutter (task (append application number at items)) = Unit {0}
IsPutter (task (close application at)) = Unit {0}
IsPutter (task checkpoint) = Unit {0}
IsPutter _ = ⊥

-- the id of the application that it names, if it names one, is text
abbrev pub IsTextLine : Statement → Type 0
IsTextLine (task job) = IsOfText job
IsTextLine _ = Unit {0}

-- behind a line, however it ends: what stood, or what the line may put, all of it or
-- its data file alone
abbrev pub LineMayLeave : (old : Objects) → Statement → (new : Objects) → Type 0
LineMayLeave old statement new = (new ≡ old) ⊎ MayPut old statement new

-- the same of a line that asks for what a job asks for
abbrev pub JobMayLeave : Work → (text : Option (List ℕ)) → (old new : Objects) → Type 0
JobMayLeave work text old new = (new ≡ old) ⊎ ((statement : Statement) × IsAskedBy work text statement × MayPut old statement new)
