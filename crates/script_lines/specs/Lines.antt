-- The lines of a script: which bytes spell which line.
use Rattle.std.specs.Prelude.{ℕ, ◌<◌, ◌^◌, ◌||◌, Bool, List, ⊤, Option, Some, None, codes, nat_eq, option_map, if◌then◌else◌}
use Rattle.std.specs.List.{starts_with}
use Rattle.std.specs.Str.{is_utf8}
use Rattle.serde_json.specs.Data.{Items}
use Rattle.json_text.specs.Rows.{rows_data}
use Rattle.delta_actions.specs.Commit.{is_blank}
use Rattle.script_lines.specs.declared.kind.Kind.{Kind}
use Rattle.script_lines.specs.declared.verb.Verb.{Verb}
use Rattle.script_lines.specs.declared.verb.Verb.TheVariants as verb
use Rattle.script_lines.specs.declared.line.Job.TheVariants as job
use Rattle.script_lines.specs.declared.line.Line.TheVariants as line
use Rattle.script_lines.specs.declared.line.Job.{Job}
use Rattle.script_lines.specs.declared.line.Look as code_look
use Rattle.script_lines.specs.declared.line.Look.TheVariants as looks
use Rattle.script_lines.specs.declared.line.WorldLine as code_world
use Rattle.script_lines.specs.declared.line.WorldLine.TheVariants as worlds
use Rattle.script_lines.specs.declared.line.Line.{Line}
use Rattle.script_lines.specs.declared.reading.Reading as readings
use Rattle.script_lines.specs.declared.reading.Reading.TheVariants as view
use Rattle.script_lines.specs.Names.{verb_of, kind_named}
use Rattle.outcomes.specs.Options.{◌>>=◌}
use Rattle.script_lines.specs.Fields.{word_and_rest, script_number, moment_of, max_of, tries_of, json_array_in}

-- what is done to a table: by a line at once, or by an actor that is started with it
pub data Task : Type 0 where
  append : (application : List ℕ) (number at : ℕ) (rows : Items) → Task
  close : (application : List ℕ) (at : ℕ) → Task
  checkpoint : Task
  tail : (max : ℕ) (offset : List ℕ) → Task

-- what a line shows of what stands, and leaves as it is
pub data Look : Type 0 where
  snapshot : Look
  history : Look
  show : (version : ℕ) → Look
  hex : (name : List ℕ) → Look

-- what a line does to a world of actors: it sets what the next commit put of a line without an actor meets, starts an
-- actor, leads it on or drops it, or lets a put in flight take effect
pub data WorldLine : Type 0 where
  fault : Kind → WorldLine
  start : (actor : List ℕ) → Task → WorldLine
  until : (actor : List ℕ) → WorldLine
  step : (actor : List ℕ) → Kind → WorldLine
  finish : (actor : List ℕ) → WorldLine
  die : (actor : List ℕ) → WorldLine
  land : (put : ℕ) → WorldLine

-- what a line asks for, wherever its texts lie in memory
pub data Statement : Type 0 where
  create : (id : List ℕ) (at : ℕ) (schema : List ℕ) → Statement
  task : Task → Statement
  look : Look → Statement
  foreign : (version : ℕ) (action : List ℕ) → Statement
  tries : ℕ → Statement
  world : WorldLine → Statement

-- APP NUMBER AT, and the text behind them
unfoldable pub append_head : List ℕ → Option (List ℕ × ℕ × ℕ × List ℕ)
append_head text = do
  application ← word_and_rest text
  digits ← word_and_rest application.1
  number ← script_number digits.0
  moment ← word_and_rest digits.1
  at ← moment_of moment.0
  Some (application.0, number, at, moment.1)

-- append APP NUMBER AT ROWS
unfoldable pub append_from : List ℕ → Option Task
append_from text = do
  head ← append_head text
  rows ← json_array_in head.3
  Some (append head.0 head.1 head.2 rows)

-- close APP AT
unfoldable pub close_from : List ℕ → Option Task
close_from text = do
  application ← word_and_rest text
  at ← moment_of application.1
  Some (close application.0 at)

-- tail MAX OFFSET
unfoldable pub tail_from : List ℕ → Option Task
tail_from text = do
  digits ← word_and_rest text
  max ← max_of digits.0
  Some (tail max digits.1)

-- a task's line that is one word
abbrev pub bare_task : Verb → Option Task
bare_task verb.Checkpoint = Some checkpoint
bare_task _ = None

-- a task's line of that verb with this text behind it
abbrev pub task_from : Verb → List ℕ → Option Task
task_from verb.Append text = append_from text
task_from verb.Close text = close_from text
task_from verb.Tail text = tail_from text
task_from _ text = None

-- the task of a line that is split at its first space, or has none
abbrev pub task_split : List ℕ → Option (List ℕ × List ℕ) → Option Task
task_split text None = verb_of text >>= bare_task
task_split text (Some p) = verb_of p.0 >>= (λ v. task_from v p.1)

-- the task that a line spells
unfoldable pub task_of : List ℕ → Option Task
task_of text = task_split text (word_and_rest text)

-- create ID AT SCHEMA
unfoldable pub create_from : List ℕ → Option Statement
create_from text = do
  id ← word_and_rest text
  moment ← word_and_rest id.1
  at ← moment_of moment.0
  Some (create id.0 at moment.1)

-- start ACTOR JOB
unfoldable pub start_from : List ℕ → Option Statement
start_from text = do
  actor ← word_and_rest text
  job ← task_of actor.1
  Some (world (start actor.0 job))

-- step ACTOR KIND
unfoldable pub step_from : List ℕ → Option Statement
step_from text = do
  actor ← word_and_rest text
  kind ← kind_named actor.1
  Some (world (step actor.0 kind))

-- foreign V LINE
unfoldable pub foreign_from : List ℕ → Option Statement
foreign_from text = do
  digits ← word_and_rest text
  version ← script_number digits.0
  Some (foreign version digits.1)

-- a line that is one word
abbrev pub bare_statement : Verb → Option Statement
bare_statement verb.Checkpoint = Some (task checkpoint)
bare_statement verb.Snapshot = Some (look snapshot)
bare_statement verb.History = Some (look history)
bare_statement _ = None

-- a line of that verb with a number or a kind behind it
abbrev pub counted_from : Verb → List ℕ → Option Statement
counted_from verb.Show text = option_map (λ version. look (show version)) (script_number text)
counted_from verb.Tries text = option_map tries (tries_of text)
counted_from verb.Fault text = option_map (λ kind. world (fault kind)) (kind_named text)
counted_from verb.Land text = option_map (λ put. world (land put)) (script_number text)
counted_from _ text = None

-- a line of that verb with this text behind it, where it has no task
abbrev pub plain_from : Verb → List ℕ → Option Statement
plain_from verb.Create text = create_from text
plain_from verb.Hex text = Some (look (hex text))
plain_from verb.Until text = Some (world (until text))
plain_from verb.Step text = step_from text
plain_from verb.Finish text = Some (world (finish text))
plain_from verb.Die text = Some (world (die text))
plain_from verb.Foreign text = foreign_from text
plain_from v text = counted_from v text

-- a line of that verb with this text behind it
abbrev pub statement_from : Verb → List ℕ → Option Statement
statement_from verb.Append text = option_map task (append_from text)
statement_from verb.Close text = option_map task (close_from text)
statement_from verb.Tail text = option_map task (tail_from text)
statement_from verb.Start text = start_from text
statement_from v text = plain_from v text

-- what a line asks for that is split at its first space, or has none
abbrev pub statement_split : List ℕ → Option (List ℕ × List ℕ) → Option Statement
statement_split text None = verb_of text >>= bare_statement
statement_split text (Some p) = verb_of p.0 >>= (λ v. statement_from v p.1)

-- what the text of a line asks for
unfoldable pub statement_of : List ℕ → Option Statement
statement_of text = statement_split text (word_and_rest text)

-- what a line is
pub data Reading : Type 0 where
  skipped : Reading
  bad : Reading
  asks : Statement → Reading

-- a number sign stands first
abbrev pub is_comment : List ℕ → Bool
is_comment bytes = starts_with nat_eq bytes (codes "#")

-- bytes that are text
unfoldable pub text_of : List ℕ → Option (List ℕ)
text_of bytes = if is_utf8 bytes then Some bytes else None

-- a text that asks for nothing is bad
abbrev pub asked : Option Statement → Reading
asked None = bad
asked (Some statement) = asks statement

-- a blank line and a comment are skipped, and any other line is text that asks for something, or bad
unfoldable pub reading_of : List ℕ → Reading
reading_of bytes =
    if is_blank bytes || is_comment bytes
    then skipped
    else asked (text_of bytes >>= statement_of)

-- the task that a job of the code stands for
abbrev pub task_view : Job → Task
task_view (job.Append application number at rows) = append application.now number at (rows_data rows)
task_view (job.Close application at) = close application.now at
task_view job.Checkpoint = checkpoint
task_view (job.Tail max offset) = tail max offset.now

-- what a line of the code shows, and what it does to a world
abbrev pub look_view : code_look.Look → Look
look_view looks.Snapshot = snapshot
look_view looks.History = history
look_view (looks.Show version) = show version
look_view (looks.Hex name) = hex name.now

abbrev pub world_view : code_world.WorldLine → WorldLine
world_view (worlds.Fault kind) = fault kind
world_view (worlds.Start actor job) = start actor.now (task_view job)
world_view (worlds.Until actor) = until actor.now
world_view (worlds.Step actor kind) = step actor.now kind
world_view (worlds.Finish actor) = finish actor.now
world_view (worlds.Die actor) = die actor.now
world_view (worlds.Land put) = land put

-- what a line of the code asks for
abbrev pub statement_view : Line → Statement
statement_view (line.Create id at schema) = create id.now at schema.now
statement_view (line.Job job) = task (task_view job)
statement_view (line.Look shown) = look (look_view shown)
statement_view (line.Foreign version action) = foreign version action.now
statement_view (line.Tries count) = tries count
statement_view (line.World changed) = world (world_view changed)

-- a moment fits where a commit keeps one
abbrev pub IsTimelyTask : Task → Type 0
IsTimelyTask (append application number at rows) = at < 2 ^ 63
IsTimelyTask (close application at) = at < 2 ^ 63
IsTimelyTask checkpoint = ⊤
IsTimelyTask (tail max offset) = ⊤

abbrev pub IsTimelyIn : WorldLine → Type 0
IsTimelyIn (start actor job) = IsTimelyTask job
IsTimelyIn (fault kind) = ⊤
IsTimelyIn (until actor) = ⊤
IsTimelyIn (step actor kind) = ⊤
IsTimelyIn (finish actor) = ⊤
IsTimelyIn (die actor) = ⊤
IsTimelyIn (land put) = ⊤

abbrev pub IsTimely : Statement → Type 0
IsTimely (create id at schema) = at < 2 ^ 63
IsTimely (task job) = IsTimelyTask job
IsTimely (look line) = ⊤
IsTimely (foreign version action) = ⊤
IsTimely (tries count) = ⊤
IsTimely (world line) = IsTimelyIn line

-- what the code took a line for
abbrev pub reading_view : readings.Reading → Reading
reading_view view.Skipped = skipped
reading_view view.Bad = bad
reading_view (view.Asks line) = asks (statement_view line)
