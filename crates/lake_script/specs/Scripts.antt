-- What holds of a whole script that begins with a store which keeps a table, or nothing.
use Rattle.std.specs.Prelude.{◌≡◌, ◌≤◌, ◌+◌, ◌++◌, ℕ, List, [], ◌∷◌, length, Option, if◌then◌else◌}
use Rattle.std.specs.Io.KnownBytes.{Appends}
use Rattle.store_core.specs.Objects.{Objects}
use Rattle.commit_core.specs.Holds.{Holds}
use Rattle.table_model.specs.Lawful.{IsLawful}
use Rattle.source_core.specs.Tails.{HandOutTheLog, HandOutAll, AreAnswered}
use Rattle.delta_actions.specs.Commit.{lines_of}
use Rattle.commit_core.specs.LawfulLogs.{HasLawfulLog}
use Rattle.commit_core.specs.SoundStores.{IsSoundStore}
use Rattle.lake_script.specs.Keeps.{Keeps, KeepsBeside}
use Rattle.script_lines.specs.Lines.{Statement, append, close, checkpoint, tail, create, task, snapshot, history, show, hex, tries, foreign, Reading, skipped, bad, asks, reading_of, look, world}
use Rattle.lake_script.specs.Replies.{bad_line}
use Rattle.lake_script.specs.Tables as tables
use Rattle.lake_script.specs.Tables.{TableState, nothing, table, table_expected_from, table_expected_output, table_left, entries_of_state, AreOfTable}
use Rattle.lake_script.specs.Told as told
use Rattle.lake_script.specs.Told.{is_bad, ArePrintedLines, ArePutHere}

-- the store holds this table, or nothing stands
abbrev pub HoldsState : Objects → TableState → Type 0
HoldsState objects nothing = objects ≡ []
HoldsState objects (table schema entries) = Holds objects schema entries × IsLawful entries

-- Where there is a table, no read is refused that goes on where the one before ended.
abbrev pub AnswersReads : Objects → TableState → Type 0
AnswersReads objects nothing = Unit {0}
AnswersReads objects (table schema entries) = AreAnswered objects

-- Reads over the store of a table that follow one another are answered, and hand out the table's rows, whatever their
-- limits: from the beginning up to where they came, and all once one hands out fewer rows than its limit.
pub record ReadsOut (objects : Objects) (state : TableState) : Type 0 where
  pub answered : AnswersReads objects state
  pub up_to : HandOutTheLog objects (entries_of_state state)
  pub all : HandOutAll objects (entries_of_state state)

-- ---- objects that are shown

-- The reply to what a line asks for: an object that is shown and the snapshot are those of the objects in front of the
-- line, and all else is told by the table.
abbrev pub reply_over : TableState → Objects → Statement → (printed : List ℕ) → List ℕ
reply_over state objects (look snapshot) printed = told.reply_to_statement objects (look snapshot) printed
reply_over state objects (look (show version)) printed = told.reply_to_statement objects (look (show version)) printed
reply_over state objects (look (hex name)) printed = told.reply_to_statement objects (look (hex name)) printed
reply_over state objects (foreign version action) printed = told.reply_to_statement objects (foreign version action) printed
reply_over state objects (create id at schema) printed = tables.table_reply_to_statement state (create id at schema)
reply_over state objects (task (append application number at items)) printed = tables.table_reply_to_statement state (task (append application number at items))
reply_over state objects (task (tail max offset)) printed = tables.table_reply_to_statement state (task (tail max offset))
reply_over state objects (task checkpoint) printed = tables.table_reply_to_statement state (task checkpoint)
reply_over state objects (look history) printed = tables.table_reply_to_statement state (look history)
reply_over state objects (task (close application at)) printed = tables.table_reply_to_statement state (task (close application at))
reply_over state objects (tries count) printed = tables.table_reply_to_statement state (tries count)
reply_over state objects (world line) printed = tables.table_reply_to_statement state (world line)

-- the same of a line that is read, of that number
abbrev pub line_over : ℕ → TableState → Objects → Reading → (printed : List ℕ) → List ℕ
line_over number state objects skipped printed = []
line_over number state objects bad printed = bad_line number
line_over number state objects (asks statement) printed = reply_over state objects statement printed

-- What is told for these lines, of which the first has that number, by a table and the objects that keep it.
unfoldable pub expected_over : ℕ → TableState → Objects → (lines texts : List (List ℕ)) → List ℕ
expected_over number state objects [] texts = []
expected_over number state objects (line ∷ lines) [] = []
expected_over number state objects (line ∷ lines) (printed ∷ texts) =
    line_over number state objects (reading_of line) printed
    ++ (if is_bad (reading_of line) then [] else expected_over (number + 1) (tables.table_left_by state (reading_of line)) (told.left_by objects (reading_of line) printed) lines texts)

-- that is what was written, for some texts that stand beside the lines
abbrev pub IsExpectedOver : (held written : Option (List ℕ)) → TableState → Objects → (lines : List (List ℕ)) → Type 0
IsExpectedOver held written state objects lines = (texts : List (List ℕ)) × ArePrintedLines objects lines texts × Appends held written (expected_over 1 state objects lines texts)

-- ---- a whole script

-- What is written behind what was held begins with what the plain table tells for the lines in front of the first that
-- shows an object, tells the snapshot or puts another tool's commit.
abbrev pub BeginsByTable : TableState → (held written : Option (List ℕ)) (text : List ℕ) → Type 0
BeginsByTable state held written text =
    (front rest : List (List ℕ)) → lines_of text ≡ front ++ rest → AreOfTable front → (more : List ℕ) × Appends held written (table_expected_from 1 state front ++ more)

-- Over objects that keep a table, or nothing, what is written behind what was held is what the plain table tells, where
-- no line shows an object, tells the snapshot or puts another tool's commit, and begins with that in any case. Where
-- none puts such a commit, what is shown is told by the objects and all else by the table, the objects behind the
-- script keep the table that the lines leave, and reads over them that follow one another hand out its rows.
pub record IsScript (state : TableState) (held written : Option (List ℕ)) (text : List ℕ) (before after : Objects) : Type 0 where
  pub by_table : AreOfTable (lines_of text) → Appends held written (table_expected_output state text)
  pub begins : BeginsByTable state held written text
  pub over : ArePutHere (lines_of text) → IsExpectedOver held written state before (lines_of text)
  pub keeps : ArePutHere (lines_of text) → Keeps after (table_left state text)
  pub holds : ArePutHere (lines_of text) → HoldsState after (table_left state text)
  pub reads : ArePutHere (lines_of text) → ReadsOut after (table_left state text)

-- However a run ends, the store is sound behind it and its log is lawful, and it keeps a table, of no more new entries
-- than the script has lines; data files of other batches may stand.
pub record StaysSound (state : TableState) (lines : ℕ) (after : Objects) : Type 0 where
  pub sound : IsSoundStore after
  pub lawful : HasLawfulLog after
  pub keeps : (left : TableState) × KeepsBeside after left × (length (entries_of_state left) ≤ length (entries_of_state state) + lines)
