-- What a script is told, by the plain table that there is: a schema and a list of entries, one a version. No store,
-- file or commit is spoken of; a data file's name stands in one reply. A checkpoint changes no entry. Lines that show
-- an object, tell the snapshot or put another tool's commit are none of a table's, so nothing is said of them here
-- (`AreOfTable`).
use Rattle.std.specs.Prelude.{ℕ, suc, ◌+◌, ◌-◌, List, length, [], ◌∷◌, ◌++◌, Option, None, Some, Result, Ok, Err, codes, if◌then◌else◌}
use Rattle.std.specs.Fmt.{decimal}
use Rattle.std.specs.List.{flat_map}
use Rattle.serde_json.specs.Events.{items_len}
use Rattle.serde_json.specs.Data.{Items}
use Rattle.table_model.specs.Table.{Batch, Entry, creation, batches_of, closes_of}
use Rattle.delta_actions.specs.Names.{data_file_name}
use Rattle.table_model.specs.Appends.{appended, closing, with_batch, with_close}
use Rattle.table_model.specs.declared.table.Closing.{Closing}
use Rattle.table_model.specs.declared.table.Closing.TheVariants.{Closed, AlreadyClosed}
use Rattle.table_model.specs.declared.table.AppendAnswer.{AppendAnswer}
use Rattle.table_model.specs.declared.table.AppendAnswer.TheVariants.{Committed, Already, Stale, Differs, StreamClosed}
use Rattle.table_model.specs.declared.reading.Offset.{Offset}
use Rattle.table_model.specs.Reads.{Answer, handed, beyond, bad_place, read}
use Rattle.schema_tree.specs.Tree.{Tree}
use Rattle.batch_core.specs.Requests.{checked, named}
use Rattle.commit_core.specs.Creating as creations
use Rattle.commit_core.specs.Creating.{table_exists, described}
use Rattle.commit_core.specs.Histories.{close_told, number_told}
use Rattle.commit_core.specs.Histories as histories
use Rattle.snapshot_core.specs.Faults.{bad_log, unsupported}
use Rattle.lake_script.specs.Checkpoints.{by_log, checkpointed_at, not_put_text}
use Rattle.script_lines.specs.Lines.{Statement, append, close, checkpoint, tail, create, task, snapshot, history, show, hex, tries, foreign, Reading, skipped, bad, asks, reading_of, look, world}
use Rattle.log_offsets.specs.Offsets.{offset_of}
use Rattle.batch_core.specs.Refusals as appends
use Rattle.commit_core.specs.Texts as texts
use Rattle.commit_core.specs.Texts.{refused}
use Rattle.lake_script.specs.Replies.{created, committed_at, already, already_closed, stream_closed_at, noted, bad_line}
use Rattle.outcomes.specs.Results.{◌>>=◌, refused_if}
use Rattle.delta_replay.specs.Support.{feature, has_key_inside}
use Rattle.batch_core.specs.RowsIn.{rows_from, takes_rows}
use Rattle.source_core.specs.Tailing as tails
use Rattle.source_core.specs.TailTexts.{next_line, rows_text}
use Rattle.source_core.specs.TailFaults as tail_texts
use Rattle.delta_actions.specs.Commit.{lines_of}
use Rattle.lake_script.specs.Told.{is_bad, not_yet}
use Rattle.outcomes.specs.Lines.{with_newline}

-- what there is: no table, or one of a schema and its entries
pub data TableState : Type 0 where
  nothing : TableState
  table : (schema : Tree) → List Entry → TableState

-- ---- create

-- one table is created, and no second one
abbrev pub creating : TableState → Result Tree creations.CreateRefusal → Result Tree creations.CreateRefusal
creating state (Err why) = Err why
creating nothing (Ok schema) = Ok schema
creating (table old entries) (Ok schema) = Err table_exists

abbrev pub table_created_reply : Result Tree creations.CreateRefusal → List ℕ
table_created_reply (Ok schema) = with_newline created
table_created_reply (Err why) = with_newline (refused (texts.create_refusal_text why))

abbrev pub with_table : TableState → Result Tree creations.CreateRefusal → TableState
with_table state (Ok schema) = table schema (creation ∷ [])
with_table state (Err why) = state

-- ---- append

-- the batch that a line hands in, or the first reason why it hands in none
abbrev pub batch_in : TableState → (application : List ℕ) (number : ℕ) → Items → Result Batch appends.SinkRefusal
batch_in nothing application number items = checked application number (items_len items) >>= λ fine. Err (appends.bad_log 0)
batch_in (table schema entries) application number items = do
  fine ← checked application number (items_len items)
  plain ← refused_if (has_key_inside (codes "delta.invariants") schema) (appends.read_only (feature (codes "invariants")))
  supported ← takes_rows schema
  rows ← rows_from 0 schema items
  Ok (record { application = application; number = number; rows = rows })

-- what the table answers
abbrev pub answer_text : Batch → AppendAnswer → List ℕ
answer_text b (Committed version) = committed_at version
answer_text b (Already number) = already number
answer_text b (Stale last) = refused (codes "S1 Stale " ++ decimal last)
answer_text b Differs = refused (codes "S3 Differs " ++ data_file_name b.application b.number)
answer_text b StreamClosed = refused (codes "S2 StreamClosed")

abbrev pub entries_of_state : TableState → List Entry
entries_of_state nothing = []
entries_of_state (table schema entries) = entries

abbrev pub appended_reply : TableState → Result Batch appends.SinkRefusal → List ℕ
appended_reply state (Ok b) = with_newline (answer_text b (appended b (entries_of_state state)))
appended_reply state (Err refusal) = with_newline (refused (appends.sink_refusal_text refusal))

abbrev pub with_appended : TableState → Result Batch appends.SinkRefusal → TableState
with_appended nothing answer = nothing
with_appended (table schema entries) (Ok b) = table schema (with_batch (appended b entries) b entries)
with_appended (table schema entries) (Err refusal) = table schema entries

-- ---- close

-- the application whose stream a line closes, or the first reason why it closes none
abbrev pub stream_in : TableState → (application : List ℕ) → Result (Unit {0}) appends.SinkRefusal
stream_in nothing application = named application >>= λ fine. Err (appends.bad_log 0)
stream_in (table schema entries) application = do
  fine ← named application
  refused_if (has_key_inside (codes "delta.invariants") schema) (appends.read_only (feature (codes "invariants")))

-- what the table answers
abbrev pub closing_text : Closing → List ℕ
closing_text (Closed version) = stream_closed_at version
closing_text AlreadyClosed = already_closed

abbrev pub closed_reply : TableState → (application : List ℕ) → Result (Unit {0}) appends.SinkRefusal → List ℕ
closed_reply state application (Ok fine) = with_newline (closing_text (closing application (entries_of_state state)))
closed_reply state application (Err refusal) = with_newline (refused (appends.sink_refusal_text refusal))

abbrev pub with_closed : TableState → (application : List ℕ) → Result (Unit {0}) appends.SinkRefusal → TableState
with_closed nothing application answer = nothing
with_closed (table schema entries) application (Ok fine) = table schema (with_close application entries)
with_closed (table schema entries) application (Err refusal) = table schema entries

-- ---- tail

-- a row a line, and where the next read begins
abbrev pub read_text : (schema : Tree) → Answer → List ℕ
read_text schema (handed rows next) = rows_text schema rows ++ next_line next
read_text schema (beyond next) = with_newline (refused (tail_texts.read_refusal_text (tails.beyond_log next)))
read_text schema (bad_place version) = with_newline (refused (tail_texts.read_refusal_text (tails.bad_place version)))

-- a read from an offset on
abbrev pub read_from : TableState → (max : ℕ) → Offset → List ℕ
read_from nothing max offset = with_newline (refused (tail_texts.read_refusal_text (tails.bad_log 0)))
read_from (table schema entries) max offset = read_text schema (read max offset entries)

-- a read from an offset on, where its text can be read
abbrev pub tail_reply : TableState → (max : ℕ) → Option Offset → List ℕ
tail_reply state max None = with_newline (refused (tail_texts.read_refusal_text tails.bad_offset))
tail_reply state max (Some offset) = read_from state max offset

-- ---- history

-- the numbers of its batches, in order, and the stream that it closes
abbrev pub entry_told : Entry → List ℕ
entry_told entry = flat_map (λ b. number_told b.application b.number) (batches_of entry) ++ flat_map close_told (closes_of entry)

abbrev pub table_history_from : (version : ℕ) → List Entry → List ℕ
table_history_from version [] = []
table_history_from version (entry ∷ entries) = with_newline (decimal version ++ entry_told entry) ++ table_history_from (suc version) entries

abbrev pub history_reply : TableState → List ℕ
history_reply nothing = histories.bad_log 0
history_reply (table schema entries) = table_history_from 0 entries

-- ---- checkpoint

-- a table of a schema with invariants has none; otherwise that of its newest version
abbrev pub table_checkpoint_reply : TableState → List ℕ
table_checkpoint_reply nothing = with_newline (refused (not_put_text (by_log (bad_log 0))))
table_checkpoint_reply (table schema entries) =
    if has_key_inside (codes "delta.invariants") schema
    then with_newline (refused (not_put_text (by_log (unsupported (feature (codes "invariants"))))))
    else with_newline (checkpointed_at (length entries - 1))

-- ---- lines

-- the reply to what a line asks for; a line that isn't there yet is told so, and here those that aren't of the table too
abbrev pub table_reply_to_statement : TableState → Statement → List ℕ
table_reply_to_statement state (create id at schema) = table_created_reply (creating state (described id schema))
table_reply_to_statement state (task (append application number at items)) = appended_reply state (batch_in state application number items)
table_reply_to_statement state (task (tail max offset)) = tail_reply state max (offset_of offset)
table_reply_to_statement state (task checkpoint) = table_checkpoint_reply state
table_reply_to_statement state (look history) = history_reply state
table_reply_to_statement state (look snapshot) = not_yet
table_reply_to_statement state (look (show version)) = not_yet
table_reply_to_statement state (look (hex name)) = not_yet
table_reply_to_statement state (foreign version action) = not_yet
table_reply_to_statement state (task (close application at)) = closed_reply state application (stream_in state application)
table_reply_to_statement state (tries count) = with_newline noted
table_reply_to_statement state (world line) = not_yet

-- the table behind it
abbrev pub table_left_by_statement : TableState → Statement → TableState
table_left_by_statement state (create id at schema) = with_table state (creating state (described id schema))
table_left_by_statement state (task (append application number at items)) = with_appended state (batch_in state application number items)
table_left_by_statement state (task (tail max offset)) = state
table_left_by_statement state (task checkpoint) = state
table_left_by_statement state (look line) = state
table_left_by_statement state (foreign version action) = state
table_left_by_statement state (task (close application at)) = with_closed state application (stream_in state application)
table_left_by_statement state (tries count) = state
table_left_by_statement state (world line) = state

-- the reply to a line of that number
abbrev pub table_reply_to : ℕ → TableState → Reading → List ℕ
table_reply_to number state skipped = []
table_reply_to number state bad = bad_line number
table_reply_to number state (asks statement) = table_reply_to_statement state statement

-- the table behind a line
abbrev pub table_left_by : TableState → Reading → TableState
table_left_by state skipped = state
table_left_by state bad = state
table_left_by state (asks statement) = table_left_by_statement state statement

-- what is told for these lines, of which the first has that number; nothing is told behind a bad line
unfoldable pub table_expected_from : ℕ → TableState → List (List ℕ) → List ℕ
table_expected_from number state [] = []
table_expected_from number state (line ∷ lines) =
    table_reply_to number state (reading_of line)
    ++ (if is_bad (reading_of line) then [] else table_expected_from (number + 1) (table_left_by state (reading_of line)) lines)

-- the table behind these lines; a bad line ends them
unfoldable pub table_left_from : TableState → List (List ℕ) → TableState
table_left_from state [] = state
table_left_from state (line ∷ lines) = if is_bad (reading_of line) then state else table_left_from (table_left_by state (reading_of line)) lines

-- what is told for a script, its lines counted from 1
abbrev pub table_expected_output : TableState → (script : List ℕ) → List ℕ
table_expected_output state script = table_expected_from 1 state (lines_of script)

-- the table that a script leaves
abbrev pub table_left : TableState → (script : List ℕ) → TableState
table_left state script = table_left_from state (lines_of script)

-- ---- which lines are told by the table alone

-- a line neither shows an object of the store, nor tells its snapshot, nor puts another tool's commit
abbrev pub AsksTable : Statement → Type 0
AsksTable (look snapshot) = ⊥
AsksTable (look (show version)) = ⊥
AsksTable (look (hex name)) = ⊥
AsksTable (foreign version action) = ⊥
AsksTable (create id at schema) = Unit {0}
AsksTable (task (append application number at items)) = Unit {0}
AsksTable (task (tail max offset)) = Unit {0}
AsksTable (task checkpoint) = Unit {0}
AsksTable (look history) = Unit {0}
AsksTable (task (close application at)) = Unit {0}
AsksTable (tries count) = Unit {0}
AsksTable (world line) = Unit {0}

abbrev pub IsOfTable : Reading → Type 0
IsOfTable skipped = Unit {0}
IsOfTable bad = Unit {0}
IsOfTable (asks statement) = AsksTable statement

-- no line shows an object of the store, tells its snapshot or puts another tool's commit
abbrev pub AreOfTable : List (List ℕ) → Type 0
AreOfTable [] = Unit {0}
AreOfTable (line ∷ lines) = IsOfTable (reading_of line) × AreOfTable lines
