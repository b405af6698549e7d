-- What a script may be told where growths are refused, or replies can't be written: a line that wants memory is told just
-- that, and leaves the objects as they were, but for a batch's file, which may stand.
use Rattle.std.specs.Prelude.{◌≡◌, ◌⊎◌, ◌+◌, ◌++◌, ℕ, true, false, List, [], ◌∷◌, Option, Err}
use Rattle.std.specs.Io.KnownBytes.{Appends}
use Rattle.store_core.specs.Objects.{Objects}
use Rattle.store_core.specs.Texts as stores
use Rattle.store_core.specs.declared.fault.StoreFault.TheVariants as store_faults
use Rattle.commit_core.specs.declared.fault.CreateFault.TheVariants as create_faults
use Rattle.sink_core.specs.Appending.{append_plan, MayHoldFile}
use Rattle.lake_script.specs.Growth.{MayPut}
use Rattle.commit_core.specs.Histories.{unanswered}
use Rattle.snapshot_core.specs.Taking as checkpoints
use Rattle.lake_script.specs.Checkpoints.{not_put_text, too_large}
use Rattle.script_lines.specs.Lines.{Statement, append, close, checkpoint, tail, create, task, snapshot, history, show, hex, tries, foreign, Reading, skipped, bad, asks, reading_of, look, world}
use Rattle.batch_core.specs.Refusals.{sink_refusal_text, memory, file_too_large}
use Rattle.commit_core.specs.Texts.{create_fault_text, refused}
use Rattle.lake_script.specs.Replies.{bad_line}
use Rattle.lake_script.specs.Streams.{WritesFront}
use Rattle.source_core.specs.TailFaults as tail_texts
use Rattle.source_core.specs.Tailing as tails
use Rattle.delta_actions.specs.Commit.{lines_of}
use Rattle.lake_script.specs.Told.{is_bad, IsPrintedStatement, reply_to_statement, left_by_statement}
use Rattle.outcomes.specs.Lines.{with_newline}

-- the replies to lines that create a table, append a batch or close a stream, show or put an object, read rows, and put a
-- checkpoint or tell the snapshot or the history, where a growth was refused
abbrev pub no_room_to_create : List ℕ
no_room_to_create = with_newline (refused (create_fault_text create_faults.Memory))

abbrev pub no_room_to_append : List ℕ
no_room_to_append = with_newline (refused (sink_refusal_text memory))

abbrev pub no_room_to_show : List ℕ
no_room_to_show = with_newline (refused (stores.fault_text store_faults.Memory))

abbrev pub no_room_to_read : List ℕ
no_room_to_read = with_newline (refused (tail_texts.read_refusal_text tails.memory))

abbrev pub no_room_to_tell : List ℕ
no_room_to_tell = with_newline (refused (unanswered store_faults.Memory))

-- the reply to a line whose growth was refused; no other line is told so
abbrev pub IsWantOfMemory : Statement → List ℕ → Type 0
IsWantOfMemory (create id at schema) reply = reply ≡ no_room_to_create
IsWantOfMemory (task (append application number at rows)) reply = reply ≡ no_room_to_append
IsWantOfMemory (task (tail max offset)) reply = reply ≡ no_room_to_read
IsWantOfMemory (task checkpoint) reply = reply ≡ no_room_to_tell
IsWantOfMemory (look snapshot) reply = reply ≡ no_room_to_tell
IsWantOfMemory (look history) reply = reply ≡ no_room_to_tell
IsWantOfMemory (look (show version)) reply = reply ≡ no_room_to_show
IsWantOfMemory (look (hex name)) reply = reply ≡ no_room_to_show
IsWantOfMemory (foreign version action) reply = reply ≡ no_room_to_show
IsWantOfMemory (task (close application at)) reply = reply ≡ no_room_to_append
IsWantOfMemory (tries count) reply = ⊥
IsWantOfMemory (world line) reply = ⊥

-- the replies to lines that create a table and append a batch, where an object would pass 64 MiB
abbrev pub too_large_to_create : List ℕ
too_large_to_create = with_newline (refused (create_fault_text create_faults.TooLarge))

abbrev pub too_large_to_append : List ℕ
too_large_to_append = with_newline (refused (sink_refusal_text file_too_large))

abbrev pub too_large_to_checkpoint : List ℕ
too_large_to_checkpoint = with_newline (refused (not_put_text too_large))

-- the reply to a line over these objects whose object would pass 64 MiB: the text to a creation, which is told so for
-- nothing else; the text to an append, and the file of its batch would pass them; or that to a checkpoint, and its bytes
-- would
abbrev pub IsToldTooLarge : Objects → Statement → List ℕ → Type 0
IsToldTooLarge objects (create id at schema) reply = reply ≡ too_large_to_create
IsToldTooLarge objects (task (append application number at rows)) reply = (reply ≡ too_large_to_append) × (append_plan false objects application number at rows ≡ Err file_too_large)
IsToldTooLarge objects (task checkpoint) reply = (reply ≡ too_large_to_checkpoint) × checkpoints.IsCheckpointTooLarge false objects
IsToldTooLarge objects (task (tail max offset)) reply = ⊥
IsToldTooLarge objects (look line) reply = ⊥
IsToldTooLarge objects (foreign version action) reply = ⊥
IsToldTooLarge objects (task (close application at)) reply = ⊥
IsToldTooLarge objects (tries count) reply = ⊥
IsToldTooLarge objects (world line) reply = ⊥

-- the reply to a line over these objects tells that a growth was refused, or that an object would pass 64 MiB
abbrev pub IsShort : Objects → Statement → List ℕ → Type 0
IsShort objects statement reply = IsWantOfMemory statement reply ⊎ IsToldTooLarge objects statement reply

-- the objects behind a line whose growth was refused: as they were, or with the file of the batch that it appends
abbrev pub MayLeave : Objects → Statement → Objects → Type 0
MayLeave objects (task (append application number at rows)) after = MayHoldFile objects (append_plan false objects application number at rows) after
MayLeave objects (create id at schema) after = after ≡ objects
MayLeave objects (task (tail max offset)) after = after ≡ objects
MayLeave objects (task checkpoint) after = after ≡ objects
MayLeave objects (look line) after = after ≡ objects
MayLeave objects (foreign version action) after = after ≡ objects
MayLeave objects (task (close application at)) after = after ≡ objects
MayLeave objects (tries count) after = after ≡ objects
MayLeave objects (world line) after = after ≡ objects

-- a line has what it asks for, with some text beside it
abbrev pub Has : Objects → Statement → List ℕ → Objects → Type 0
Has objects statement reply after = (printed : List ℕ) × IsPrintedStatement objects statement printed × (reply ≡ reply_to_statement objects statement printed) × (after ≡ left_by_statement objects statement printed)

-- a line has what it asks for, or is told of want of memory and leaves the objects as they were, but for a batch's file
abbrev pub Executes : Objects → Statement → List ℕ → Objects → Type 0
Executes objects statement reply after = Has objects statement reply after ⊎ (IsWantOfMemory statement reply × MayLeave objects statement after)

-- the reply to a line of that number, and the objects behind it; what was put is well made
abbrev pub Replies : ℕ → Objects → Reading → List ℕ → Objects → Type 0
Replies number objects skipped reply after = (reply ≡ []) × (after ≡ objects)
Replies number objects bad reply after = (reply ≡ bad_line number) × (after ≡ objects)
Replies number objects (asks statement) reply after = Executes objects statement reply after × MayPut objects statement after

-- the reply to a line tells so
abbrev pub TellsShort : Objects → Reading → List ℕ → Type 0
TellsShort objects skipped reply = ⊥
TellsShort objects bad reply = ⊥
TellsShort objects (asks statement) reply = IsShort objects statement reply

-- what may be told for these lines, of which the first has that number, and the objects behind them; a bad line ends them
pub data Runs : ℕ → Objects → List (List ℕ) → List ℕ → Objects → Type 0 where
  done : {number : ℕ} {objects : Objects} → Runs number objects [] [] objects
  stops : {number : ℕ} {objects : Objects} {line : List ℕ} {lines : List (List ℕ)} {reply : List ℕ} {after : Objects}
      → is_bad (reading_of line) ≡ true → Replies number objects (reading_of line) reply after → Runs number objects (line ∷ lines) reply after
  goes_on : {number : ℕ} {objects final : Objects} {line : List ℕ} {lines : List (List ℕ)} (reply rest : List ℕ) (after : Objects)
      → is_bad (reading_of line) ≡ false → Replies number objects (reading_of line) reply after → Runs (number + 1) after lines rest final
      → Runs number objects (line ∷ lines) (reply ++ rest) final

-- what may be told for some first of these lines, and the objects behind them; the last of them may be bad
pub data RunsInPart : ℕ → Objects → List (List ℕ) → List ℕ → Objects → Type 0 where
  waits : {number : ℕ} {objects : Objects} {lines : List (List ℕ)} → RunsInPart number objects lines [] objects
  begins : {number : ℕ} {objects : Objects} {line : List ℕ} {lines : List (List ℕ)} {reply : List ℕ} {after : Objects}
      → Replies number objects (reading_of line) reply after → RunsInPart number objects (line ∷ lines) reply after
  follows : {number : ℕ} {objects final : Objects} {line : List ℕ} {lines : List (List ℕ)} (reply rest : List ℕ) (after : Objects)
      → is_bad (reading_of line) ≡ false → Replies number objects (reading_of line) reply after → RunsInPart (number + 1) after lines rest final
      → RunsInPart number objects (line ∷ lines) (reply ++ rest) final

-- what may be told for some first of these lines, and what follows it, where the last of their replies tells that a growth
-- was refused, or that an object would pass 64 MiB
pub data FallsShort : ℕ → Objects → List (List ℕ) → List ℕ → Type 0 where
  here : {number : ℕ} {objects : Objects} {line : List ℕ} {lines : List (List ℕ)} (reply rest : List ℕ) (after : Objects)
      → Replies number objects (reading_of line) reply after → TellsShort objects (reading_of line) reply → FallsShort number objects (line ∷ lines) (reply ++ rest)
  later : {number : ℕ} {objects : Objects} {line : List ℕ} {lines : List (List ℕ)} (reply rest : List ℕ) (after : Objects)
      → is_bad (reading_of line) ≡ false → Replies number objects (reading_of line) reply after → FallsShort (number + 1) after lines rest
      → FallsShort number objects (line ∷ lines) (reply ++ rest)

-- this may be told for a script over these objects, its lines counted from 1
abbrev pub MayBeTold : Objects → List ℕ → List ℕ → Type 0
MayBeTold objects text written = (after : Objects) × Runs 1 objects (lines_of text) written after

-- what a writer holds now is what it held, with some bytes behind it of which this is so
abbrev pub TellsWhole : Option (List ℕ) → Option (List ℕ) → (List ℕ → Type 0) → Type 0
TellsWhole old new Holds = (bytes : List ℕ) × Appends old new bytes × Holds bytes

-- what a writer holds now is a front of what it held and some bytes behind it, of which this is so
abbrev pub TellsFront : Option (List ℕ) → Option (List ℕ) → (List ℕ → Type 0) → Type 0
TellsFront old new Holds = (bytes : List ℕ) × WritesFront old new bytes × Holds bytes
