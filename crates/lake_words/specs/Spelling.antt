-- Which words are which command on the table in a folder, as the program's help has them.
use Rattle.std.specs.Prelude.{◌≡◌, ℕ, ◌≤◌, Bool, true, false, List, [], ◌∷◌, ◌++◌, Option, Some, None, codes}
use Rattle.std.specs.Str.Parse.{starts_with_minus}
use Rattle.clap.specs.Words.{Text}
use Rattle.lake_words.specs.Asked.{ProgramCommand, argument_number, table}
use Rattle.lake_words.specs.Asked as asked

-- the text doesn't begin with a hyphen, so that it is a value and no option
abbrev pub IsArgumentValue : Text → Type 0
IsArgumentValue text = starts_with_minus text ≡ false

-- the text writes this number, below 2^64: decimal digits, with at most one plus before them
abbrev pub IsNumber : Text → ℕ → Type 0
IsNumber text number = argument_number text ≡ Some number

-- [--at MS]: a moment in milliseconds, 0 unless it is given
pub data SpellsMoment : List Text → ℕ → Type 0 where
  beginning : SpellsMoment [] 0
  moment : {text : Text} {at : ℕ} → IsNumber text at → at ≤ 999_999_999_999_999 → SpellsMoment (codes "--at" ∷ text ∷ []) at

-- [--tries N]: how often a commit is tried, 1 to 64, and 16 times unless it is given
pub data SpellsTries : List Text → ℕ → Type 0 where
  sixteen : SpellsTries [] 16
  tries : {text : Text} {n : ℕ} → IsNumber text n → 1 ≤ n → n ≤ 64 → SpellsTries (codes "--tries" ∷ text ∷ []) n

-- [--rows N]: how many rows the input has, any number unless it is given
pub data SpellsRows : List Text → Option ℕ → Type 0 where
  any : SpellsRows [] None
  rows : {text : Text} {n : ℕ} → IsNumber text n → SpellsRows (codes "--rows" ∷ text ∷ []) (Some n)

-- [--from OFFSET]: where a read begins, at the log's start unless it is given
pub data SpellsPlace : List Text → Text → Type 0 where
  start : SpellsPlace [] (codes "start")
  from : {offset : Text} → IsArgumentValue offset → SpellsPlace (codes "--from" ∷ offset ∷ []) offset

-- [--max N]: how many rows a read hands out at most, up to 65,536, and so many unless it is given
pub data SpellsMost : List Text → ℕ → Type 0 where
  greatest : SpellsMost [] 65_536
  most : {text : Text} {n : ℕ} → IsNumber text n → n ≤ 65_536 → SpellsMost (codes "--max" ∷ text ∷ []) n

-- [--no-checkpoint]: whether the log is read from its newest checkpoint
pub data SpellsRestore : List Text → Bool → Type 0 where
  restoring : SpellsRestore [] true
  replaying : SpellsRestore (codes "--no-checkpoint" ∷ []) false

-- the words that ask for a job on the table in a folder, for its check or for what refusals mean, of which the first is the program's name
pub data SpellsJob : List Text → ProgramCommand → Type 0 where
  -- create DIR --id ID --schema TEXT [--at MS]
  create : {program dir id schema : Text} {moment_words : List Text} {at : ℕ}
      → IsArgumentValue dir → IsArgumentValue id → IsArgumentValue schema → SpellsMoment moment_words at
      → SpellsJob (program ∷ codes "create" ∷ dir ∷ codes "--id" ∷ id ∷ codes "--schema" ∷ schema ∷ moment_words)
      (table dir true (asked.create id schema at))
  -- append DIR APP NUMBER [--rows N] [--at MS] [--tries N] [--no-checkpoint]
  append : {program dir application number : Text} {rows_words moment_words tries_words restore_words : List Text} {n at tries : ℕ} {rows : Option ℕ} {use_checkpoints : Bool}
      → IsArgumentValue dir → IsArgumentValue application → IsNumber number n → SpellsRows rows_words rows
      → SpellsMoment moment_words at → SpellsTries tries_words tries → SpellsRestore restore_words use_checkpoints
      → SpellsJob (program ∷ codes "append" ∷ dir ∷ application ∷ number ∷ rows_words ++ (moment_words ++ (tries_words ++ restore_words)))
      (table dir use_checkpoints (asked.append application n at tries rows))
  -- close DIR APP [--at MS] [--tries N] [--no-checkpoint]
  close : {program dir application : Text} {moment_words tries_words restore_words : List Text} {at tries : ℕ} {use_checkpoints : Bool}
      → IsArgumentValue dir → IsArgumentValue application
      → SpellsMoment moment_words at → SpellsTries tries_words tries → SpellsRestore restore_words use_checkpoints
      → SpellsJob (program ∷ codes "close" ∷ dir ∷ application ∷ moment_words ++ (tries_words ++ restore_words))
      (table dir use_checkpoints (asked.close application at tries))
  -- load DIR --workers N [--at MS] [--tries N] [--no-checkpoint]
  load : {program dir number : Text} {moment_words tries_words restore_words : List Text} {workers at tries : ℕ} {use_checkpoints : Bool}
      → IsArgumentValue dir → IsNumber number workers
      → SpellsMoment moment_words at → SpellsTries tries_words tries → SpellsRestore restore_words use_checkpoints
      → SpellsJob (program ∷ codes "load" ∷ dir ∷ codes "--workers" ∷ number ∷ moment_words ++ (tries_words ++ restore_words))
      (table dir use_checkpoints (asked.load workers at tries))
  -- tail DIR [--from OFFSET] [--max N] [--no-checkpoint]
  tail : {program dir offset : Text} {place_words most_words restore_words : List Text} {max : ℕ} {use_checkpoints : Bool}
      → IsArgumentValue dir → SpellsPlace place_words offset → SpellsMost most_words max → SpellsRestore restore_words use_checkpoints
      → SpellsJob (program ∷ codes "tail" ∷ dir ∷ place_words ++ (most_words ++ restore_words))
      (table dir use_checkpoints (asked.tail max offset))
  -- snapshot DIR [--no-checkpoint]
  snapshot : {program dir : Text} {restore_words : List Text} {use_checkpoints : Bool} → IsArgumentValue dir → SpellsRestore restore_words use_checkpoints
      → SpellsJob (program ∷ codes "snapshot" ∷ dir ∷ restore_words) (table dir use_checkpoints asked.snapshot)
  -- checkpoint DIR [--no-checkpoint]
  checkpoint : {program dir : Text} {restore_words : List Text} {use_checkpoints : Bool} → IsArgumentValue dir → SpellsRestore restore_words use_checkpoints
      → SpellsJob (program ∷ codes "checkpoint" ∷ dir ∷ restore_words) (table dir use_checkpoints asked.checkpoint)
  -- history DIR [--no-checkpoint]
  history : {program dir : Text} {restore_words : List Text} {use_checkpoints : Bool} → IsArgumentValue dir → SpellsRestore restore_words use_checkpoints
      → SpellsJob (program ∷ codes "history" ∷ dir ∷ restore_words) (table dir use_checkpoints asked.history)
  -- check DIR
  check : {program dir : Text} → IsArgumentValue dir → SpellsJob (program ∷ codes "check" ∷ dir ∷ []) (asked.check dir)
  -- explain CODE
  explain : {program code : Text} → IsArgumentValue code → SpellsJob (program ∷ codes "explain" ∷ code ∷ []) (asked.explain (Some code))
  -- explain
  explain_all : {program : Text} → SpellsJob (program ∷ codes "explain" ∷ []) (asked.explain None)
