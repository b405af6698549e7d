-- What the words of a command line ask for.
use Rattle.std.specs.Prelude.{◌≡◌, ℕ, ◌^◌, ◌&&◌, Bool, true, false, not, List, [], ◌∷◌, Option, Some, None, length, nat_lt, codes, bytes_eq, unwrap_or, option_and_then, option_map, if◌then◌else◌}
use Rattle.std.specs.Option.{option_map_or}
use Rattle.std.specs.Str.{all_ascii_digits}
use Rattle.std.specs.Str.Parse.{digits_value, without_leading_plus}
use Rattle.clap.specs.Words.{Row, Text, first_of, one_of}
use Rattle.lake_words.specs.declared.command.Command.{Command}
use Rattle.lake_words.specs.declared.command.Command.TheVariants as commands
use Rattle.lake_words.specs.declared.command.Job.{Job}
use Rattle.lake_words.specs.declared.command.Job.TheVariants as jobs

-- what is to be done on a table, wherever its texts lie in memory
pub data Work : Type 0 where
  create : (id schema : Text) (at : ℕ) → Work
  append : (application : Text) (number at tries : ℕ) (rows : Option ℕ) → Work
  close : (application : Text) (at tries : ℕ) → Work
  load : (workers at tries : ℕ) → Work
  tail : (max : ℕ) (offset : Text) → Work
  snapshot : Work
  checkpoint : Work
  history : Work

-- what the program is asked for
pub data ProgramCommand : Type 0 where
  script : (use_checkpoints : Bool) → ProgramCommand
  table : (folder : Text) (use_checkpoints : Bool) → Work → ProgramCommand
  check : (folder : Text) → ProgramCommand
  explain : (asked : Option Text) → ProgramCommand

-- the same of the code
abbrev pub work_view : Job → Work
work_view (jobs.Create id schema at) = create id.now schema.now at
work_view (jobs.Append application number at tries rows) = append application.now number at tries rows
work_view (jobs.Close application at tries) = close application.now at tries
work_view (jobs.Load workers at tries) = load workers at tries
work_view (jobs.Tail max offset) = tail max offset.now
work_view jobs.Snapshot = snapshot
work_view jobs.Checkpoint = checkpoint
work_view jobs.History = history

abbrev pub command_view : Command → ProgramCommand
command_view (commands.Script use_checkpoints) = script use_checkpoints
command_view (commands.Table command) = table command.folder.now command.use_checkpoints (work_view command.job)
command_view (commands.Check folder) = check folder.now
command_view (commands.Explain asked) = explain (option_map (λ text. text.now) asked)

-- the text that was given for a place or an option
abbrev pub text_in : Text → List Row → Text
text_in id rows = unwrap_or (first_of id rows) []

-- decimal digits of a number below 2^64
abbrev pub is_argument_number : List ℕ → Bool
is_argument_number digits = nat_lt 0 (length digits) && (all_ascii_digits digits && nat_lt (digits_value 10 digits) (2 ^ 64))

-- the number that a text reads as: digits, with at most one plus before them
unfoldable pub argument_number : Text → Option ℕ
argument_number text = if is_argument_number (without_leading_plus text) then Some (digits_value 10 (without_leading_plus text)) else None

-- the number that was given for one, if one was; `clap` takes no text there that is none
abbrev pub optional_number_in : Text → List Row → Option ℕ
optional_number_in id rows = option_and_then argument_number (one_of id rows)

-- the number that was given for one
abbrev pub given_number : Text → List Row → ℕ
given_number id rows = unwrap_or (optional_number_in id rows) 0

-- what a flag is, by the text that `clap` has for it
abbrev pub IsFlag : Option Text → Bool → Type 0
IsFlag text flag = (text ≡ None → flag ≡ false) × (text ≡ Some (codes "true") → flag ≡ true) × (text ≡ Some (codes "false") → flag ≡ false)

-- the job of a subcommand of that name with these rows, where it has one
abbrev pub work_of : Text → List Row → Option Work
work_of name rows =
    if bytes_eq name (codes "create") then Some (create (text_in (codes "id") rows) (text_in (codes "schema") rows) (given_number (codes "at") rows))
    else if bytes_eq name (codes "append") then Some (append (text_in (codes "APP") rows) (given_number (codes "NUMBER") rows) (given_number (codes "at") rows) (given_number (codes "tries") rows) (optional_number_in (codes "rows") rows))
    else if bytes_eq name (codes "close") then Some (close (text_in (codes "APP") rows) (given_number (codes "at") rows) (given_number (codes "tries") rows))
    else if bytes_eq name (codes "load") then Some (load (given_number (codes "workers") rows) (given_number (codes "at") rows) (given_number (codes "tries") rows))
    else if bytes_eq name (codes "tail") then Some (tail (given_number (codes "max") rows) (text_in (codes "from") rows))
    else if bytes_eq name (codes "snapshot") then Some snapshot
    else if bytes_eq name (codes "checkpoint") then Some checkpoint
    else if bytes_eq name (codes "history") then Some history
    else None

-- what a subcommand asks for; `check` and `explain` have no `--no-checkpoint`
abbrev pub asked_by : Text → List Row → (use_checkpoints : Bool) → ProgramCommand
asked_by name rows use_checkpoints =
    if bytes_eq name (codes "check") then check (text_in (codes "DIR") rows)
    else if bytes_eq name (codes "explain") then explain (first_of (codes "CODE") rows)
    else option_map_or (λ work. table (text_in (codes "DIR") rows) use_checkpoints work) (work_of name rows) (script use_checkpoints)

-- the command that a subcommand with these rows is
abbrev pub AsksFor : Option (Text × List Row) → Command → Type 0
AsksFor None command = command ≡ commands.Script true
AsksFor (Some sub) command =
    (use_checkpoints : Bool) × IsFlag (one_of (codes "no-checkpoint") sub.1) (not use_checkpoints) × (command_view command ≡ asked_by sub.0 sub.1 use_checkpoints)

-- the words that ask for a script, behind the program's name
pub data Spells : List (List ℕ) → Command → Type 0 where
  restoring : {name : List ℕ} → Spells (name ∷ codes "script" ∷ []) (commands.Script true)
  replaying : {name : List ℕ} → Spells (name ∷ codes "script" ∷ codes "--no-checkpoint" ∷ []) (commands.Script false)
