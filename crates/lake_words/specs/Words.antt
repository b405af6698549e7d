-- The commands of the program, as `clap` reads them: their names, places and options.
use Rattle.std.specs.Prelude.{ℕ, true, [], ◌∷◌, Some, codes}
use Rattle.clap.specs.Words.{App, Rule, Text, new_app, new_rule, with_rule, with_subcommand}
use Rattle.clap.specs.declared.builder.ArgAction.TheVariants.{Set, SetTrue}
use Rattle.clap.specs.declared.builder.value_parser.ValueParser.TheVariants.{Unsigned}

-- a place that must be filled
abbrev pub place : Text → Rule
place name = record (new_rule name) { action = Some Set; required = true }

-- a place that may be left empty
abbrev pub optional_place : Text → Rule
optional_place name = record (new_rule name) { action = Some Set }

-- a place that must be filled by a number below 2^64
abbrev pub number_place : Text → Rule
number_place name = record (place name) { parser = Some (Unsigned 0 18_446_744_073_709_551_615) }

-- `--NAME VALUE`, which must be given
abbrev pub option : Text → Rule
option name = record (new_rule name) { long = Some name; action = Some Set; value_names = 1; required = true }

-- `--NAME VALUE`, with a default
abbrev pub text_option : Text → (default : Text) → Rule
text_option name default = record (new_rule name) { long = Some name; action = Some Set; value_names = 1; defaults = default ∷ [] }

-- `--NAME N`, a number between two bounds, with a default
abbrev pub number_option : Text → (low high : ℕ) → (default : Text) → Rule
number_option name low high default =
    record (new_rule name) { long = Some name; action = Some Set; value_names = 1; parser = Some (Unsigned low high); defaults = default ∷ [] }

-- `--NAME`
abbrev pub flag : Text → Rule
flag name = record (new_rule name) { long = Some name; action = Some SetTrue }

-- `--at MS`: a moment in milliseconds, 0 unless it is given
abbrev pub at_option : Rule
at_option = number_option (codes "at") 0 999_999_999_999_999 (codes "0")

-- `--tries N`: how often a commit is tried, 16 times unless it is given
abbrev pub tries : Rule
tries = number_option (codes "tries") 1 64 (codes "16")

-- `--from OFFSET`: where a read begins, at the log's start unless it is given
abbrev pub from_option : Rule
from_option = text_option (codes "from") (codes "start")

-- `--max N`: how many rows a read hands out at most, 65,536 unless it is given
abbrev pub max : Rule
max = number_option (codes "max") 0 65_536 (codes "65536")

-- `--rows N`: how many rows the input has, where it is given
abbrev pub rows_option : Rule
rows_option = record (new_rule (codes "rows")) { long = Some (codes "rows"); action = Some Set; value_names = 1; parser = Some (Unsigned 0 18_446_744_073_709_551_615) }

-- `--workers N`
abbrev pub workers : Rule
workers = record (option (codes "workers")) { parser = Some (Unsigned 0 18_446_744_073_709_551_615) }

-- `--no-checkpoint`
abbrev pub no_checkpoint : Rule
no_checkpoint = flag (codes "no-checkpoint")

-- a command on the table in a folder, the first place
abbrev pub on_folder : Text → App
on_folder name = with_rule (new_app name) (place (codes "DIR"))

-- create DIR --id UUID --schema TEXT [--at MS]
abbrev pub create : App
create = with_rule (with_rule (with_rule (on_folder (codes "create")) (option (codes "id"))) (option (codes "schema"))) at_option

-- append DIR APP NUMBER [--rows N] [--at MS] [--tries N] [--no-checkpoint]
abbrev pub append : App
append =
    with_rule (with_rule (with_rule (with_rule (with_rule (with_rule (on_folder (codes "append")) (place (codes "APP"))) (number_place (codes "NUMBER"))) rows_option) at_option) tries) no_checkpoint

-- close DIR APP [--at MS] [--tries N] [--no-checkpoint]
abbrev pub close : App
close = with_rule (with_rule (with_rule (with_rule (on_folder (codes "close")) (place (codes "APP"))) at_option) tries) no_checkpoint

-- load DIR --workers N [--at MS] [--tries N] [--no-checkpoint]
abbrev pub load : App
load = with_rule (with_rule (with_rule (with_rule (on_folder (codes "load")) workers) at_option) tries) no_checkpoint

-- tail DIR [--from OFFSET] [--max N] [--no-checkpoint]
abbrev pub tail : App
tail = with_rule (with_rule (with_rule (on_folder (codes "tail")) from_option) max) no_checkpoint

-- snapshot DIR, checkpoint DIR and history DIR, each with [--no-checkpoint]
abbrev pub snapshot : App
snapshot = with_rule (on_folder (codes "snapshot")) no_checkpoint

abbrev pub checkpoint : App
checkpoint = with_rule (on_folder (codes "checkpoint")) no_checkpoint

abbrev pub history : App
history = with_rule (on_folder (codes "history")) no_checkpoint

-- check DIR
abbrev pub check : App
check = on_folder (codes "check")

-- explain [CODE]
abbrev pub explain : App
explain = with_rule (new_app (codes "explain")) (optional_place (codes "CODE"))

-- script [--no-checkpoint]
abbrev pub script : App
script = with_rule (new_app (codes "script")) no_checkpoint

-- the name of the program, which is given a subcommand, and has a version
abbrev pub top : App
top = record (new_app (codes "lake")) { top = record (new_app (codes "lake")).top { subcommand_required = true; has_version = true } }

-- the program's commands
abbrev pub commands : App
commands = with_subcommand (with_subcommand (with_subcommand (with_subcommand (with_subcommand (with_subcommand (with_subcommand (with_subcommand (with_subcommand (with_subcommand (with_subcommand top
    create.top) append.top) close.top) load.top) tail.top) snapshot.top) checkpoint.top) history.top) check.top) explain.top) script.top
