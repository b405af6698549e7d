-- What the getters of `clap` read, by the rows of the matches.
use Rattle.std.proofs.Common.{◌≡◌, ℕ, List, [], Option, Some, None, Result, Ok, Err, Bool, true, false, not, Bor, refl, ap₂, sym, subst, codes, option_map}
use Rattle.std.proofs.lemmas.Option.{same_Some}
use Rattle.std.specs.Prelude.{bytes_eq, unwrap_or, option_and_then}
use Rattle.std.specs.Option.{option_map_or}
use Rattle.std.specs.Str.Parse.{ExplainsUnsignedError, HasUnsignedDigitsIfOk, ParsesUnsigned}
use Rattle.clap.specs.Words.{Row, Text, ReadsOne, first_of, one_of}
use Rattle.lake_words.specs.Asked.{AsksFor, IsFlag, asked_by, check, explain, argument_number, command_view, script, table, text_in, work_of}
use Rattle.lake_words.specs.declared.command.Command.{Command}
use Rattle.lake_words.proofs.Numbers.{number_of_parsed}

-- the text behind a reference, where there is none an empty one
pub unwrapped_text : (given : Option (Bor Text)) (default : Bor Text) → default.now ≡ [] → (unwrap_or given default).now ≡ unwrap_or (option_map (λ s. s.now) given) []
unwrapped_text None default e = e
unwrapped_text (Some text) default e = refl

-- the number that a text was read as
read_number : {E : Type 0} (gives : List ℕ → Result ℕ E → Type 0) → ((bs : List ℕ) (r : Result ℕ E) → gives bs r → ParsesUnsigned 64 10 bs r)
    → (text : Text) (read : Option ℕ) → ReadsOne gives text read → read ≡ argument_number text
read_number {E = E} gives parses text (Some n) h =
    let is : argument_number text ≡ Some n = number_of_parsed {E = E} text (Ok n) (parses text (Ok n) h) in
    sym is
read_number {E = E} gives parses text None h =
    let is : argument_number text ≡ None = number_of_parsed {E = E} text (Err h.0) (parses text (Err h.0) h.1) in
    sym is

-- a text was read as a u64, or it is none
abbrev pub ReadsNumber : Text → Option ℕ → Type 0
ReadsNumber = ReadsOne (λ bs r. ParsesUnsigned 64 10 bs r × ExplainsUnsignedError {T = ℕ} 10 bs r × HasUnsignedDigitsIfOk bs r)

-- and where there is a text or none
pub number_given : (given : Option Text) (read : Option ℕ) → (given ≡ None → read ≡ None)
    → ((text : Text) → given ≡ Some text → ReadsNumber text read) → read ≡ option_and_then argument_number given
number_given None read none value = none refl
number_given (Some text) read none value = read_number (λ bs r. ParsesUnsigned 64 10 bs r × ExplainsUnsignedError {T = ℕ} 10 bs r × HasUnsignedDigitsIfOk bs r) (λ bs r h. h.0) text read (value text refl)

-- the name and the rows of a subcommand, from each of them alone
pub both_known : {A : Type 0} (f : A → Text × List Row) (sub : Option A) (name : Text) (rows : List Row)
    → Some name ≡ option_map (λ x. (f x).0) sub → Some rows ≡ option_map (λ p. p.1) (option_map f sub) → option_map f sub ≡ Some (name, rows)
both_known f None name rows n r = cc
both_known f (Some x) name rows n r = ap₂ (λ (a : Text) (b : List Row). Some (a, b)) (sym (same_Some _ _ n)) (sym (same_Some _ _ r))

-- the flag `--no-checkpoint` is turned round
pub turned_flag : (flag : Bool) (text : Option Text) → IsFlag text flag → IsFlag text (not (not flag))
turned_flag true text h = h
turned_flag false text h = h

-- the command of a subcommand, by its name, its rows and its flag
pub asks_for : (sub : Option (Text × List Row)) (name : Text) (rows : List Row) (flag : Bool) (command : Command)
    → sub ≡ Some (name, rows) → IsFlag (one_of (codes "no-checkpoint") rows) flag → command_view command ≡ asked_by name rows (not flag) → AsksFor sub command
asks_for sub name rows flag command is h view =
    subst (λ s. AsksFor s command) (sym is) (not flag, turned_flag flag _ h, view)

-- what a subcommand asks for, by whether it is `check` or `explain`
pub check_asked : (name : Text) (rows : List Row) (use_checkpoints : Bool) → bytes_eq name (codes "check") ≡ true
    → check (text_in (codes "DIR") rows) ≡ asked_by name rows use_checkpoints
check_asked name rows use_checkpoints is = rw is refl

pub explain_asked : (name : Text) (rows : List Row) (use_checkpoints : Bool) → bytes_eq name (codes "check") ≡ false → bytes_eq name (codes "explain") ≡ true
    → explain (first_of (codes "CODE") rows) ≡ asked_by name rows use_checkpoints
explain_asked name rows use_checkpoints no_check is = rw (no_check, is) refl

pub other_asked : (name : Text) (rows : List Row) (use_checkpoints : Bool) → bytes_eq name (codes "check") ≡ false → bytes_eq name (codes "explain") ≡ false
    → option_map_or (λ work. table (text_in (codes "DIR") rows) use_checkpoints work) (work_of name rows) (script use_checkpoints) ≡ asked_by name rows use_checkpoints
other_asked name rows use_checkpoints no_check no_explain = rw (no_check, no_explain) refl
