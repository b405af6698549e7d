-- JSON objects, one a line.
use Rattle.std.specs.Prelude.{◌≡◌, ℕ, ◌+◌, ◌-◌, ◌==◌, List, [], ◌∷◌, ◌++◌, length, take, Option, Some, None, IsSome, nat_eq, if◌then◌else◌}
use Rattle.std.specs.List.{slice_split, ends_with, AllByRecursion}
use Rattle.std.specs.Str.{is_utf8}
use Rattle.serde_json.specs.Data.{Data, object}
use Rattle.serde_json.specs.Read.{read}
use Rattle.json_lines.specs.declared.LineFault.{LineFault}
use Rattle.json_lines.specs.declared.LineFault.TheVariants.{Bad, Memory}

-- a text without a newline at its end
abbrev pub without_last_newline : List ℕ → List ℕ
without_last_newline text = if ends_with nat_eq text (10 ∷ []) then take (length text - 1) text else text

-- the lines of a text: a line ends at a newline, and what stands behind the last newline is a line too, unless it is empty
abbrev pub input_lines : List ℕ → List (List ℕ)
input_lines [] = []
input_lines (byte ∷ bytes) = slice_split (λ b. b == 10) (without_last_newline (byte ∷ bytes))

-- a value that is an object
abbrev pub only_object : Option Data → Option Data
only_object (Some (object members)) = Some (object members)
only_object _ = None

-- the JSON object that a line is
unfoldable pub json_object_in_line : List ℕ → Option Data
json_object_in_line line = if is_utf8 line then only_object (read line) else None

-- the line of this number is the first that is no object; lines count from 1
pub record IsFirstBadLine (text : List ℕ) (number : ℕ) : Type 0 where
  pub before : List (List ℕ)
  pub bad : List ℕ
  pub after : List (List ℕ)
  pub parts : input_lines text ≡ before ++ bad ∷ after
  pub place : number ≡ length before + 1
  pub fine : AllByRecursion (λ line. IsSome (json_object_in_line line)) before
  pub fault : json_object_in_line bad ≡ None

-- a fault names the first line that is no object
abbrev pub NamesFirstBadLine : List ℕ → LineFault → Type 0
NamesFirstBadLine text (Bad number flaw) = IsFirstBadLine text number
NamesFirstBadLine text Memory = Unit {0}
