-- The fields of a line: words, numbers, and arrays.
use Rattle.std.specs.Prelude.{◌≡◌, ℕ, ◌^◌, ◌==◌, ◌&&◌, List, length, Option, Some, None, Result, Ok, Err, nat_lt, nat_le, if◌then◌else◌, Bool}
use Rattle.std.specs.List.{position_or_len, before_first, after_first}
use Rattle.std.specs.Str.{all_ascii_digits}
use Rattle.std.specs.Str.Parse.{digits_value, without_leading_plus}
use Rattle.serde_json.specs.Data.{Items}
use Rattle.serde_json.specs.Find.{as_array}
use Rattle.serde_json.specs.Read.{read}
use Rattle.outcomes.specs.Options.{◌>>=◌}
use Rattle.script_lines.specs.declared.fields.FieldError.{FieldError}
use Rattle.script_lines.specs.declared.fields.FieldError.TheVariants.{Malformed, Memory}

-- What was read, seen by view, is what the text says, and nothing was read where it says nothing, unless memory ran out.
abbrev pub LineFails : {Y : Type 0} → FieldError → Option Y → Type 0
LineFails Malformed said = said ≡ None
LineFails Memory said = Unit {0}

abbrev pub LineGives : {X Y : Type 0} → (X → Y) → Result X FieldError → Option Y → Type 0
LineGives view (Ok x) said = said ≡ Some (view x)
LineGives view (Err e) said = LineFails e said

-- a space
abbrev pub is_space_byte : ℕ → Bool
is_space_byte byte = byte == 32

-- what stands before the first space, and what stands behind it
abbrev pub word_and_rest : List ℕ → Option (List ℕ × List ℕ)
word_and_rest text =
    if position_or_len is_space_byte text == length text
    then None
    else Some (before_first is_space_byte text, after_first is_space_byte text)

-- decimal digits of a number below 2^64
abbrev pub is_script_number : List ℕ → Bool
is_script_number digits = nat_lt 0 (length digits) && (all_ascii_digits digits && nat_lt (digits_value 10 digits) (2 ^ 64))

-- the number that a text reads as: digits, with at most one plus before them
unfoldable pub script_number : List ℕ → Option ℕ
script_number text =
    if is_script_number (without_leading_plus text)
    then Some (digits_value 10 (without_leading_plus text))
    else None

-- a number that is neither below the one bound nor above the other
unfoldable pub number_between : ℕ → ℕ → List ℕ → Option ℕ
number_between low high text = do
  n ← script_number text
  if nat_le low n && nat_le n high then Some n else None

-- milliseconds
abbrev pub moment_of : List ℕ → Option ℕ
moment_of text = number_between 0 999_999_999_999_999 text

-- how many rows a read hands out at most
abbrev pub max_of : List ℕ → Option ℕ
max_of text = number_between 0 65_536 text

-- how often a session tries to put its commit
abbrev pub tries_of : List ℕ → Option ℕ
tries_of text = number_between 1 64 text

-- the members of a JSON array
unfoldable pub json_array_in : List ℕ → Option Items
json_array_in text = read text >>= as_array
