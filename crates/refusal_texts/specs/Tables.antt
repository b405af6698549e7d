-- An entry by its code.
use Rattle.std.specs.Prelude.{ℕ, Bool, List, Option, bytes_eq, find}
use Rattle.std.specs.Str.{str_eq_ignore_ascii_case}
use Rattle.refusal_texts.specs.declared.refusal.Refusal.{Refusal}

-- the entry has this code
abbrev pub has_code : List ℕ → Refusal → Bool
has_code code entry = bytes_eq entry.code.now code

-- the first of some entries that has this code
unfoldable pub first_with : List ℕ → List Refusal → Option Refusal
first_with code entries = find (has_code code) entries

-- the entry has it, whether its letters are capitals or not
abbrev pub has_code_like : List ℕ → Refusal → Bool
has_code_like code entry = str_eq_ignore_ascii_case entry.code.now code

-- the first of some entries that has it so
unfoldable pub first_like : List ℕ → List Refusal → Option Refusal
first_like code entries = find (has_code_like code) entries
