-- The code that a reply tells.
use Rattle.std.specs.Prelude.{ℕ, Bool, false, List, Option, Some, None, ◌==◌, ◌||◌, drop, nat_eq, codes, if◌then◌else◌}
use Rattle.std.specs.List.{starts_with, before_first}

-- a space or a newline
abbrev pub ends_word : ℕ → Bool
ends_word byte = (byte == 32) || (byte == 10)

-- what stands behind `refused `, up to the next space or newline, or the end
abbrev pub code_of : List ℕ → Option (List ℕ)
code_of reply = if starts_with nat_eq reply (codes "refused ") then Some (before_first ends_word (drop 8 reply)) else None

-- the code that a text asks for: the one that it tells as a reply, or else its own first word
abbrev pub code_asked : List ℕ → List ℕ
code_asked text = if starts_with nat_eq text (codes "refused ") then before_first ends_word (drop 8 text) else before_first ends_word text

-- a code stands there, and passes a test
abbrev pub is_some_with : (List ℕ → Bool) → Option (List ℕ) → Bool
is_some_with test None = false
is_some_with test (Some code) = test code
