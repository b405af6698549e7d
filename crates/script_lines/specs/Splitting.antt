-- The lines of a text.
use Rattle.std.specs.Prelude.{ℕ, ◌==◌, Bool, List, [], Option, None, Some}
use Rattle.delta_actions.specs.Commit.{lines_of}

-- a newline
abbrev pub is_newline : ℕ → Bool
is_newline byte = byte == 10

-- The lines of what is left, if something is. A line ends at a newline and nowhere else; behind the last newline stands
-- a last line, which may be empty.
abbrev pub lines_left : Option (List ℕ) → List (List ℕ)
lines_left None = []
lines_left (Some text) = lines_of text
