-- Texts on one line.
use Rattle.std.specs.Prelude.{◌≡◌, ℕ, ◌==◌, List, true, not}
use Rattle.std.specs.List.{list_all}

-- no newline
abbrev pub IsOneLine : List ℕ → Type 0
IsOneLine line = list_all (λ b. not (b == 10)) line ≡ true
