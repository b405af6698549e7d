-- Lines of text.
use Rattle.std.specs.Prelude.{ℕ, List, [], ◌∷◌, ◌++◌}

-- a text as a line, which a newline ends
abbrev pub with_newline : List ℕ → List ℕ
with_newline text = text ++ 10 ∷ []
