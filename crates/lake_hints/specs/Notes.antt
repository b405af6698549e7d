-- What is told beside the reply to a job that is done.
use Rattle.std.specs.Prelude.{◌≡◌, ◌++◌, ◌==◌, ◌||◌, ℕ, Bool, List, [], Option, Some, None, codes, is_some, if◌then◌else◌}
use Rattle.std.specs.Fmt.{decimal}
use Rattle.outcomes.specs.Lines.{with_newline}
use Rattle.lake_words.specs.Asked.{Work}
use Rattle.lake_words.specs.Asked as words
use Rattle.lake_hints.specs.ErrorOutputs.{AreInTurn}
use Rattle.lake_hints.specs.Rowless.{IsRowlessNote, creates_rowless}

-- the number that an append of so many rows uses up, where it has none and its words don't say how many
abbrev pub number_used_up : Work → (rows : ℕ) → Option ℕ
number_used_up (words.append application number at tries None) rows = if rows == 0 then Some number else None
number_used_up work rows = None

-- that a batch without rows uses it up
abbrev pub empty_note : Option ℕ → List ℕ
empty_note None = []
empty_note (Some number) =
    with_newline (codes "note: the input had no rows: the number " ++ (decimal number ++ codes " is used up by a batch without rows (--rows N refuses such an input)"))

-- something may be told of a job that had so many rows
abbrev pub is_noted : Work → (rows : ℕ) → Bool
is_noted work rows = creates_rowless work || is_some (number_used_up work rows)

-- Of a job that is done: that a table takes no rows, unless memory runs out for it, and that a batch without rows uses up its
-- number.
abbrev pub IsNoteOf : Work → (rows : ℕ) → List ℕ → Type 0
IsNoteOf work rows = AreInTurn (IsRowlessNote (creates_rowless work)) (λ text. text ≡ empty_note (number_used_up work rows))
