-- Which tables take no rows, and what is told of them.
use Rattle.std.specs.Prelude.{◌≡◌, ◌⊎◌, ◌++◌, ℕ, Bool, true, false, List, [], Result, Ok, Err, codes, is_some}
use Rattle.outcomes.specs.Lines.{with_newline}
use Rattle.row_core.specs.Unsupported.{unsupported}
use Rattle.schema_tree.specs.Fault.{Fault}
use Rattle.schema_tree.specs.Reading.{schema_of}
use Rattle.schema_tree.specs.Tree.{Tree}
use Rattle.lake_words.specs.Asked.{Work}
use Rattle.lake_words.specs.Asked as words

-- a column of the schema is of a type that has no rows
abbrev pub has_rowless : Result Tree Fault → Bool
has_rowless (Ok tree) = is_some (unsupported tree)
has_rowless (Err fault) = false

-- it creates a table that takes no rows
abbrev pub creates_rowless : Work → Bool
creates_rowless (words.create id schema at) = has_rowless (schema_of schema)
creates_rowless work = false

-- That a table takes no rows, and why, is told of one that takes none, unless memory runs out for it.
abbrev pub IsRowlessNote : (creates_rowless : Bool) → List ℕ → Type 0
IsRowlessNote creates_rowless text =
    (text ≡ []) ⊎ ((creates_rowless ≡ true) × ((why : List ℕ) × (text ≡ with_newline (codes "note: the table takes no rows, since " ++ why))))
