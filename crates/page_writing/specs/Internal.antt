-- What private contracts speak of.
use Rattle.std.specs.Prelude.{◌≡◌, ℕ, List, ◌++◌, map}
use Rattle.std.specs.Borrow.{Bor}
use Rattle.row_core.specs.declared.value.Value as code
use Rattle.shred.specs.Columns.{Column}
use Rattle.shred.specs.Views.{borrowed_value}

-- a part of a column whose values are borrowed
abbrev pub part : List ℕ → List (Bor code.Value) → Column
part levels values = record { levels = levels; values = map borrowed_value values }

-- the same bytes, and perhaps others behind them
abbrev pub BeginsWith : List ℕ → List ℕ → Type 0
BeginsWith old new = (more : List ℕ) × (new ≡ old ++ more)
