-- What a function answered, next to what reading gives: the same, unless memory ran out.
use Rattle.std.specs.Prelude.{◌≡◌, Result, Ok, Err}
use Rattle.outcomes.specs.Outcome.{IsSaid}
use Rattle.parquet_footer.specs.declared.fault.FileFault.{FileFault}
use Rattle.parquet_footer.specs.declared.fault.FileError.{FileError}
pub use Rattle.parquet_footer.specs.Outcome.{says, FileGives}

-- a value of which this is so, or the fault
abbrev pub GivesWhere : {X A : Type 0} → (X → A → Type 0) → Result X FileError → Result A FileFault → Type 0
GivesWhere {A = A} Is (Ok x) read = (a : A) × (read ≡ Ok a) × Is x a
GivesWhere Is (Err fault) read = IsSaid (says fault) read
