-- What a writer answered, next to what is written: the same, unless memory ran out.
use Rattle.std.specs.Prelude.{◌≡◌, ℕ, List, ◌++◌, Result, Ok, Err}
use Rattle.outcomes.specs.Outcome.{IsSaid}
use Rattle.parquet_footer.specs.Outcome.{says}
use Rattle.parquet_footer.specs.declared.fault.FileFault.{FileFault}
use Rattle.parquet_footer.specs.declared.fault.FileError.{FileError}

-- These bytes were written behind the others; or the fault.
abbrev pub Writes : Result (List ℕ) FileFault → List ℕ → Result (Unit {0}) FileError → List ℕ → Type 0
Writes written old (Ok x) new = (bytes : List ℕ) × (written ≡ Ok bytes) × (new ≡ old ++ bytes)
Writes written old (Err e) new = IsSaid (says e) written
