-- A fault told from outside the field that holds it. Only contracts of private functions cite this file.
use Rattle.std.specs.Prelude.{◌≡◌, ℕ, List}
use Rattle.row_core.specs.Fault.{fault_of, inside}
use Rattle.row_core.specs.declared.fault.RowError.{RowError}
use Rattle.row_core.specs.declared.fault.RowError.TheVariants as errors

-- The second error is the first one told from outside the field of this name, unless memory ran out.
abbrev pub IsToldOutside : List ℕ → RowError → RowError → Type 0
IsToldOutside name old errors.Memory = Unit {0}
IsToldOutside name errors.Memory (errors.Fault new) = ⊥
IsToldOutside name (errors.Fault old) (errors.Fault new) = fault_of new ≡ inside name (fault_of old)
