-- Why a JSON value is no row, and what each error of the code says.
use Rattle.std.specs.Prelude.{ℕ, List, string_bytes}
use Rattle.outcomes.specs.Outcome.{Said, refuses, says_nothing}
use Rattle.schema_tree.specs.Fault.{Path, path_of, path_inside}
use Rattle.row_core.specs.declared.fault.RowFault.{RowFault}
use Rattle.row_core.specs.declared.fault.RowFault.TheVariants as faults
use Rattle.row_core.specs.declared.fault.RowError.{RowError}
use Rattle.row_core.specs.declared.fault.RowError.TheVariants as errors

pub data Fault : Type 0 where
  -- a null where there may be none
  missing : Path → Fault
  -- a value of another kind
  wrong_kind : Path → Fault
  -- a whole number that the type doesn't have, or a text or bytes that are too long
  out_of_range : Path → Fault
  -- a column of which there are no rows
  unsupported : Path → Fault
  -- a name that no field of the struct has
  unknown : List ℕ → Fault

-- the fault of what stands inside the field of this name
abbrev pub inside : List ℕ → Fault → Fault
inside name (missing path) = missing (path_inside name path)
inside name (wrong_kind path) = wrong_kind (path_inside name path)
inside name (out_of_range path) = out_of_range (path_inside name path)
inside name (unsupported path) = unsupported (path_inside name path)
inside name (unknown other) = unknown other

abbrev pub fault_of : RowFault → Fault
fault_of (faults.Missing path) = missing (path_of path)
fault_of (faults.WrongKind path) = wrong_kind (path_of path)
fault_of (faults.OutOfRange path) = out_of_range (path_of path)
fault_of (faults.Unsupported path) = unsupported (path_of path)
fault_of (faults.Unknown name) = unknown (string_bytes name)

-- what a fault of the code says
abbrev pub tells : RowFault → Said Fault
tells fault = refuses (fault_of fault)

-- what each error of the code says
abbrev pub says : RowError → Said Fault
says errors.Memory = says_nothing
says (errors.Fault fault) = tells fault
