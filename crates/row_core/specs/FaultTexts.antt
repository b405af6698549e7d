-- The printed form of a fault: its code, its name and its path.
use Rattle.std.specs.Prelude.{ℕ, List, ◌++◌, codes, string_bytes}
use Rattle.schema_tree.specs.Fault.{path_of}
use Rattle.schema_tree.specs.FaultTexts.{path_text}
use Rattle.row_core.specs.declared.fault.RowFault.{RowFault}
use Rattle.row_core.specs.declared.fault.RowFault.TheVariants.{Missing, WrongKind, OutOfRange, Unsupported, Unknown}
use Rattle.row_core.specs.declared.fault.RowError.{RowError}
use Rattle.row_core.specs.declared.fault.RowError.TheVariants.{Memory, Fault}

abbrev pub fault_text : RowFault → List ℕ
fault_text (Missing path) = codes "V1 Missing " ++ path_text (path_of path)
fault_text (WrongKind path) = codes "V2 WrongKind " ++ path_text (path_of path)
fault_text (OutOfRange path) = codes "V3 OutOfRange " ++ path_text (path_of path)
fault_text (Unsupported path) = codes "V4 Unsupported " ++ path_text (path_of path)
fault_text (Unknown name) = codes "V5 Unknown " ++ string_bytes name

-- the printed form of an error: that of its fault
abbrev pub error_text : RowError → List ℕ
error_text Memory = codes "out of memory"
error_text (Fault fault) = fault_text fault
