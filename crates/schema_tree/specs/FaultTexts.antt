-- The printed form of a fault: its code, its name and its path.
use Rattle.std.specs.Prelude.{ℕ, List, [], ◌++◌, codes, unwrap_or}
use Rattle.schema_tree.specs.Fault.{Path, Fault, bad_json, bad_type, double_name, too_deep, too_many, no_fields, fault_of}
use Rattle.schema_tree.specs.declared.fault.SchemaFault.{SchemaFault}
use Rattle.schema_tree.specs.declared.fault.ReadError.{ReadError}
use Rattle.schema_tree.specs.declared.fault.ReadError.TheVariants as errors

abbrev pub path_text : Path → List ℕ
path_text path = unwrap_or path []

-- a fault, wherever its path lies in memory
abbrev pub text_of : Fault → List ℕ
text_of bad_json = codes "G1 BadJson"
text_of (bad_type path) = codes "G2 BadType " ++ path_text path
text_of (double_name path) = codes "G3 DoubleName " ++ path_text path
text_of too_deep = codes "G4 TooDeep"
text_of too_many = codes "G5 TooMany"
text_of (no_fields path) = codes "G6 NoFields " ++ path_text path

abbrev pub fault_text : SchemaFault → List ℕ
fault_text fault = text_of (fault_of fault)

-- the printed form of an error: that of its fault
abbrev pub error_text : ReadError → List ℕ
error_text errors.Memory = codes "out of memory"
error_text (errors.Fault fault) = fault_text fault
