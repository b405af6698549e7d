-- What is wrong with a schema's text, and how a call's answer compares with what the definitions say.
use Rattle.std.specs.Prelude.{ℕ, List, ◌∷◌, ◌++◌, Option, Some, None, option_map, string_bytes}
use Rattle.outcomes.specs.Outcome.{Said, refuses, says_nothing}
use Rattle.schema_tree.specs.declared.paths.ColumnPath.{ColumnPath}
use Rattle.schema_tree.specs.declared.fault.SchemaFault.{SchemaFault}
use Rattle.schema_tree.specs.declared.fault.SchemaFault.TheVariants as faults
use Rattle.schema_tree.specs.declared.fault.ReadError.{ReadError}
use Rattle.schema_tree.specs.declared.fault.ReadError.TheVariants as errors

-- The path of a type: the names of the fields that hold it, joined by dots. The root has none.
abbrev pub Path : Type 0
Path = Option (List ℕ)

pub data Fault : Type 0 where
  -- the text is no JSON
  bad_json : Fault
  -- no type, or a field that is none
  bad_type : Path → Fault
  -- an earlier field of the struct has this name
  double_name : Path → Fault
  too_deep : Fault
  too_many : Fault
  -- a struct without fields
  no_fields : Path → Fault

-- the path of what stands inside the field of this name
abbrev pub path_inside : List ℕ → Path → Path
path_inside name None = Some name
path_inside name (Some path) = Some (name ++ 46 ∷ path)

-- the fault of what stands inside the field of this name
abbrev pub inside : List ℕ → Fault → Fault
inside name bad_json = bad_json
inside name (bad_type path) = bad_type (path_inside name path)
inside name (double_name path) = double_name (path_inside name path)
inside name too_deep = too_deep
inside name too_many = too_many
inside name (no_fields path) = no_fields (path_inside name path)

abbrev pub path_of : ColumnPath → Path
path_of path = option_map (λ s. string_bytes s) path.names

abbrev pub fault_of : SchemaFault → Fault
fault_of faults.BadJson = bad_json
fault_of (faults.BadType path) = bad_type (path_of path)
fault_of (faults.DoubleName path) = double_name (path_of path)
fault_of faults.TooDeep = too_deep
fault_of faults.TooMany = too_many
fault_of (faults.NoFields path) = no_fields (path_of path)

-- what a fault of the code says
abbrev pub tells : SchemaFault → Said Fault
tells fault = refuses (fault_of fault)

-- what each error of the code says
abbrev pub says : ReadError → Said Fault
says errors.Memory = says_nothing
says (errors.Fault fault) = tells fault
