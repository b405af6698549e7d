-- The printed form of a fault: its name and its field, one space between.
use Rattle.std.specs.Prelude.{ℕ, List, ◌++◌, codes}
use Rattle.json_fields.specs.declared.fault.FieldFault.{FieldFault}
use Rattle.json_fields.specs.declared.fault.FieldFault.TheVariants.{BadField, Memory}

abbrev pub fault_text : FieldFault → List ℕ
fault_text (BadField field) = codes "BadField " ++ field.now
fault_text Memory = codes "Memory"
