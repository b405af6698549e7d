-- The printed form of a fault: its code, its name and its fields, one space between.
use Rattle.std.specs.Prelude.{ℕ, List, ◌++◌, codes}
use Rattle.std.specs.Fmt.{decimal}
use Rattle.delta_actions.specs.declared.fault.ActionFault.{ActionFault}
use Rattle.delta_actions.specs.declared.fault.ActionFault.TheVariants.{BadJson, BadField, NotOneKey, Memory}

abbrev pub fault_text : ActionFault → List ℕ
fault_text (BadJson line) = codes "A1 BadJson " ++ decimal line
fault_text (BadField line field) = codes "A2 BadField " ++ (decimal line ++ (codes " " ++ field.now))
fault_text (NotOneKey line) = codes "A3 NotOneKey " ++ decimal line
fault_text Memory = codes "Memory"
