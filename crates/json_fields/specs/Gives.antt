-- How a call's answer compares with what the definitions say: a value, or the name of the field that is wrong.
use Rattle.std.specs.Prelude.{◌≡◌, ℕ, List, Result, Ok, Err}
use Rattle.json_fields.specs.declared.fault.FieldFault.{FieldFault}
use Rattle.json_fields.specs.declared.fault.FieldFault.TheVariants as faults

-- The fault names the field that is wrong; none is named where memory ran out.
abbrev pub Fails : {Y : Type 0} → FieldFault → Result Y (List ℕ) → Type 0
Fails faults.Memory says = Unit {0}
Fails (faults.BadField field) says = says ≡ Err field.now

-- What a call answered, seen by `view`, is what the definition says, unless memory ran out.
abbrev pub FieldGives : {X Y : Type 0} → (X → Y) → Result X FieldFault → Result Y (List ℕ) → Type 0
FieldGives view (Ok x) says = says ≡ Ok (view x)
FieldGives view (Err e) says = Fails e says
