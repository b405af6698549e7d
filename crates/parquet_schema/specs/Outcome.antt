-- What a function answered, next to what the definitions say: the same, unless memory ran out; P8 where they say nothing.
use Rattle.std.specs.Prelude.{◌≡◌, List, Option, Some, None, Result, Ok, Err}
use Rattle.parquet_footer.specs.Metadata.{SchemaElement}
use Rattle.parquet_footer.specs.declared.fault.FileFault.{FileFault}
use Rattle.parquet_footer.specs.declared.fault.FileFault.TheVariants.{SchemaMismatch}
use Rattle.parquet_footer.specs.declared.fault.FileError.{FileError}
use Rattle.parquet_footer.specs.declared.fault.FileError.TheVariants as errors

abbrev pub Fits : {X A : Type 0} → (X → A) → Result X FileError → Option A → Type 0
Fits view (Ok x) said = said ≡ Some (view x)
Fits view (Err errors.Memory) said = Unit {0}
Fits view (Err (errors.Fault fault)) said = (fault ≡ SchemaMismatch) × (said ≡ None)

-- the same, and the elements that are left
abbrev pub Takes : {X A : Type 0} → (X → A) → Result X FileError → Option (A × List SchemaElement) → List SchemaElement → Type 0
Takes view (Ok x) said left = said ≡ Some (view x, left)
Takes view (Err errors.Memory) said left = Unit {0}
Takes view (Err (errors.Fault fault)) said left = (fault ≡ SchemaMismatch) × (said ≡ None)

-- the same where no memory is wanted
abbrev pub IsTold : {X A : Type 0} → (X → A) → Result X FileFault → Option A → Type 0
IsTold view (Ok x) said = said ≡ Some (view x)
IsTold view (Err fault) said = (fault ≡ SchemaMismatch) × (said ≡ None)
