-- Only the contracts of private functions use these: what one step of reading, or of listing leaves, gives.
use Rattle.std.specs.Prelude.{◌≡◌, ℕ, ◌+◌, List, ◌++◌, Result, Ok, Err}
use Rattle.outcomes.specs.Outcome.{IsSaid}
use Rattle.schema_tree.specs.Fault.{Fault, fault_of, inside, says}
use Rattle.schema_tree.specs.Leaves.{LeafPath}
use Rattle.schema_tree.specs.Reading.{Met}
use Rattle.schema_tree.specs.declared.counts.Counts.{Counts}
use Rattle.schema_tree.specs.declared.fault.ReadError.{ReadError}
use Rattle.schema_tree.specs.declared.fault.SchemaFault.{SchemaFault}
use Rattle.schema_tree.specs.declared.fault.ReadError.TheVariants as errors

-- what the reader has met
abbrev pub met_of : Counts → Met
met_of counts = record { nodes = counts.nodes; leaves = counts.leaves }

-- What a function returned, seen by view, and the counts that it left are what reading gives, unless memory ran out.
abbrev pub Reads : {X A : Type 0} → (X → A) → Result (A × Met) Fault → Result X ReadError → Counts → Type 0
Reads view said (Ok x) new = said ≡ Ok (view x, met_of new)
Reads view said (Err e) new = IsSaid (says e) said

-- the same of counting alone
abbrev pub CountsAs : Result Met Fault → Result Unit SchemaFault → Counts → Type 0
CountsAs said (Ok x) new = said ≡ Ok (met_of new)
CountsAs said (Err e) new = said ≡ Err (fault_of e)

-- The second error is the first one told from outside the field of this name, unless memory ran out.
abbrev pub IsToldOutside : List ℕ → ReadError → ReadError → Type 0
IsToldOutside name old errors.Memory = Unit {0}
IsToldOutside name errors.Memory (errors.Fault new) = ⊥
IsToldOutside name (errors.Fault old) (errors.Fault new) = fault_of new ≡ inside name (fault_of old)

-- the leaf as it is seen from outside the fields above it, of which so many may be null
abbrev pub leaf_under : List (List ℕ) → ℕ → LeafPath → LeafPath
leaf_under above nullables leaf = record { names = above ++ leaf.names; nullables = nullables + leaf.nullables }
