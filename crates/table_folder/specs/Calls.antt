-- What a call of a folder tells and leaves, also of a folder whose calls fail.
use Rattle.std.specs.Prelude.{◌≡◌, ◌⊎◌, ℕ, List, Contains, Result, Ok, Err, string_bytes}
use Rattle.store_core.specs.Objects.{Objects, with_object}
use Rattle.store_core.specs.Calls.{HasRisen}
use Rattle.table_folder.specs.declared.fault.FolderFault.{FolderFault}
use Rattle.table_folder.specs.declared.fault.FolderFault.TheVariants.{Failed, Memory}

-- the call failed, and not for want of memory
abbrev pub IsFailed : {X : Type 0} → Result X FolderFault → Type 0
IsFailed (Ok x) = ⊥
IsFailed (Err (Failed name reason)) = Unit {0}
IsFailed (Err Memory) = ⊥

-- a call that failed names this
abbrev pub FailsAt : {X : Type 0} → List ℕ → Result X FolderFault → Type 0
FailsAt name (Ok x) = Unit {0}
FailsAt name (Err (Failed told reason)) = string_bytes told ≡ name
FailsAt name (Err Memory) = Unit {0}

-- a call that failed names one of these
abbrev pub FailsAmong : {X : Type 0} → List (List ℕ) → Result X FolderFault → Type 0
FailsAmong names (Ok x) = Unit {0}
FailsAmong names (Err (Failed told reason)) = Contains names (string_bytes told)
FailsAmong names (Err Memory) = Unit {0}

-- the count of faults rises in a call that fails, and in no other
abbrev pub CountsFailure : {X : Type 0} → Result X FolderFault → ℕ → ℕ → Type 0
CountsFailure (Ok x) old new = new ≡ old
CountsFailure (Err (Failed name reason)) old new = HasRisen old new
CountsFailure (Err Memory) old new = new ≡ old

-- what a create that failed leaves: the object stands with all its bytes, or nothing changed
abbrev pub MayHaveMade : List ℕ → List ℕ → Objects → Objects → Type 0
MayHaveMade name bytes old new = (new ≡ with_object old name bytes) ⊎ (new ≡ old)
