-- Which fault a fault of a folder or a store becomes.
use Rattle.std.specs.Prelude.{◌≡◌, ◌⊎◌, ℕ, List, Contains, Result, Ok, Err, IsSome, string_bytes}
use Rattle.store_core.specs.Objects.{Objects, object_at}
use Rattle.store_core.specs.Calls.{HasRisen}
use Rattle.store_core.specs.declared.fault.StoreFault.{StoreFault}
use Rattle.store_core.specs.declared.fault.StoreFault.TheVariants as stores
use Rattle.table_folder.specs.declared.fault.FolderFault.{FolderFault}
use Rattle.table_folder.specs.declared.fault.FolderFault.TheVariants as folders
use Rattle.table_folder.specs.declared.fault.LoadFault.{LoadFault}
use Rattle.table_folder.specs.declared.fault.LoadFault.TheVariants as loads
use Rattle.table_folder.specs.declared.fault.SaveFault.{SaveFault}
use Rattle.table_folder.specs.declared.fault.SaveFault.TheVariants as saves
use Rattle.table_folder.specs.declared.reason.Reason.TheVariants.{Taken}

-- a table isn't loaded for the file that a folder's call failed at, and for that call's reason
abbrev pub IsLoadFaultOf : FolderFault → LoadFault → Type 0
IsLoadFaultOf (folders.Failed name reason) fault = fault ≡ loads.NotLoaded name reason
IsLoadFaultOf folders.Memory fault = fault ≡ loads.Memory

-- a table that isn't loaded names one of these
abbrev pub LoadFailsAmong : {X : Type 0} → List (List ℕ) → Result X LoadFault → Type 0
LoadFailsAmong names (Ok x) = Unit {0}
LoadFailsAmong names (Err (loads.NotLoaded told reason)) = Contains names (string_bytes told)
LoadFailsAmong names (Err loads.Memory) = Unit {0}

-- a table that isn't loaded names this
abbrev pub LoadFailsAt : {X : Type 0} → List ℕ → Result X LoadFault → Type 0
LoadFailsAt name (Ok x) = Unit {0}
LoadFailsAt name (Err (loads.NotLoaded told reason)) = string_bytes told ≡ name
LoadFailsAt name (Err loads.Memory) = Unit {0}

-- an object isn't saved for the file that a folder's call failed at, and for that call's reason
abbrev pub IsSaveFaultOf : FolderFault → SaveFault → Type 0
IsSaveFaultOf (folders.Failed name reason) fault = fault ≡ saves.NotSaved name reason
IsSaveFaultOf folders.Memory fault = fault ≡ saves.Memory

-- an object isn't saved for a fault of the store
abbrev pub IsSaveFaultOfStore : StoreFault → SaveFault → Type 0
IsSaveFaultOfStore stores.Lost fault = fault ≡ saves.Lost
IsSaveFaultOfStore stores.Memory fault = fault ≡ saves.Memory

-- the folder's count of faults rises where the table isn't loaded for a file, and nowhere else
abbrev pub CountsLoad : {X : Type 0} → Result X LoadFault → ℕ → ℕ → Type 0
CountsLoad (Ok x) old new = new ≡ old
CountsLoad (Err (loads.NotLoaded name reason)) old new = HasRisen old new
CountsLoad (Err loads.Memory) old new = new ≡ old

-- the table isn't loaded, for a file or the folder
abbrev pub IsNotLoaded : {X : Type 0} → Result X LoadFault → Type 0
IsNotLoaded (Ok x) = ⊥
IsNotLoaded (Err (loads.NotLoaded name reason)) = Unit {0}
IsNotLoaded (Err loads.Memory) = ⊥

-- Where an object isn't saved, the folder's count of faults rose, or it stayed, the name is told as taken and, in a
-- steady folder, stood. The count rises nowhere else.
abbrev pub CountsSave : {X : Type 0} → Type 0 → Objects → Result X SaveFault → ℕ → ℕ → Type 0
CountsSave steady held (Ok x) old new = new ≡ old
CountsSave steady held (Err (saves.NotSaved name reason)) old new = HasRisen old new ⊎ ((new ≡ old) × (reason ≡ Taken) × (steady → IsSome (object_at held (string_bytes name))))
CountsSave steady held (Err saves.Lost) old new = new ≡ old
CountsSave steady held (Err saves.Memory) old new = new ≡ old

-- the store's count of faults rises where it lost a call, and nowhere else
abbrev pub CountsLost : {X : Type 0} → Result X SaveFault → ℕ → ℕ → Type 0
CountsLost (Ok x) old new = new ≡ old
CountsLost (Err (saves.NotSaved name reason)) old new = new ≡ old
CountsLost (Err saves.Lost) old new = HasRisen old new
CountsLost (Err saves.Memory) old new = new ≡ old

-- an object isn't saved
abbrev pub IsNotSaved : {X : Type 0} → Result X SaveFault → Type 0
IsNotSaved (Ok x) = ⊥
IsNotSaved (Err (saves.NotSaved name reason)) = Unit {0}
IsNotSaved (Err saves.Lost) = ⊥
IsNotSaved (Err saves.Memory) = ⊥

-- an object isn't saved only where its name stood
abbrev pub FailsWhereStood : {X : Type 0} → Objects → Result X SaveFault → Type 0
FailsWhereStood held (Ok x) = Unit {0}
FailsWhereStood held (Err (saves.NotSaved name reason)) = IsSome (object_at held (string_bytes name))
FailsWhereStood held (Err saves.Lost) = Unit {0}
FailsWhereStood held (Err saves.Memory) = Unit {0}

-- an object that isn't saved has this name
abbrev pub SaveFailsAt : {X : Type 0} → List ℕ → Result X SaveFault → Type 0
SaveFailsAt name (Ok x) = Unit {0}
SaveFailsAt name (Err (saves.NotSaved told reason)) = string_bytes told ≡ name
SaveFailsAt name (Err saves.Lost) = Unit {0}
SaveFailsAt name (Err saves.Memory) = Unit {0}

-- an object that isn't saved has one of these names
abbrev pub SaveFailsAmong : {X : Type 0} → List (List ℕ) → Result X SaveFault → Type 0
SaveFailsAmong names (Ok x) = Unit {0}
SaveFailsAmong names (Err (saves.NotSaved told reason)) = Contains names (string_bytes told)
SaveFailsAmong names (Err saves.Lost) = Unit {0}
SaveFailsAmong names (Err saves.Memory) = Unit {0}
