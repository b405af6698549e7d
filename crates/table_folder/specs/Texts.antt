-- The printed forms of the faults: their codes and names, and the file that each tells.
use Rattle.std.specs.Prelude.{ℕ, List, ◌++◌, codes, string_bytes}
use Rattle.table_folder.specs.declared.fault.FolderFault.{FolderFault}
use Rattle.table_folder.specs.declared.fault.FolderFault.TheVariants as folders
use Rattle.table_folder.specs.declared.fault.LoadFault.{LoadFault}
use Rattle.table_folder.specs.declared.fault.LoadFault.TheVariants as loads
use Rattle.table_folder.specs.declared.fault.SaveFault.{SaveFault}
use Rattle.table_folder.specs.declared.fault.SaveFault.TheVariants as saves

-- a fault of a folder
abbrev pub folder_text : FolderFault → List ℕ
folder_text (folders.Failed name reason) = codes "Failed " ++ string_bytes name
folder_text folders.Memory = codes "Memory"

-- why a table is not loaded
abbrev pub load_text : LoadFault → List ℕ
load_text (loads.NotLoaded name reason) = codes "F1 NotLoaded " ++ string_bytes name
load_text loads.Memory = codes "F1 NotLoaded -"

-- why an object is not saved
abbrev pub save_text : SaveFault → List ℕ
save_text (saves.NotSaved name reason) = codes "F2 NotSaved " ++ string_bytes name
save_text saves.Lost = codes "St1 Lost"
save_text saves.Memory = codes "F2 NotSaved -"
