-- Why a folder isn't judged: the texts, which of the reasons comes of a call of the folder that failed, and that a data
-- file that is told as too large is.
use Rattle.std.specs.Prelude.{ℕ, List, ◌++◌, codes, string_bytes}
use Rattle.store_core.specs.Calls.{HasRisen}
use Rattle.store_core.specs.Objects.{Objects}
use Rattle.table_audit.specs.LargeFiles.{HasLargeFile}
use Rattle.table_folder.specs.Texts.{load_text}
use Rattle.table_folder.specs.declared.fault.LoadFault.TheVariants as loads
use Rattle.folder_check.specs.declared.fault.CheckFault.{CheckFault}
use Rattle.folder_check.specs.declared.fault.CheckFault.TheVariants.{Folder, TooLarge}

-- the printed form
abbrev pub check_text : CheckFault → List ℕ
check_text (Folder fault) = load_text fault
check_text (TooLarge name) = codes "P9 TooLarge " ++ string_bytes name

-- what is told as a call of the folder that failed comes of one, between two counts of the folder's faults
abbrev pub ComesOfACall : (old new : ℕ) → CheckFault → Type 0
ComesOfACall old new (Folder (loads.NotLoaded name reason)) = HasRisen old new
ComesOfACall old new _ = Unit {0}

-- a data file that is told as too large is, as one of the table, in the commit of some version
abbrev pub CheckTellsLargeFile : Objects → CheckFault → Type 0
CheckTellsLargeFile objects (Folder fault) = Unit {0}
CheckTellsLargeFile objects (TooLarge name) = HasLargeFile objects (string_bytes name)

-- no data file is told as too large
abbrev pub CheckTellsNoFile : CheckFault → Type 0
CheckTellsNoFile (Folder fault) = Unit {0}
CheckTellsNoFile (TooLarge name) = ⊥
