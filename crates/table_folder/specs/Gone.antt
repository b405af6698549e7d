-- That a file which was listed isn't there any more, as a call of a folder tells it.
use Rattle.std.specs.Prelude.{Bool, true, false, Result, Ok, Err}
use Rattle.table_folder.specs.declared.disk.DiskFault.{DiskFault}
use Rattle.table_folder.specs.declared.disk.DiskFault.TheVariants as disks
use Rattle.table_folder.specs.declared.fault.FolderFault.{FolderFault}
use Rattle.table_folder.specs.declared.fault.FolderFault.TheVariants as folders
use Rattle.table_folder.specs.declared.reason.Reason.{Reason}
use Rattle.table_folder.specs.declared.reason.Reason.TheVariants.{Gone}

-- the reason is this one
abbrev pub is_gone : Reason → Bool
is_gone Gone = true
is_gone reason = false

-- a call of the disk failed for it
abbrev pub disk_tells_gone : DiskFault → Bool
disk_tells_gone (disks.Failed reason) = is_gone reason
disk_tells_gone disks.Memory = false

-- a call of a folder failed for it
abbrev pub tells_gone : {X : Type 0} → Result X FolderFault → Bool
tells_gone (Ok x) = false
tells_gone (Err (folders.Failed name reason)) = is_gone reason
tells_gone (Err folders.Memory) = false
