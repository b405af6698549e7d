use Rattle.std.proofs.Common.{◌≡◌, map, take}
use Rattle.std.specs.String.{string_bytes}
use Rattle.store_core.specs.Memory.{stored_objects}
use Rattle.table_folder.specs.Copies.{with_copies}
use Rattle.table_folder.proofs.TraceLemmas.{HasRead}
use Rattle.table_folder.proofs.loading.copy_files.Given as goal

-- the files of the names so far are copied, and the folder is as it was
abbrev pub invariant-loop-name : goal.invariant-loop-name
invariant-loop-name g l = record {
  copied : g.F.Folder.is_steady l.fn.folder → stored_objects l.store ≡ with_copies (g.F.Folder.objects l.fn.folder) (stored_objects l.fn.store) (map string_bytes (take l.name-index l.names));
  called : HasRead g.F.Folder.makes l.fn.folder (map string_bytes (take l.name-index l.names)) (stored_objects l.fn.store) (stored_objects l.store) l.folder;
  untouched : g.F.Folder.is_steady l.fn.folder → g.F.Folder.objects l.folder ≡ g.F.Folder.objects l.fn.folder;
  steady : g.F.Folder.is_steady l.fn.folder → g.F.Folder.is_steady l.folder;
  counted : g.F.Folder.fault_count l.folder ≡ g.F.Folder.fault_count l.fn.folder;
  reliable : g.F.Folder.is_reliable l.fn.folder → g.F.Folder.is_reliable l.folder;
}
