use Rattle.std.proofs.Common.{◌≡◌, map, take}
use Rattle.std.specs.String.{string_bytes}
use Rattle.table_folder.specs.Copies.{AreAbsent, with_copies}
use Rattle.table_folder.specs.Traces.{Traced, made_all}
use Rattle.table_folder.proofs.saving.save.Given as goal

-- the objects of the names so far are copied to where they were absent, no call failed, and the store is as it was
abbrev pub invariant-loop-name : goal.invariant-loop-name
invariant-loop-name g l = record {
  copied : g.F.Folder.is_steady l.fn.folder → g.F.Folder.objects l.folder ≡ with_copies (g.S.Store.objects l.fn.store) (g.F.Folder.objects l.fn.folder) (map string_bytes (take l.name-index l.name-items));
  absent : g.F.Folder.is_steady l.fn.folder → AreAbsent (g.F.Folder.objects l.fn.folder) (map string_bytes (take l.name-index l.name-items));
  called : Traced g.F.Folder.makes l.fn.folder (made_all (g.S.Store.objects l.fn.store) (map string_bytes (take l.name-index l.name-items))) l.folder;
  steady : g.F.Folder.is_steady l.fn.folder → g.F.Folder.is_steady l.folder;
  reliable : g.F.Folder.is_reliable l.fn.folder → g.F.Folder.is_reliable l.folder;
  counted : g.F.Folder.fault_count l.folder ≡ g.F.Folder.fault_count l.fn.folder;
  store : g.S.Store.objects l.store ≡ g.S.Store.objects l.fn.store;
  flight : g.S.Store.in_flight l.store ≡ g.S.Store.in_flight l.fn.store;
  lost : g.S.Store.fault_count l.store ≡ g.S.Store.fault_count l.fn.store;
  sound : g.S.Store.is_reliable l.fn.store → g.S.Store.is_reliable l.store;
}
