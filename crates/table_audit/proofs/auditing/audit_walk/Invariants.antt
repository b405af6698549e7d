use Rattle.std.proofs.Common.{◌≡◌, ℕ, ◌≤◌, List, Some, drop, map, string_bytes, suc, take}
use Rattle.std.specs.List.{AllByRecursion}
use Rattle.store_core.specs.Names.{greatest_version}
use Rattle.store_core.specs.Objects.{object_at}
use Rattle.table_log.specs.Restoring.{IsSoundCheckpoint}
use Rattle.table_audit.specs.Calls.{ReaderCall, ReaderTraced}
use Rattle.table_audit.specs.Listed.{listed_view}
use Rattle.table_audit.specs.Walks.{IsWalk, IsWalkOver}
use Rattle.table_audit.proofs.CallParts.{GoesOnTo}
use Rattle.table_audit.proofs.auditing.audit_walk.Given as goal

-- the checkpoints that were seen are sound, and none of the others is of a version that the walk is behind
abbrev pub invariant-loop-checkpoint : goal.invariant-loop-checkpoint
invariant-loop-checkpoint g l = record {
  untouched : g.R.ObjectReader.is_steady l.fn.reader → g.R.ObjectReader.objects l.reader ≡ g.R.ObjectReader.objects l.fn.reader;
  steady : g.R.ObjectReader.is_steady l.fn.reader → g.R.ObjectReader.is_steady l.reader;
  reliable : g.R.ObjectReader.is_reliable l.fn.reader → g.R.ObjectReader.is_reliable l.reader;
  walk : g.R.ObjectReader.is_steady l.fn.reader → IsWalkOver (g.R.ObjectReader.objects l.fn.reader) (map string_bytes l.names) l.fn.walk → IsWalk (g.R.ObjectReader.objects l.fn.reader) l.walk;
  schema : l.walk.schema ≡ l.fn.walk.schema;
  most : l.walk.next ≤ suc greatest_version;
  seen : g.R.ObjectReader.is_steady l.fn.reader → IsWalkOver (g.R.ObjectReader.objects l.fn.reader) (map string_bytes l.names) l.fn.walk
      → AllByRecursion (λ p. (bytes : List ℕ) → object_at (g.R.ObjectReader.objects l.fn.reader) p.1 ≡ Some bytes → IsSoundCheckpoint (g.R.ObjectReader.objects l.fn.reader) p.0 bytes)
      (map listed_view (take l.checkpoint-index l.checkpoint-items));
  called : (calls : List ReaderCall) × ReaderTraced g.R.ObjectReader.makes l.fn.reader calls l.reader
      × GoesOnTo (map listed_view (drop l.checkpoint-index l.checkpoint-items)) l.walk.next (map listed_view l.checkpoint-items) l.fn.walk.next calls;
  ahead : AllByRecursion (λ p. l.walk.next ≤ suc p.0) (map listed_view (drop l.checkpoint-index l.checkpoint-items));
}
