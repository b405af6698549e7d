use Rattle.std.proofs.Common.{◌≡◌, ◌≤◌, ◌<◌, ℕ, take}
use Rattle.row_assembly.specs.Levels.{AreEqual, AreLong}
use Rattle.row_assembly.specs.Views.{level_views, reader_leaves}
use Rattle.row_assembly.proofs.parts.equal_rows.Given as goal

-- the readers in front begin with so many equal cells
abbrev pub invariant-loop-reader : goal.invariant-loop-reader
invariant-loop-reader l = record {
  same : level_views l.readers ≡ level_views l.initial.readers;
  leaves : reader_leaves l.readers ≡ reader_leaves l.initial.readers;
  less : l.rows ≤ l.most;
  equal : AreEqual l.rows (take l.reader-index (level_views l.initial.readers));
  none : l.rows ≡ 0 → 0 < l.most → (there : ℕ) → AreLong there (level_views l.initial.readers) → there ≡ 0;
}
