use Rattle.std.proofs.Common.{◌≡◌, ◌-◌, ◌++◌}
use Rattle.lake_bytes.specs.Hybrid.{low_first, unpacked, values_of}
use Rattle.lake_bytes.specs.Internal.{IsHeld, number_left}
use Rattle.lake_bytes.proofs.hybrid.add_packed.Given as goal

abbrev pub invariant-loop-index : goal.invariant-loop-index
invariant-loop-index l = record {
  held : IsHeld l.bits;
  left : values_of l.runs.items ++ unpacked l.width (l.count - l._index) (number_left l.bits)
      ≡ values_of l.fn.runs.items ++ unpacked l.width l.count (low_first l.body);
}
