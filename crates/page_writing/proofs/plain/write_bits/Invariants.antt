use Rattle.std.proofs.Common.{◌≡◌, ◌*◌, ◌-◌, ◌++◌, drop, length, map}
use Rattle.lake_bytes.specs.Hybrid.{low_bytes}
use Rattle.shred.specs.Views.{borrowed_value}
use Rattle.page_cells.specs.Plain.{bytes_for_bits}
use Rattle.page_writing.specs.Internal.{BeginsWith}
use Rattle.page_writing.specs.Writing.{packed_bits}
use Rattle.page_writing.proofs.plain.write_bits.Given as goal

-- what is written, and the bytes that are left to write, are the bytes of all values
abbrev pub invariant-loop-index : goal.invariant-loop-index
invariant-loop-index l = record {
  ok : l.out.items ++ low_bytes (bytes_for_bits (length l.values) - l.index)
      (packed_bits (drop (8 * l.index) (map borrowed_value l.values)))
      ≡ l.fn.out.items ++ low_bytes (bytes_for_bits (length l.values)) (packed_bits (map borrowed_value l.values));
  keeps : BeginsWith l.fn.out.items l.out.items;
}
