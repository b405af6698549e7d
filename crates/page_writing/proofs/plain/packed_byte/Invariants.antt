use Rattle.std.proofs.Common.{◌≡◌, ◌-◌, ◌<◌, ◌^◌, drop, length, map}
use Rattle.shred.specs.Views.{borrowed_value}
use Rattle.page_writing.specs.Writing.{packed_bits}
use Rattle.page_writing.proofs.plain.packed_byte.Given as goal

-- the byte of the last values
abbrev pub invariant-loop-behind : goal.invariant-loop-behind
invariant-loop-behind l = record {
  packed : l.byte ≡ packed_bits (map borrowed_value (drop (length l.values - l.behind) l.values));
  below : l.byte < 2 ^ l.behind;
}
