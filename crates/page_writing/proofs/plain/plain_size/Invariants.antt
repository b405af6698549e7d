use Rattle.std.proofs.Common.{◌≡◌, ◌+◌, ◌≤◌, drop, length, map}
use Rattle.shred.specs.Views.{borrowed_value}
use Rattle.page_writing.specs.Writing.{plain_bytes}
use Rattle.page_writing.proofs.plain.plain_size.Given as goal

-- the size so far, and that of the values that are left, are the size of all
abbrev pub invariant-loop-value : goal.invariant-loop-value
invariant-loop-value l = record {
  sized : l.size + length (plain_bytes l.physical_type (map borrowed_value (drop l.value-index l.values)))
      ≡ length (plain_bytes l.physical_type (map borrowed_value l.values));
  within : l.size ≤ l.limit;
}
