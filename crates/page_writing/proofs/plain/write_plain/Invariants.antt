use Rattle.std.proofs.Common.{◌≡◌, ◌++◌, drop, map}
use Rattle.shred.specs.Views.{borrowed_value}
use Rattle.page_writing.specs.Internal.{BeginsWith}
use Rattle.page_writing.specs.Writing.{plain_bytes}
use Rattle.page_writing.proofs.plain.write_plain.Given as goal

-- what is written, and what is left to write, is what is to be written
abbrev pub invariant-loop-value : goal.invariant-loop-value
invariant-loop-value l = record {
  ok : l.out.items ++ plain_bytes l.physical_type (map borrowed_value (drop l.value-index l.values))
      ≡ l.fn.out.items ++ plain_bytes l.physical_type (map borrowed_value l.values);
  keeps : BeginsWith l.fn.out.items l.out.items;
}
