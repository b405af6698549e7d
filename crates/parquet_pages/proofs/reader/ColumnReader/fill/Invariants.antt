use Rattle.std.proofs.Common.{◌-◌, length}
use Rattle.shred.specs.Columns as columns
use Rattle.parquet_pages.specs.Held.{AreLeft}
use Rattle.parquet_pages.specs.Pages as pages
use Rattle.parquet_pages.proofs.HeldPages.{AreLeftWithin}
use Rattle.parquet_pages.proofs.reader.ColumnReader.fill.Given as goal

abbrev pub invariant-loop-page : goal.invariant-loop-page
invariant-loop-page l = (leaf : pages.Leaf) (c : columns.Column) → AreLeft leaf l.fn.self c
    → AreLeftWithin l.fn.self.bytes.now (length l.fn.self.bytes.now - l._page) leaf l.self c
