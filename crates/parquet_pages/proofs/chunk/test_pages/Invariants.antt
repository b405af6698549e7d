use Rattle.std.proofs.Common.{◌≡◌, ◌-◌, length}
use Rattle.parquet_pages.specs.Reading.{pages_at}
use Rattle.parquet_pages.specs.Views.{leaf_view}
use Rattle.parquet_pages.proofs.CodeChunks.{unkept}
use Rattle.parquet_pages.proofs.PassedCells.{Marks, StandFrom}
use Rattle.parquet_pages.proofs.chunk.test_pages.Given as goal

abbrev pub invariant-loop-page : goal.invariant-loop-page
invariant-loop-page l = record {
  so_far : unkept (pages_at (length l.bytes - l._page) (leaf_view l.leaf) l.bytes l.place l.left) ≡ unkept
      (pages_at (length l.bytes) (leaf_view l.leaf) l.bytes l.fn.place l.count);
  here : StandFrom (leaf_view l.leaf) l.bytes (length l.bytes - l._page) l.place l.left l.count
      (pages_at (length l.bytes) (leaf_view l.leaf) l.bytes l.fn.place l.count);
  marks : Marks (leaf_view l.leaf) l.bytes l.count l.before l.mark
      (pages_at (length l.bytes) (leaf_view l.leaf) l.bytes l.fn.place l.count);
}
