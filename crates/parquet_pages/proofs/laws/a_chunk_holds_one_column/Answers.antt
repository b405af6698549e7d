use Rattle.std.proofs.Common.{◌≡◌, ℕ, ℤ, List, length, sym, ap, ◌∙◌}
use Rattle.shred.specs.Columns.{Column}
use Rattle.parquet_pages.specs.Pages.{ChunkHolds, Leaf, Suits}
use Rattle.parquet_pages.specs.Reading.{chunk_at}
use Rattle.parquet_footer.specs.declared.fault.FileFault.{FileFault}
use Rattle.page_cells.proofs.Callers.{ok_is}
use Rattle.parquet_pages.proofs.PagesOnly.{chunk_only}
use Rattle.parquet_pages.proofs.laws.a_chunk_holds_one_column.Goals as goal

one_column : (l : Leaf) (given : List ℕ) (stated : ℤ) (c other : Column) → ChunkHolds l given stated c
    → ChunkHolds l given stated other
    → Suits l c → Suits l other → length c.levels ≡ length other.levels → c ≡ other
one_column l given stated c other h k s t same =
    ok_is {E = FileFault} c other
    (sym (chunk_only l given stated c h s) ∙ ap (chunk_at l given stated) same ∙ chunk_only l given stated other k t)

pub returns : goal.returns
returns c = one_column
