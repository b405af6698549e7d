use Rattle.std.proofs.Common.{rules, ◌≡◌, ℤ, w64, to_z, of_z, subst}
use Rattle.std.proofs.lemmas.Int.{to_z-of_z}
use Rattle.shred.specs.Parts.{cut_off}
use Rattle.parquet_footer.specs.Views.{chunk_view, chunk_views}
use Rattle.parquet_pages.specs.Held.{AreLeft}
use Rattle.parquet_pages.specs.Outcome.{GivesWhere}
use Rattle.parquet_pages.specs.Pages.{Leaf, highest}
use Rattle.parquet_pages.specs.Reading.{chunk_at}
use Rattle.parquet_pages.specs.Views.{leaf_view as pages_view}
use Rattle.parquet_schema.specs.Views.{leaf_view}
use Rattle.parquet_file.proofs.CodeColumns.{column_by_chunk}
use Rattle.parquet_file.proofs.columns.tested_column.Goals as goal

pub returns : goal.returns
returns g c =
    let chunk = c.in_ok-chunk.chunk.now in
    let bytes = c.args.bytes.now in
    let leaf = pages_view c.pages_of.result in
    let read = column_by_chunk bytes (chunk_views c.args.chunks.now) (leaf_view c.args.leaf.now) (chunk_view chunk)
    c.in_ok-chunk.ensures in
    let stated : to_z w64 (of_z w64 chunk.data_page_offset) ≡ chunk.data_page_offset =
    to_z-of_z w64 chunk.data_page_offset (search rules) in
    let tested = subst (λ (z : ℤ). GivesWhere (λ reader column. AreLeft leaf reader
    (cut_off c.args.passed (highest leaf) column)) c.tested.result (chunk_at leaf bytes z chunk.num_values)) stated
    c.tested.ensures in
    rw read (subst (λ (l : Leaf). GivesWhere (λ reader column. AreLeft l reader
    (cut_off c.args.passed (highest l) column)) c.tested.result
    (chunk_at l bytes chunk.data_page_offset chunk.num_values)) c.pages_of.ensures tested)
