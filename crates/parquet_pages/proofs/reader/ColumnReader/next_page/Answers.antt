use Rattle.std.proofs.Common.{arith}
use Rattle.parquet_pages.specs.Views.{leaf_view}
use Rattle.parquet_pages.proofs.CodeChunks.{page_fits}
use Rattle.parquet_pages.proofs.reader.ColumnReader.next_page.Goals as goal

pub overflow_sub-self : goal.overflow_sub-self
overflow_sub-self c =
    let r = c.args.self.now in
    let a = c.in_ok-page.ensures.exact in
    let fits = page_fits (leaf_view r.leaf) r.bytes.now r.place r.left a.0.0 a.0.1 a.1 in
    omega (arith, fits.few, a.2.0.counted, c.num_values.ensures)
