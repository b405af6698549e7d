use Rattle.parquet_pages.specs.Views.{leaf_view}
use Rattle.parquet_pages.proofs.FoundTold.{page_is_found}
use Rattle.parquet_pages.proofs.pages.read_page.Goals as goal

pub returns-clause-found : goal.returns-clause-found
returns-clause-found c =
    page_is_found (leaf_view c.args.leaf.now) c.args.bytes.now c.args.place c.args.left c.page_from.result
    (λ i. (c.type_inv.bytes i).fits)
    c.page_from.ensures.exact
