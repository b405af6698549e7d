use Rattle.std.proofs.Common.{ℤ, subst, to_z-of_z}
use Rattle.parquet_pages.specs.Views.{leaf_view}
use Rattle.parquet_pages.proofs.FoundTold.{IsAnswer, chunk_is_found, chunk_is_read}
use Rattle.parquet_pages.proofs.chunk.test_chunk.Goals as goal

pub returns-clause-found : goal.returns-clause-found
returns-clause-found c =
    chunk_is_found (leaf_view c.args.leaf.now) c.args.bytes.now c.args.stated c.args.num_values c.chunk_passes.result
    (λ i. (c.type_inv.bytes i).fits)
    (subst (λ (z : ℤ). IsAnswer (leaf_view c.args.leaf.now) c.args.bytes.now z c.args.num_values c.chunk_passes.result)
    (to_z-of_z c.ranges.stated) c.chunk_passes.ensures.exact)

pub returns-clause-only : goal.returns-clause-only
returns-clause-only c =
    chunk_is_read (leaf_view c.args.leaf.now) c.args.bytes.now c.args.stated c.args.num_values c.chunk_passes.result
    (subst (λ (z : ℤ). IsAnswer (leaf_view c.args.leaf.now) c.args.bytes.now z c.args.num_values c.chunk_passes.result)
    (to_z-of_z c.ranges.stated) c.chunk_passes.ensures.exact)
