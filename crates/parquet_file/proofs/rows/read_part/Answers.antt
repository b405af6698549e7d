use Rattle.schema_tree.specs.Schema.{tree_of}
use Rattle.parquet_file.proofs.RowsTold.{part_is_found, part_is_read}
use Rattle.parquet_file.proofs.rows.read_part.Goals as goal

pub returns-clause-found : goal.returns-clause-found
returns-clause-found g c =
    part_is_found c.args.bytes.now (tree_of c.args.schema.now) c.args.first c.args.most c.part_in.result
    c.args.schema.now.within_limits (λ i. (c.type_inv.bytes i).fits) c.part_in.ensures.exact

pub returns-clause-only : goal.returns-clause-only
returns-clause-only g c =
    part_is_read c.args.bytes.now (tree_of c.args.schema.now) c.args.first c.args.most c.part_in.result
    c.args.schema.now.within_limits c.part_in.ensures.exact
