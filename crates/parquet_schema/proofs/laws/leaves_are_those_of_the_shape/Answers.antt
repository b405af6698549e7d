use Rattle.parquet_schema.proofs.LeafLevels.{leaf_levels}
use Rattle.parquet_schema.proofs.laws.leaves_are_those_of_the_shape.Goals as goal

pub returns : goal.returns
returns c = leaf_levels
