use Rattle.parquet_schema.proofs.OwnTree.{own_tree_fits}
use Rattle.parquet_schema.proofs.laws.the_tables_own_tree_fits.Goals as goal

pub returns : goal.returns
returns c = λ t node limits own. own_tree_fits t node limits.sound own
