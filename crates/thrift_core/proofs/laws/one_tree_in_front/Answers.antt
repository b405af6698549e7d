use Rattle.thrift_core.proofs.Told.{one_tree}
use Rattle.thrift_core.proofs.laws.one_tree_in_front.Goals as goal

pub returns : goal.returns
returns c = one_tree
