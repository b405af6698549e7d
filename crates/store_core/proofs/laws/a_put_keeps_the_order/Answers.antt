use Rattle.store_core.specs.ObjectLaws.{IsInOrder-with_object}
use Rattle.store_core.proofs.laws.a_put_keeps_the_order.Goals as goal

pub returns : goal.returns
returns c = IsInOrder-with_object
