use Rattle.store_core.specs.ObjectLaws.{with_object-with_object}
use Rattle.store_core.proofs.laws.a_second_put_changes_nothing.Goals as goal

pub returns : goal.returns
returns c = with_object-with_object
