use Rattle.store_core.specs.ObjectLaws.{same_objects}
use Rattle.store_core.proofs.laws.the_same_under_each_name_is_the_same.Goals as goal

pub returns : goal.returns
returns c = same_objects
