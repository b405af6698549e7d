use Rattle.store_core.specs.ObjectLaws.{names_of-with_object}
use Rattle.store_core.proofs.laws.a_put_lists_its_name.Goals as goal

pub returns : goal.returns
returns c = names_of-with_object
