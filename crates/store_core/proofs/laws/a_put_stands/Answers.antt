use Rattle.store_core.specs.ObjectLaws.{object_at-with_object_same}
use Rattle.store_core.proofs.laws.a_put_stands.Goals as goal

pub returns : goal.returns
returns c = object_at-with_object_same
