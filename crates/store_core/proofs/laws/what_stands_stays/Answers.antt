use Rattle.store_core.specs.ObjectLaws.{object_at-with_object_kept}
use Rattle.store_core.proofs.laws.what_stands_stays.Goals as goal

pub returns : goal.returns
returns c = object_at-with_object_kept
