use Rattle.store_core.specs.ObjectLaws.{listed_iff_stands}
use Rattle.store_core.proofs.laws.a_name_is_listed_where_it_stands.Goals as goal

pub returns : goal.returns
returns c = listed_iff_stands
