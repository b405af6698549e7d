use Rattle.table_model.proofs.PartLemmas.{further}
use Rattle.table_model.proofs.parts.a_read_comes_further.Goals as goal

pub returns : goal.returns
returns c = further
