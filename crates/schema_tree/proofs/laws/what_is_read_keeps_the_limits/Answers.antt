use Rattle.schema_tree.proofs.ReadSchema.{schema_keeps}
use Rattle.schema_tree.proofs.laws.what_is_read_keeps_the_limits.Goals as goal

pub returns : goal.returns
returns c = schema_keeps
