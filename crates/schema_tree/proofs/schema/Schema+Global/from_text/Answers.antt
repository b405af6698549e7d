use Rattle.std.proofs.Common.{rules}
use Rattle.schema_tree.specs.Reading.{schema_of}
use Rattle.schema_tree.proofs.schema.Schema+Global.from_text.Goals as goal

pub returns-in-Err-2 : goal.returns-in-Err-2
unfolding schema_of
returns-in-Err-2 c = search rules

pub returns : goal.returns
unfolding schema_of
returns c = search rules
