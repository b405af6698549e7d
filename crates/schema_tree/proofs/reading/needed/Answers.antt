use Rattle.schema_tree.proofs.Members.{member_depth}
use Rattle.serde_json.specs.View.{view}
use Rattle.schema_tree.proofs.reading.needed.Goals as goal

pub returns-in-Some-clause-inside : goal.returns-in-Some-clause-inside
returns-in-Some-clause-inside c = member_depth c.args.name.now (view c.args.value.now) (view c.in-Some.found.now) c.in-Some.ensures
