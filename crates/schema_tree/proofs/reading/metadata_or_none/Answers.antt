use Rattle.std.proofs.Common.{◌≤◌, codes, arith}
use Rattle.serde_json.specs.Data.{depth}
use Rattle.serde_json.specs.View.{view}
use Rattle.schema_tree.proofs.Members.{member_depth}
use Rattle.schema_tree.proofs.reading.metadata_or_none.Goals as goal

pub of_object-requires-clause-shallow : goal.of_object-requires-clause-shallow
of_object-requires-clause-shallow c =
    let found = view c.in-Some.found.now in
    let body = view c.args.value.now in
    let inside : depth found ≤ depth body = member_depth (codes "metadata") body found c.in-Some.ensures in
    omega arith
