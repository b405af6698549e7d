use Rattle.std.proofs.Common.{rules, ◌≡◌, Ok}
use Rattle.serde_json.specs.View.{view}
use Rattle.schema_tree.specs.Tree.{struct, fields_of}
use Rattle.schema_tree.specs.View.{field_views}
use Rattle.schema_tree.proofs.ReadSchema.{root_keeps}
use Rattle.schema_tree.specs.Reading.{root_of}
use Rattle.schema_tree.proofs.schema.Schema+Global.from_value.Goals as goal

pub returns-in_err-count : goal.returns-in_err-count
unfolding root_of
returns-in_err-count c = search rules

pub returns-in_err-needed_text : goal.returns-in_err-needed_text
unfolding root_of
returns-in_err-needed_text c = search rules

pub returns-then-ne : goal.returns-then-ne
unfolding root_of
returns-then-ne c = search rules

pub returns-in_err-fields : goal.returns-in_err-fields
unfolding root_of
returns-in_err-fields c = search rules

pub invariant_of-result : goal.invariant_of-result
unfolding root_of
invariant_of-result c =
    let d = view c.args.value.now in
    let t = struct (fields_of (field_views c.in_ok-fields.fields.items)) in
    let is : root_of d ≡ Ok t = search rules in
    record { within_limits = root_keeps d t c.requires is }

pub returns : goal.returns
unfolding root_of
returns c = search rules
