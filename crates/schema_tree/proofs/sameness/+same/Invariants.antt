use Rattle.std.proofs.Common.{◌≡◌, take}
use Rattle.schema_tree.specs.View.{field_views}
use Rattle.schema_tree.proofs.sameness.+same.Given as goal

abbrev pub invariant-same_fields-loop-i : goal.invariant-same_fields-loop-i
invariant-same_fields-loop-i g l = field_views (take l.i l.fields) ≡ field_views (take l.i l.others)
