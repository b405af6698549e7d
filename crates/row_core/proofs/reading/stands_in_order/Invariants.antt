use Rattle.std.proofs.Common.{◌≡◌, drop}
use Rattle.std.specs.Prelude.{◌↔◌}
use Rattle.schema_tree.specs.View.{field_views}
use Rattle.row_core.specs.InOrder.{field_names, member_names}
use Rattle.row_core.proofs.reading.stands_in_order.Given as goal

-- the names so far are the same, so those left decide
abbrev pub invariant-loop-i : goal.invariant-loop-i
invariant-loop-i g l = (member_names (drop l.i l.members) ≡ field_names (field_views (drop l.i l.fields))) ↔ (member_names l.members ≡ field_names (field_views l.fields))
