use Rattle.std.proofs.Common.{◌≡◌, drop}
use Rattle.serde_json.specs.View.{items_view, members_view}
use Rattle.serde_json.specs.Written.{items_have_float, members_have_float}
use Rattle.schema_tree.proofs.fractions.+floats.Given as goal

-- none of the items so far has one, so those left decide
abbrev pub invariant-items_have_float-loop-item : goal.invariant-items_have_float-loop-item
invariant-items_have_float-loop-item l = items_have_float (items_view (drop l.item-index l.items)) ≡ items_have_float (items_view l.items)

-- the same of the members
abbrev pub invariant-members_have_float-loop-member : goal.invariant-members_have_float-loop-member
invariant-members_have_float-loop-member l = members_have_float (members_view l.member-iterator) ≡ members_have_float (members_view l.members.entries)
