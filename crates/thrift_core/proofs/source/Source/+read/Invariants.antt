use Rattle.std.proofs.Common.{◌≡◌, length, pos, ◌+◌, ◌-◌, ◌*◌}
use Rattle.thrift_core.specs.Reading.{value_ahead, repeated, entry_ahead, fields_ahead}
use Rattle.thrift_values.specs.View.{views, entry_views, field_views}
use Rattle.outcomes.proofs.Callers.{with_front_beside}
use Rattle.thrift_core.proofs.source.Source.+read.Given as goal

abbrev pub decreases-value : goal.decreases-value
decreases-value g l = 6 * l.depth

abbrev pub decreases-entry : goal.decreases-entry
decreases-entry g l = 6 * l.depth + 3

abbrev pub decreases-field : goal.decreases-field
decreases-field g l = 6 * l.depth + 3

abbrev pub decreases-members : goal.decreases-members
decreases-members g l = 6 * l.depth + 4

abbrev pub decreases-entries : goal.decreases-entries
decreases-entries g l = 6 * l.depth + 4

abbrev pub decreases-fields : goal.decreases-fields
decreases-fields g l = 6 * l.depth + 4

abbrev pub decreases-list : goal.decreases-list
decreases-list g l = 6 * l.depth + 5

abbrev pub decreases-map : goal.decreases-map
decreases-map g l = 6 * l.depth + 5

abbrev pub decreases-structure : goal.decreases-structure
decreases-structure g l = 6 * l.depth + 5

-- what was read and what is still read are what is read from the start
abbrev pub invariant-members-loop : goal.invariant-members-loop
invariant-members-loop g l =
    with_front_beside (views l.members.items) (repeated (value_ahead l.depth l.wire) (l.size - l.counter) l.self) ≡ repeated (value_ahead l.depth l.wire) l.size l.fn.self

abbrev pub invariant-entries-loop : goal.invariant-entries-loop
invariant-entries-loop g l =
    with_front_beside (entry_views l.entries.items) (repeated (entry_ahead (value_ahead l.depth) l.key l.value) (l.size - l.counter) l.self) ≡ repeated (entry_ahead (value_ahead l.depth) l.key l.value) l.size l.fn.self

abbrev pub invariant-fields-loop : goal.invariant-fields-loop
invariant-fields-loop g l =
    with_front_beside (field_views l.fields.items) (fields_ahead (value_ahead l.depth) l.last (l.end - l.counter) l.self) ≡ fields_ahead (value_ahead l.depth) (pos 0) (length l.fn.self.cursor) l.fn.self
