use Rattle.std.proofs.Common.{◌≡◌, ◌+◌, ◌*◌, [], map, drop}
use Rattle.serde_json.specs.View.{items_view}
use Rattle.outcomes.proofs.Callers.{with_front_beside}
use Rattle.schema_tree.specs.Internal.{met_of}
use Rattle.schema_tree.specs.Reading.{node_of, fields_behind}
use Rattle.schema_tree.specs.View.{field_views}
use Rattle.schema_tree.proofs.counts.Counts.+read.Given as goal

abbrev pub decreases-node : goal.decreases-node
decreases-node l = 6 * l.below

abbrev pub decreases-column : goal.decreases-column
decreases-column l = 6 * l.below + 1

abbrev pub decreases-field : goal.decreases-field
decreases-field l = 6 * l.below + 2

abbrev pub decreases-all_fields : goal.decreases-all_fields
decreases-all_fields l = 6 * l.below + 3

abbrev pub decreases-fields : goal.decreases-fields
decreases-fields l = 6 * l.below + 4

abbrev pub decreases-array : goal.decreases-array
decreases-array l = 6 * l.below + 4

abbrev pub decreases-map : goal.decreases-map
decreases-map l = 6 * l.below + 4

abbrev pub decreases-nested : goal.decreases-nested
decreases-nested l = 6 * l.below + 5

-- the fields that were read and those that are still read are all that are read from the start
abbrev pub invariant-all_fields-loop-item : goal.invariant-all_fields-loop-item
invariant-all_fields-loop-item l =
    with_front_beside (field_views l.fields.items) (fields_behind (node_of l.below) (map (λ c. c.name) (field_views l.fields.items)) (items_view (drop l.item-index l.items)) (met_of l.self)) ≡ fields_behind (node_of l.below) [] (items_view l.items) (met_of l.fn.self)
