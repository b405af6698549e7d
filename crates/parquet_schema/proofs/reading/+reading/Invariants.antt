use Rattle.std.proofs.Common.{◌≡◌, ◌+◌, ◌-◌, ◌*◌}
use Rattle.parquet_schema.specs.Reading.{fields_at}
use Rattle.parquet_footer.specs.Views.{element_views}
use Rattle.parquet_schema.specs.Views.{field_views}
use Rattle.parquet_schema.proofs.ReadFields.{behind}
use Rattle.parquet_schema.proofs.reading.+reading.Given as goal

abbrev pub decreases-read_node : goal.decreases-read_node
decreases-read_node g l = 3 * l.deep

abbrev pub decreases-read_field : goal.decreases-read_field
decreases-read_field g l = 3 * l.deep + 1

abbrev pub decreases-read_fields : goal.decreases-read_fields
decreases-read_fields g l = 3 * l.deep + 2

-- what was read and what is still read are what is read from the start
abbrev pub invariant-read_fields-loop-field : goal.invariant-read_fields-loop-field
invariant-read_fields-loop-field g l =
    behind (field_views l.fields.items) (fields_at l.deep (l.count - l._field) (element_views l.rest.now)) ≡ fields_at l.deep l.count (element_views l.fn.rest.now)
