use Rattle.std.proofs.Common.{◌≡◌, option_map, drop}
use Rattle.thrift_values.specs.Tree.{later, last_of, fields_of}
use Rattle.thrift_values.specs.View.{view, field_views}
use Rattle.thrift_values.proofs.value.TValue.field.Given as goal

-- what the fields behind give, or else what was found, is what all give
abbrev pub invariant-loop-field : goal.invariant-loop-field
invariant-loop-field g l =
    later (last_of l.id (fields_of (field_views (drop l.field-index l.field-items)))) (option_map (λ v. view v.now) l.found) ≡ last_of l.id (fields_of (field_views l.field-items))
