use Rattle.std.proofs.Common.{◌≡◌, drop}
use Rattle.schema_tree.specs.Tree.{fields_of}
use Rattle.schema_tree.specs.View.{field_views}
use Rattle.delta_replay.specs.Support.{have_key_inside}
use Rattle.delta_replay.proofs.writable.+keys.Given as goal

-- one of the fields that are left has it, or none
abbrev pub invariant-fields_have_key-loop-field : goal.invariant-fields_have_key-loop-field
invariant-fields_have_key-loop-field l = have_key_inside l.key (fields_of (field_views l.fields)) ≡ have_key_inside l.key (fields_of (field_views (drop l.field-index l.fields)))
