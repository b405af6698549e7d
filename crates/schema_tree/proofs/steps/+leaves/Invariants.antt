use Rattle.std.proofs.Common.{map, take}
use Rattle.schema_tree.specs.Schema.{leaf_view}
use Rattle.schema_tree.specs.View.{field_views}
use Rattle.schema_tree.proofs.FieldLeaves.{IsPut}
use Rattle.schema_tree.proofs.steps.+leaves.Given as goal

abbrev pub invariant-put_leaves-loop-field : goal.invariant-put_leaves-loop-field
invariant-put_leaves-loop-field g l = IsPut (map (λ s. s.now) l.above.items) (map (λ s. s.now) l.fn.above.items) (map leaf_view l.leaves.items) (map leaf_view l.fn.leaves.items) l.nullables (field_views (take l.field-index l.fields))
