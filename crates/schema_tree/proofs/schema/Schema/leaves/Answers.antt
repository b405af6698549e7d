use Rattle.std.proofs.Common.{ℕ, List, Bor, map, ap, ◌∙◌}
use Rattle.schema_tree.specs.Leaves.{leaves_of_fields}
use Rattle.schema_tree.specs.Schema.{leaf_view}
use Rattle.schema_tree.specs.Tree.{fields_of}
use Rattle.schema_tree.specs.View.{field_views}
use Rattle.schema_tree.proofs.FieldLeaves.{all_put}
use Rattle.schema_tree.proofs.schema.Schema.leaves.Goals as goal

pub returns : goal.returns
returns g c =
    let now = λ (s : Bor (List ℕ)). s.now in
    all_put _ _ _ _ (ap (map now) c.new-above.ensures.items) (ap (map leaf_view) c.new-leaves.ensures.items) c.in_ok-put_leaves.ensures.leaves ∙ ap (λ fs. leaves_of_fields (fields_of (field_views fs))) c.deref.ensures.value
