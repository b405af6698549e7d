use Rattle.std.proofs.Common.{ap, sym, ◌∙◌}
use Rattle.schema_tree.specs.Sameness.{have_fraction}
use Rattle.schema_tree.specs.Tree.{fields_of}
use Rattle.schema_tree.specs.View.{field_views}
use Rattle.schema_tree.proofs.SameFields.{same_structs}
use Rattle.schema_tree.proofs.schema.Schema.same.Goals as goal

pub returns-clause-complete : goal.returns-clause-complete
returns-clause-complete g c = λ without same.
    let fields = ap field_views c.deref.ensures.value in
    let others = ap field_views c.deref-2.ensures.value in
    c.same_fields.ensures.complete (ap (λ cs. have_fraction (fields_of cs)) fields ∙ without) (fields ∙ (same_structs (field_views c.args.self.now.fields.items) (field_views c.args.other.now.fields.items) same ∙ sym others))
