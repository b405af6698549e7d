use Rattle.std.proofs.Common.{◌≡◌, None, is_none, IsTrue, ap, sym, ◌∙◌}
use Rattle.schema_tree.specs.Schema.{tree_of}
use Rattle.schema_tree.specs.Tree.{struct, fields_of}
use Rattle.row_core.specs.Conforms.{Conforms, is_value}
use Rattle.row_core.specs.Unsupported.{unsupported, unsupported_field}
use Rattle.row_core.specs.Views.{value_view}
use Rattle.row_core.proofs.FirstColumn.{none_is}
use Rattle.row_core.proofs.conforming.conforms.Goals as goal

pub returns-then-are_supported : goal.returns-then-are_supported
returns-then-are_supported g c =
    let schema = c.args.schema.now in
    let row = value_view c.args.row.now in
    let none : unsupported (tree_of schema) ≡ None =
    none_is (unsupported (tree_of schema)) (ap (λ cs. is_none (unsupported_field (fields_of cs))) (sym c.fields.ensures) ∙ (sym c.are_supported.ensures ∙ c.if-are_supported.true)) in
    let same : c.is_struct.result ≡ is_value (tree_of schema) row = c.is_struct.ensures ∙ ap (λ cs. is_value (struct (fields_of cs)) row) c.fields-then-are_supported.ensures in
    let there : IsTrue c.is_struct.result → Conforms (tree_of schema) row = λ h. record { supported = none; fits = sym same ∙ h } in
    let back : Conforms (tree_of schema) row → IsTrue c.is_struct.result = λ h. same ∙ h.fits in
    (there, back)
