use Rattle.std.proofs.Common.{◌≡◌, ◌++◌, ◌∷◌, [], false, true, Some, Vec, Global, refl, sym, ap, ◌∙◌}
use Rattle.std.proofs.lemmas.List.{map_push}
use Rattle.std.proofs.lemmas.Result.{err_from_is_err_and}
use Rattle.schema_tree.specs.Tree as tree
use Rattle.schema_tree.specs.Tree.{fields_of as tree_fields}
use Rattle.schema_tree.specs.View.{view as type_view, field_views as column_views}
use Rattle.shred.specs.Shape as shapes
use Rattle.shred.specs.Views.{shape_view, field_view as shape_field_view, field_views as shape_field_views}
use Rattle.shred.specs.declared.shapes.ShapeField.{ShapeField}
use Rattle.parquet_schema.specs.FileTree as trees
use Rattle.parquet_schema.specs.FileTree.{fields_of}
use Rattle.parquet_schema.specs.Fitting.{may_fit}
use Rattle.parquet_schema.specs.Views.{field_views, node_view}
use Rattle.parquet_schema.proofs.FitFields.{all_fit, both_fit, counts_differ, node-Group, none_fitted, not_distinct, one_fits, one_misfits, passed_on, struct_fits, struct_misfits, struct_of_none}
use Rattle.parquet_schema.proofs.PutLeaves.{shape-Struct, type-Struct}
use Rattle.parquet_schema.proofs.fitting.+fitting.Goals.{fitted_fields-then-fields-file-via-then-fields-file, fitted_fields-then-fields-file-via-else-fields-file+then-not-are_distinct}
use Rattle.parquet_schema.proofs.fitting.+fitting.Goals as goal

pub fitted_fields-returns-then-fields-file : goal.fitted_fields-returns-then-fields-file
fitted_fields-returns-then-fields-file g t c =
    let fs = c.args.fields.now in
    let gs = c.args.file.now in
    let misfits : may_fit (tree_fields (column_views fs)) (fields_of (field_views gs)) ≡ false = elim c.then-fields-file.branch [
      | fitted_fields-then-fields-file-via-then-fields-file w ↦ counts_differ fs gs w.if-fields-file.true
      | fitted_fields-then-fields-file-via-else-fields-file+then-not-are_distinct w ↦ not_distinct fs gs (sym w.are_distinct.ensures ∙ w.if-not-are_distinct.true)
    ] in
    rw c.into.ensures (refl, struct_misfits fs (fields_of (field_views gs)) misfits)

pub fitted_fields-loop-field-init : goal.fitted_fields-loop-field-init
fitted_fields-loop-field-init g t c = none_fitted (shape_field_views c.in_ok-shapes.shapes.items) _ (ap shape_field_views c.in_ok-shapes.ensures.items)

pub fitted_fields-returns-in_err-fitted_field : goal.fitted_fields-returns-in_err-fitted_field
fitted_fields-returns-in_err-fitted_field g t c =
    let p = err_from_is_err_and c.from_residual-in_err-fitted_field.result c.from_residual-in_err-fitted_field.ensures.1 in
    let gs = fields_of (field_views c.args.file.now) in
    rw (p.1, p.2) (passed_on shape_field_view (λ (v : Vec ShapeField Global). shapes.struct (shapes.fields_of (shape_field_views v.items))) c.in_err-fitted_field.field-0.0 _ _ c.in_err-fitted_field.ensures
    (λ none. struct_of_none c.args.fields.now gs (one_misfits c.args.fields.now c.loop-field.field-index c.field-item.result gs (shape_field_views c.loop-field.shapes.items) _ c.loop-field-test.true c.field-item.is none c.loop-field.invariant)))

pub fitted_fields-loop-field-preserved : goal.fitted_fields-loop-field-preserved
fitted_fields-loop-field-preserved g t c =
    let gs = fields_of (field_views c.args.file.now) in
    let f = c.in_ok-fitted_field.field-0 in
    let pushed : shape_field_views c.push.new.self.items ≡ shape_field_views c.loop-field.shapes.items ++ shape_field_view f ∷ [] = ap shape_field_views c.in_ok-push.ensures.items ∙ map_push shape_field_view c.loop-field.shapes.items f in
    one_fits c.args.fields.now c.loop-field.field-index c.field-item.result gs (shape_field_views c.loop-field.shapes.items) _ (shape_field_view f) _ c.loop-field-test.true c.field-item.is pushed c.in_ok-fitted_field.ensures c.loop-field.invariant

pub fitted_fields-returns : goal.fitted_fields-returns
fitted_fields-returns g t c =
    let fs = c.args.fields.now in
    let gs = c.args.file.now in
    let fit : may_fit (tree_fields (column_views fs)) (fields_of (field_views gs)) ≡ true = both_fit fs gs c.if-fields-file.false (sym c.are_distinct.ensures ∙ c.if-not-are_distinct.false) in
    struct_fits fs (fields_of (field_views gs)) _ fit (all_fit fs c.loop-field.field-index (fields_of (field_views gs)) (shape_field_views c.loop-field.shapes.items) _ c.loop-field-test.false c.loop-field.invariant)

pub fitted_node-returns-in_err-shapes-in-Struct-Group : goal.fitted_node-returns-in_err-shapes-in-Struct-Group
fitted_node-returns-in_err-shapes-in-Struct-Group g t c =
    let p = err_from_is_err_and c.from_residual.result c.from_residual.ensures.1 in
    let types : type_view c.args.node.now ≡ tree.struct (tree_fields (column_views c.deref.result.now)) = ap type_view c.in-Struct-Group.is-0 ∙ (type-Struct c.in-Struct-Group.fields ∙ ap (λ fs. tree.struct (tree_fields (column_views fs))) (sym c.deref.ensures.value)) in
    let seen : node_view c.args.file.now ≡ trees.group (fields_of (field_views c.deref-in-Struct-Group.result.now)) = ap node_view c.in-Struct-Group.is-1 ∙ (node-Group c.in-Struct-Group.group ∙ ap (λ fs. trees.group (fields_of (field_views fs))) (sym c.deref-in-Struct-Group.ensures.value)) in
    rw (p.1, p.2, types, seen) (passed_on (λ (v : Vec ShapeField Global). shapes.struct (shapes.fields_of (shape_field_views v.items))) shape_view c.in_err-shapes-in-Struct-Group.field-0.0 _ _ c.in_err-shapes-in-Struct-Group.ensures (λ none. none))

pub fitted_node-returns-in_ok-shapes-in-Struct-Group : goal.fitted_node-returns-in_ok-shapes-in-Struct-Group
fitted_node-returns-in_ok-shapes-in-Struct-Group g t c =
    let types : type_view c.args.node.now ≡ tree.struct (tree_fields (column_views c.deref.result.now)) = ap type_view c.in-Struct-Group.is-0 ∙ (type-Struct c.in-Struct-Group.fields ∙ ap (λ fs. tree.struct (tree_fields (column_views fs))) (sym c.deref.ensures.value)) in
    let seen : node_view c.args.file.now ≡ trees.group (fields_of (field_views c.deref-in-Struct-Group.result.now)) = ap node_view c.in-Struct-Group.is-1 ∙ (node-Group c.in-Struct-Group.group ∙ ap (λ fs. trees.group (fields_of (field_views fs))) (sym c.deref-in-Struct-Group.ensures.value)) in
    rw (types, seen) (c.in_ok-shapes-in-Struct-Group.ensures ∙ ap (λ s. Some s) (sym (shape-Struct c.in_ok-shapes-in-Struct-Group.shapes)))
