use Rattle.std.proofs.Common.{◌≡◌, ◌++◌, ◌∷◌, ◌<◌, ◌-◌, ◌+◌, [], Vec, Global, ap, ◌∙◌, arith}
use Rattle.std.proofs.lemmas.List.{map_push}
use Rattle.std.proofs.lemmas.Result.{err_from_is_err_and}
use Rattle.parquet_schema.specs.Reading.{fields_at}
use Rattle.parquet_footer.specs.Views.{element_views}
use Rattle.parquet_schema.specs.Views.{field_view, field_views}
use Rattle.parquet_schema.specs.declared.tree.FileField.{FileField}
use Rattle.parquet_schema.proofs.ReadFields.{behind, one_read, one_refused}
use Rattle.parquet_schema.proofs.reading.+reading.Goals as goal

pub read_fields-returns-in_err-read_field : goal.read_fields-returns-in_err-read_field
read_fields-returns-in_err-read_field g t c =
    let p = err_from_is_err_and c.from_residual.result c.from_residual.ensures.1 in
    let deep : 0 < c.args.deep = omega arith in
    rw (p.1, p.2) (one_refused field_view (λ (v : Vec FileField Global). field_views v.items) c.in_err-read_field.field-0.0 c.args.deep c.loop-field._field c.args.count (field_views c.loop-field.fields.items) (element_views c.loop-field.rest.now) (element_views c.read_field.new.rest.now) (element_views c.read_field.new.rest.now) _ deep c.loop-field-test.true c.in_err-read_field.ensures c.loop-field.invariant)

pub read_fields-loop-field-preserved : goal.read_fields-loop-field-preserved
read_fields-loop-field-preserved g t c =
    let f = c.in_ok-read_field.field-0 in
    let pushed : field_views c.push.new.self.items ≡ field_views c.loop-field.fields.items ++ field_view f ∷ [] = ap field_views c.in_ok-push.ensures.items ∙ map_push field_view c.loop-field.fields.items f in
    let deep : 0 < c.args.deep = omega arith in
    ap (λ fs. behind fs (fields_at c.args.deep (c.args.count - (c.loop-field._field + 1)) (element_views c.read_field.new.rest.now))) pushed ∙ one_read c.args.deep c.loop-field._field c.args.count (field_views c.loop-field.fields.items) (field_view f) (element_views c.loop-field.rest.now) (element_views c.read_field.new.rest.now) _ deep c.loop-field-test.true c.in_ok-read_field.ensures c.loop-field.invariant
