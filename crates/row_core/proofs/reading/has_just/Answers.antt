use Rattle.std.proofs.Common.{◌≡◌, ◌+◌, true, false, drop, ap, sym, ◌∙◌, arith}
use Rattle.std.specs.Prelude.{is_some}
use Rattle.std.proofs.lemmas.Bool.{eqb-true}
use Rattle.serde_json.specs.Find.{get}
use Rattle.serde_json.specs.Data.{object}
use Rattle.json_text.specs.View.{named_view}
use Rattle.schema_tree.specs.Tree.{fields_of}
use Rattle.schema_tree.specs.View.{field_view, field_views}
use Rattle.row_core.proofs.Fields.{name_seen, next_seen, none_seen}
use Rattle.row_core.proofs.KnownNames.{found, none_unknown, names-named_view, count_field, all_counted, is_there}
use Rattle.row_core.proofs.reading.has_just.Goals as goal
use Rattle.row_core.proofs.reading.has_just.Goals.{then-is_some, else-is_some}

pub loop-field-preserved : goal.loop-field-preserved
loop-field-preserved g c =
    let fs = c.args.fields.now in
    let d = object (named_view c.args.members.now.entries) in
    let i = c.loop-field.field-index in
    let f = c.field-item.result in
    let all = found (fields_of (field_views fs)) d in
    let first = next_seen field_view fs i f c.loop-field-test.true c.field-item.is in
    let name = c.as_str.ensures.value ∙ name_seen f in
    let there : c.is_some.result ≡ is_some (get (field_view f).name d) =
    c.is_some.ensures ∙ (is_there c.member_of.result (get c.as_str.result.now d) c.member_of.ensures ∙ ap (λ k. is_some (get k d)) name) in
    elim c.if-is_some.branch [
      | then-is_some w ↦
          (let counted = count_field (field_views (drop i fs)) (field_views (drop (i + 1) fs)) (field_view f) d c.loop-field.found all true first (sym w.if-is_some.true ∙ there) c.loop-field.invariant.counted in
          record { counted = omega arith; within = omega arith })
      | else-is_some w ↦
          (let counted = count_field (field_views (drop i fs)) (field_views (drop (i + 1) fs)) (field_view f) d c.loop-field.found all false first (sym w.if-is_some.false ∙ there) c.loop-field.invariant.counted in
          record { counted = omega arith; within = omega arith })
    ]

pub returns : goal.returns
returns g c = λ same.
    let fs = c.args.fields.now in
    let i = c.loop-field.field-index in
    let ms = named_view c.args.members.now.entries in
    let d = object (named_view c.args.members.now.entries) in
    let count = all_counted (field_views (drop i fs)) d c.loop-field.found (found (fields_of (field_views fs)) d) (none_seen field_view fs i c.loop-field-test.false) c.loop-field.invariant.counted in
    let len = eqb-true c.loop-field.found c.len.result same in
    let every = names-named_view c.args.members.now.entries in
    none_unknown (fields_of (field_views fs)) ms c.requires (count ∙ (len ∙ (c.len.ensures.len ∙ sym every)))
