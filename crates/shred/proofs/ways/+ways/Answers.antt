use Rattle.std.proofs.Common.{◌≡◌, ◌++◌, ◌∷◌, [], List, ap, ◌∙◌}
use Rattle.std.proofs.lemmas.List.{map_push}
use Rattle.shred.specs.Ways.{under, ways, field_ways, Step}
use Rattle.shred.specs.Views.{field_view, step_view, way_view, way_views}
use Rattle.shred.proofs.Puts.{under_more, shape_seen, optional_seen, field_put, fields_put}
use Rattle.shred.proofs.ways.+ways.Goals as goal

pub put_fields-loop-place-preserved : goal.put_fields-loop-place-preserved
put_fields-loop-place-preserved t c = record {
  put = field_put c.args.fields.now c.loop-place.place c.index-fields-place.result (way_view c.args.above.now.items) (way_view c.loop-place.above.items) (way_views c.loop-place.found.items) (way_views c.put_field.new.found.items) _ c.loop-place-test.true c.index-fields-place.is c.loop-place.invariant.kept c.in_ok-put_field.ensures.ways c.loop-place.invariant.put;
  kept = c.in_ok-put_field.ensures.above ∙ c.loop-place.invariant.kept;
}

pub put_fields-returns-clause-ways : goal.put_fields-returns-clause-ways
put_fields-returns-clause-ways t c =
    fields_put c.args.fields.now c.loop-place.place (way_view c.args.above.now.items) (way_views c.loop-place.found.items) _ c.loop-place-test.false c.loop-place.invariant.put

pub put_field-returns-clause-ways : goal.put_field-returns-clause-ways
put_field-returns-clause-ways t c =
    let f = c.args.field.now in
    let above = way_view c.args.above.now.items in
    let longer : way_view c.push.new.self.items ≡ above ++ record { place = c.args.place; optional = (field_view f).optional } ∷ [] =
    ap way_view c.in_ok-push.ensures.items ∙ (map_push step_view c.args.above.now.items _ ∙ ap (λ b. above ++ record { place = c.args.place; optional = b } ∷ []) (optional_seen f)) in
    let step : Step = record { place = c.args.place; optional = (field_view f).optional } in
    let shape = (field_view f).shape in
    let pushed : under (way_view c.push.new.self.items) (ways shape) ≡ under above (field_ways c.args.place (field_view f)) = ap (λ (a : List Step). under a (ways shape)) longer ∙ under_more above step (ways shape) in
    c.in_ok-put_ways.ensures.ways ∙ ap (λ ws. way_views c.args.found.now.items ++ ws) (ap (λ s. under (way_view c.push.new.self.items) (ways s)) (shape_seen f) ∙ pushed)
