use Rattle.std.proofs.Common.{◌++◌, ap, ◌∙◌}
use Rattle.shred.specs.Ways.{under, ways}
use Rattle.shred.specs.Views.{shape_view, way_view, way_views}
use Rattle.shred.proofs.Puts.{under_top}
use Rattle.shred.proofs.ways.ways_of.Goals as goal

pub returns : goal.returns
returns c =
    let all = ways (shape_view c.args.shape.now) in
    c.in_ok-put_ways.ensures.ways ∙ (ap (λ ws. way_views ws ++ under (way_view c.new-above.result.items) all) c.new-found.ensures.items ∙ (ap (λ above. under (way_view above) all) c.new-above.ensures.items ∙ under_top all))
