use Rattle.std.proofs.Common.{Vec, Global, ap, map, ◌∙◌}
use Rattle.shred.specs.Ways.{highest}
use Rattle.shred.specs.Views.{way_view}
use Rattle.shred.specs.declared.ways.Step.{Step}
use Rattle.row_assembly.proofs.RowLoops.{all_listed, highest_each}
use Rattle.row_assembly.proofs.assembling.highest_levels.Goals as goal

pub returns : goal.returns
returns c =
    let g = λ (w : Vec Step Global). highest (way_view w.items) in
    let all = all_listed g c.loop-way.levels.items c.deref-way-items.result.now c.loop-way.way-index _ c.loop-way-test.false c.loop-way.invariant in
    all ∙ (ap (map g) c.deref-way-items.ensures.value ∙ (highest_each c.in_ok-ways.ways.items ∙ ap (map highest) c.in_ok-ways.ensures))
