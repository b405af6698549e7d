use Rattle.std.proofs.Common.{◌≡◌, [], ap, sym, ◌∙◌, arith}
use Rattle.row_assembly.specs.Neighbours.{levels_behind, shared_steps}
use Rattle.row_assembly.specs.Neighbours as neighbours
use Rattle.shred.specs.Ways.{highest}
use Rattle.shred.specs.Views.{way_view, way_views}
use Rattle.row_assembly.specs.Views.{leaf_view}
use Rattle.row_assembly.proofs.LeafLoops.{leaf_on, leaves_end}
use Rattle.row_assembly.specs.declared.neighbours.LeafLevels.{LeafLevels}
use Rattle.row_assembly.proofs.neighbours.leaf_levels.Goals as goal

pub loop-way-preserved : goal.loop-way-preserved
loop-way-preserved c =
    let before = c.loop-way.before.now in
    let way = c.deref-before.result.now in
    let leaf : LeafLevels = record { highest = c.highest.result; shared = c.shared_steps.result } in
    let top : c.highest.result ≡ highest (way_view way) = c.highest.ensures ∙ ap (λ w. highest (way_view w)) (c.deref.ensures.value ∙ sym c.deref-before.ensures.value) in
    let shared : c.shared_steps.result ≡ shared_steps (way_view before) (way_view way) = c.shared_steps.ensures ∙ ap (λ w. shared_steps (way_view before) (way_view w)) (c.deref-in-loop-way.ensures.value ∙ sym c.deref-before.ensures.value) in
    let made : leaf_view leaf ≡ (let l : neighbours.LeafLevels = record { highest = highest (way_view way); shared = shared_steps (way_view before) (way_view way) } in l) = λ i. record { highest = top i; shared = shared i } in
    leaf_on before way c.loop-way.leaves.items c.push.new.self.items c.deref-way-items.result.now c.loop-way.way-index c.way-item.result leaf _ c.loop-way-test.true c.way-item.is c.deref-before.ensures.value c.in_ok-push.ensures.items made c.loop-way.invariant

pub returns : goal.returns
returns c =
    leaves_end c.loop-way.leaves.items c.deref-way-items.result.now (way_view c.loop-way.before.now) c.loop-way.way-index _ (omega (arith, c.loop-way-test.false)) c.loop-way.invariant
    ∙ (ap (λ ws. levels_behind [] (way_views ws)) c.deref-way-items.ensures.value ∙ ap (levels_behind []) c.in_ok-ways.ensures)
