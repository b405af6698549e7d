use Rattle.std.proofs.Common.{◌≡◌, [], map, sym, ap, ◌∙◌}
use Rattle.shred.specs.Views.{part_views, column_views, shape_view}
use Rattle.shred.specs.Ways.{ways, highest}
use Rattle.row_assembly.specs.Levels.{kept_of, tests_of}
use Rattle.row_assembly.specs.Neighbours.{leaf_levels, tops_in}
use Rattle.row_assembly.specs.Parts.{parts_of}
use Rattle.row_assembly.specs.Views.{leaf_views, level_views, reader_leaves}
use Rattle.row_assembly.proofs.LeafLoops.{part_each, tops_behind}
use Rattle.row_assembly.proofs.parts.assemble_part.Goals as goal

pub returns : goal.returns
returns c most given cut even plain small =
    let s = shape_view c.args.shape.now in
    let parts = c.args.parts.items in
    let leaves = c.deref-2.result.now in
    let tops = c.deref-3.result.now in
    let first : leaf_views c.deref.result.now ≡ leaf_levels s = ap leaf_views c.deref.ensures.value ∙ c.in_ok-leaves.ensures in
    let second : leaf_views leaves ≡ leaf_levels s = ap leaf_views c.deref-2.ensures.value ∙ c.in_ok-leaves.ensures in
    let tops_are : tops ≡ map highest (ways s) = c.deref-3.ensures.value ∙ (c.in_ok-tops.ensures ∙ (ap tops_in first ∙ tops_behind [] (ways s))) in
    let same : tops_in (leaf_views leaves) ≡ tops = ap tops_in second ∙ (tops_behind [] (ways s) ∙ sym tops_are) in
    let parts_are : part_views parts ≡ parts_of c.args.first most tops given = cut ∙ ap (λ ts. parts_of c.args.first most ts given) (sym tops_are) in
    let enough = part_each s c.args.first most given leaves parts even second cut in
    let readers : reader_leaves c.deref_mut.result.now ≡ leaf_levels s = ap reader_leaves c.deref_mut.ensures.value ∙ (c.in_ok-left.ensures.leaves enough ∙ second) in
    let levels : level_views c.deref_mut.result.now ≡ tests_of tops (parts_of c.args.first most tops given) =
    ap level_views c.deref_mut.ensures.value ∙ (c.in_ok-left.ensures.levels ∙ (ap (λ ts. tests_of ts (part_views parts)) same ∙ ap (tests_of tops) parts_are)) in
    let kept : column_views c.in_ok-left.kept.items ≡ kept_of tops (parts_of c.args.first most tops given) =
    c.in_ok-left.ensures.kept ∙ (ap (λ ts. kept_of ts (part_views parts)) same ∙ ap (kept_of tops) parts_are) in
    c.rows_between.ensures most given tops_are readers levels kept even plain small
