use Rattle.std.proofs.Common.{◌≡◌, ◌<◌, ◌++◌, option_to_list, length, ap, sym, ◌∙◌, arith}
use Rattle.std.proofs.lemmas.List.{length-map}
use Rattle.row_assembly.specs.Assembly.{first_cell}
use Rattle.row_assembly.specs.Views.{level_view, level_views, reader_leaf, reader_leaves}
use Rattle.row_assembly.proofs.RowLoops.{one_cell, no_cell}
use Rattle.row_assembly.proofs.LevelLoops.{element_at, heads_on, set_same}
use Rattle.row_assembly.proofs.parts.next_test.Goals as goal
use Rattle.row_assembly.proofs.parts.next_test.Goals.{in-Some+in_ok-push_back, in_default}

pub loop-reader-preserved : goal.loop-reader-preserved
loop-reader-preserved c =
    let css = level_views c.args.readers.now in
    let now = c.loop-reader.readers in
    let i = c.loop-reader.reader-index in
    let x = c.reader-item.result in
    let y = c.cell.new.self in
    let before = c.loop-reader.invariant in
    let below : i < length now = omega (arith, c.loop-reader.auto.readers, c.loop-reader-test.true) in
    let long = length-map c.args.readers.now level_view in
    let within : i < length css = omega (arith, long, c.loop-reader-test.true) in
    let at = element_at level_view now css i x before.same below c.reader-item.is in
    let kept : level_view y ≡ level_view x = c.cell.ensures.same ∙ ap level_view (sym c.reader-item.is) in
    let put : c.match-cell.cells.items ≡ c.loop-reader.cells.items ++ option_to_list c.cell.result =
    elim c.match-cell.branch [ in-Some+in_ok-push_back w ↦ one_cell _ _ _ w.in-Some.cell w.in-Some.is (ap (λ q. q.items) w.cells-is ∙ w.in_ok-push_back.ensures.items) | in_default w ↦ no_cell _ _ _ w.in_default.is (ap (λ q. q.items) w.cells-is) ] in
    record {
      cells = heads_on css i (level_view x) c.loop-reader.cells.items c.match-cell.cells.items c.cell.result within at (c.cell.ensures.cell ∙ ap (λ r. first_cell (level_view r)) (sym c.reader-item.is)) put before.cells;
      same = set_same level_view now css i x y before.same below c.reader-item.is kept;
      leaves = set_same reader_leaf now (reader_leaves c.args.readers.now) i x y before.leaves below c.reader-item.is (c.cell.ensures.leaf ∙ ap reader_leaf (sym c.reader-item.is));
    }
