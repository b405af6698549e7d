use Rattle.std.proofs.Common.{◌≡◌, ◌<◌, ◌++◌, option_to_list, length, drop, ap, sym, ◌∙◌, arith}
use Rattle.row_assembly.specs.Assembly.{first_cell}
use Rattle.row_assembly.specs.Views.{reader_view}
use Rattle.row_assembly.proofs.RowLoops.{item_on, one_cell, no_cell, cells_on, left_on, others_on}
use Rattle.row_assembly.proofs.cells.next_cells.Goals as goal
use Rattle.row_assembly.proofs.cells.next_cells.Goals.{in-Some+in_ok-push_back, in_default}

pub loop-reader-preserved : goal.loop-reader-preserved
loop-reader-preserved c =
    let old = c.args.readers.now in
    let now = c.loop-reader.readers in
    let i = c.loop-reader.reader-index in
    let x = c.reader-item.result in
    let below : i < length now = omega (arith, c.loop-reader.auto.readers, c.loop-reader-test.true) in
    let at = item_on old now i x below c.loop-reader-test.true c.loop-reader.invariant.others c.reader-item.is in
    let put : c.match-next_cell.cells.items ≡ c.loop-reader.cells.items ++ option_to_list c.next_cell.result =
    elim c.match-next_cell.branch [ in-Some+in_ok-push_back w ↦ one_cell _ _ _ w.in-Some.cell w.in-Some.is (ap (λ q. q.items) w.cells-is ∙ w.in_ok-push_back.ensures.items) | in_default w ↦ no_cell _ _ _ w.in_default.is (ap (λ q. q.items) w.cells-is) ] in
    record {
      cells = cells_on old i x c.loop-reader.cells.items c.match-next_cell.cells.items c.next_cell.result c.loop-reader-test.true at (c.next_cell.ensures.cell ∙ ap (λ r. first_cell (reader_view r)) (sym c.reader-item.is)) put c.loop-reader.invariant.cells;
      left = left_on old now i x c.next_cell.new.self below c.loop-reader-test.true at (c.next_cell.ensures.left ∙ ap (λ r. drop 1 (reader_view r)) (sym c.reader-item.is)) c.loop-reader.invariant.left;
      others = others_on old now i c.next_cell.new.self c.loop-reader.invariant.others;
    }
