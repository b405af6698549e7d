use Rattle.std.proofs.Common.{◌≡◌, suc, ◌+◌, ◌-◌, ◌++◌, ◌∷◌, [], ap, ◌∙◌, arith}
use Rattle.std.proofs.lemmas.List.{map_push}
use Rattle.std.proofs.lemmas.Result.{err_from_is_err_and}
use Rattle.row_core.specs.Views.{value_view, row_views}
use Rattle.shred.specs.Views.{shape_view}
use Rattle.row_assembly.specs.Faults.{says}
use Rattle.row_assembly.specs.Views.{reader_views}
use Rattle.row_assembly.proofs.RowLoops.{rows_on, rows_fail, rows_done}
use Rattle.row_assembly.proofs.assembling.read_rows.Goals as goal

pub returns-in_err-row : goal.returns-in_err-row
returns-in_err-row c =
    let p = err_from_is_err_and c.from_residual-in_err-row.result c.from_residual-in_err-row.ensures.1 in
    let n = c.args.count - c.loop-row._row in
    let more : n ≡ suc (n - 1) = omega arith in
    rw (p.1, p.2) (rows_fail (shape_view c.args.shape.now) n (n - 1) (says c.in_err-row.field-0.0) (row_views c.loop-row.rows.items) (reader_views c.loop-row.readers) _ more c.in_err-row.ensures.row c.loop-row.invariant)

pub loop-row-preserved : goal.loop-row-preserved
loop-row-preserved c =
    let n = c.args.count - c.loop-row._row in
    let left = c.args.count - (c.loop-row._row + 1) in
    let more : n ≡ suc left = omega arith in
    let made : row_views c.push.new.self.items ≡ row_views c.loop-row.rows.items ++ value_view c.in_ok-row.row ∷ [] = ap row_views c.in_ok-push.ensures.items ∙ map_push value_view c.loop-row.rows.items c.in_ok-row.row in
    rw (made, c.in_ok-row.ensures.left) (rows_on (shape_view c.args.shape.now) n left (value_view c.in_ok-row.row) (row_views c.loop-row.rows.items) (reader_views c.loop-row.readers) _ more c.in_ok-row.ensures.row c.loop-row.invariant)

pub returns : goal.returns
returns c =
    let none : c.args.count - c.loop-row._row ≡ 0 = omega arith in
    rows_done (shape_view c.args.shape.now) (c.args.count - c.loop-row._row) (row_views c.loop-row.rows.items) (reader_views c.loop-row.readers) _ none c.loop-row.invariant
