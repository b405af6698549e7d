use Rattle.std.proofs.Common.{◌≡◌, Some, None, option_map, ap, sym, ◌∙◌, ◌++◌, ◌∷◌, []}
use Rattle.std.proofs.lemmas.List.{map_push}
use Rattle.row_core.specs.Views.{row_views}
use Rattle.shred.specs.Columns.{column}
use Rattle.shred.specs.Views.{way_view, borrowed_column, borrowed_columns}
use Rattle.shred.proofs.WayColumns.{one_way_found, one_way_missing, all_ways_found}
use Rattle.shred.proofs.shredding.columns_of.Goals as goal

pub returns-in-None : goal.returns-in-None
returns-in-None c =
    let rows = row_views c.args.rows.now in
    let has : column (way_view c.way-item.result.items) rows ≡ None = ap (λ w. column (way_view w) rows) (sym c.deref.ensures.value) ∙ (sym c.in_ok-column.ensures ∙ ap (option_map borrowed_column) c.in-None.is) in
    one_way_missing c.args.ways.now c.loop-way.way-index c.way-item.result rows (borrowed_columns c.loop-way.columns.items) _ c.loop-way-test.true c.way-item.is has c.loop-way.invariant

pub loop-way-preserved : goal.loop-way-preserved
loop-way-preserved c =
    let rows = row_views c.args.rows.now in
    let has : column (way_view c.way-item.result.items) rows ≡ Some (borrowed_column c.in-Some.column) = ap (λ w. column (way_view w) rows) (sym c.deref.ensures.value) ∙ (sym c.in_ok-column.ensures ∙ ap (option_map borrowed_column) c.in-Some.is) in
    let more : borrowed_columns c.push.new.self.items ≡ borrowed_columns c.loop-way.columns.items ++ borrowed_column c.in-Some.column ∷ [] = ap borrowed_columns c.in_ok-push-in-Some.ensures.items ∙ map_push borrowed_column c.loop-way.columns.items c.in-Some.column in
    rw more (one_way_found c.args.ways.now c.loop-way.way-index c.way-item.result rows (borrowed_columns c.loop-way.columns.items) (borrowed_column c.in-Some.column) _ c.loop-way-test.true c.way-item.is has c.loop-way.invariant)

pub returns : goal.returns
returns c = all_ways_found c.args.ways.now c.loop-way.way-index (row_views c.args.rows.now) (borrowed_columns c.loop-way.columns.items) _ c.loop-way-test.false c.loop-way.invariant
