use Rattle.std.proofs.Common.{◌≡◌, ◌++◌, ◌∷◌, [], List, Bor, Option, map, Some, None, option_to_list, option_map, ap, sym, ◌∙◌}
use Rattle.std.proofs.lemmas.List.{map_push, append-nil}
use Rattle.row_core.specs.declared.value.Value.{Value}
use Rattle.shred.specs.Views.{way_view, borrowed_value, borrowed_cell}
use Rattle.shred.proofs.Behind.{row_put, row_missing, rows_put}
use Rattle.shred.proofs.shredding.column_of.Goals as goal
use Rattle.shred.proofs.shredding.column_of.Goals.{in-Some-value+in_ok-push-2, in_default-value}

one_value : (new old : List (Bor Value)) (v : Bor Value) (o : Option (Bor Value)) → o ≡ Some v → new ≡ old ++ v ∷ [] → map borrowed_value new ≡ map borrowed_value old ++ option_to_list (option_map borrowed_value o)
one_value new old v o is pushed = rw (pushed, is) (map_push borrowed_value old v)

no_value : (new old : List (Bor Value)) (o : Option (Bor Value)) → o ≡ None → new ≡ old → map borrowed_value new ≡ map borrowed_value old ++ option_to_list (option_map borrowed_value o)
no_value new old o is same = rw (same, is) (sym (append-nil (map borrowed_value old)))

pub returns-in_default : goal.returns-in_default
returns-in_default c =
    row_missing (way_view c.args.way.now) c.args.rows.now c.loop-row.row-index c.row-item.result c.loop-row.levels.items (map borrowed_value c.loop-row.values.items) _ c.loop-row-test.true c.row-item.is (sym c.in_default.ensures) c.loop-row.invariant

pub loop-row-preserved : goal.loop-row-preserved
loop-row-preserved c =
    let cell = borrowed_cell c.in-Some.cell in
    let put = row_put (way_view c.args.way.now) c.args.rows.now c.loop-row.row-index c.row-item.result c.loop-row.levels.items (map borrowed_value c.loop-row.values.items) cell _ c.loop-row-test.true c.row-item.is (sym c.in-Some.ensures) c.loop-row.invariant in
    let values : map borrowed_value c.match-cell.values.items ≡ map borrowed_value c.loop-row.values.items ++ option_to_list cell.value =
    elim c.match-cell.branch [ in-Some-value+in_ok-push-2 w ↦ one_value c.match-cell.values.items c.loop-row.values.items w.in-Some-value.value c.in-Some.cell.value w.in-Some-value.is (ap (λ v. v.items) w.values-is ∙ w.in_ok-push-2.ensures.items) | in_default-value w ↦ no_value c.match-cell.values.items c.loop-row.values.items c.in-Some.cell.value w.in_default-value.is (ap (λ v. v.items) w.values-is) ] in
    rw (c.in_ok-push.ensures.items, values) put

pub returns : goal.returns
returns c = rows_put (way_view c.args.way.now) c.args.rows.now c.loop-row.row-index c.loop-row.levels.items (map borrowed_value c.loop-row.values.items) _ c.loop-row-test.false c.loop-row.invariant
