use Rattle.std.proofs.Common.{All, ◌≡◌, List, [], ◌∷◌, ◌++◌, sym, subst}
use Rattle.std.proofs.lemmas.List.{map_push}
use Rattle.std.proofs.lemmas.List.Elements.{All-push}
use Rattle.row_core.specs.Conforms.{Conforms}
use Rattle.row_core.specs.Rows.{Row}
use Rattle.row_core.specs.Views.{value_view, row_views}
use Rattle.row_core.proofs.Callers.{row_conforms}
use Rattle.schema_tree.specs.Schema.{tree_of}
use Rattle.lake_inspect.proofs.rows.rows_from_json.Goals as goal

pub loop-value-preserved : goal.loop-value-preserved
loop-value-preserved c =
    let t = tree_of c.args.schema.now in
    let front = row_views c.loop-value.rows.items in
    let row = c.in_ok-row.row in
    let made : row_views c.push.new.self.items ≡ front ++ value_view row ∷ [] = rw c.in_ok-push.ensures.items (map_push value_view c.loop-value.rows.items row) in
    subst (λ (rs : List Row). All (Conforms t) rs) (sym made) (All-push (Conforms t) front (value_view row) c.loop-value.invariant (row_conforms t _ (value_view row) c.in_ok-row.ensures))
