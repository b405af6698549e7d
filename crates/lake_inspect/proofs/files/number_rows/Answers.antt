use Rattle.std.proofs.Common.{All, ◌≡◌, List, [], ◌∷◌, ◌++◌, sym, subst}
use Rattle.std.proofs.lemmas.List.{map_push}
use Rattle.std.proofs.lemmas.List.Elements.{All-push}
use Rattle.row_core.specs.Conforms.{Conforms}
use Rattle.row_core.specs.Rows.{Row}
use Rattle.row_core.specs.Views.{value_view, row_views}
use Rattle.row_core.specs.declared.value.Value.TheVariants as values
use Rattle.schema_tree.specs.Schema.{tree_of}
use Rattle.lake_inspect.proofs.files.number_rows.Goals as goal

pub loop-number-preserved : goal.loop-number-preserved
loop-number-preserved c =
    let t = tree_of c.args.schema.now in
    let front = row_views c.loop-number.rows.items in
    let row = values.Struct c.in_ok-values.values in
    let fits : Conforms t (value_view row) = c.conforms.ensures.0 search in
    let made : row_views c.push.new.self.items ≡ front ++ value_view row ∷ [] = rw c.in_ok-push.ensures.items (map_push value_view c.loop-number.rows.items row) in
    subst (λ (rs : List Row). All (Conforms t) rs) (sym made) (All-push (Conforms t) front (value_view row) c.loop-number.invariant fits)
