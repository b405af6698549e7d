use Rattle.std.proofs.Common.{◌≡◌, map, option_map, ap, sym, ◌∙◌}
use Rattle.std.proofs.lemmas.Option.{none-some}
use Rattle.row_core.specs.Views.{row_views}
use Rattle.shred.specs.Columns.{column, columns, all_some}
use Rattle.shred.specs.Views.{shape_view, way_views, borrowed_columns}
use Rattle.shred.proofs.Matrix.{columns_found}
use Rattle.shred.proofs.shredding.shred.Goals as goal

pub unreachable-requires : goal.unreachable-requires
unreachable-requires c =
    let found = columns_found (shape_view c.args.shape.now) (row_views c.args.rows.now) c.requires.fit in
    let none = sym c.in_ok-columns.ensures ∙ ap (option_map (λ cs. borrowed_columns cs.items)) c.in-None.is in
    let rows = row_views c.args.rows.now in
    let same : all_some (map (λ way. column way rows) (way_views c.deref.result.now)) ≡ columns (shape_view c.args.shape.now) rows = ap (λ ws. all_some (map (λ way. column way rows) ws)) (ap way_views c.deref.ensures.value ∙ c.in_ok-ways.ensures) in
    none-some _ (sym none ∙ (same ∙ found))
