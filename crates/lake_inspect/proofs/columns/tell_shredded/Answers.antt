use Rattle.std.proofs.Common.{All, subst, sym}
use Rattle.row_core.specs.Views.{row_views}
use Rattle.schema_tree.specs.Schema.{tree_of}
use Rattle.shred.specs.Fits.{FitsShape}
use Rattle.shred.specs.Shape.{Shape}
use Rattle.lake_inspect.proofs.Fits.{rows_fit}
use Rattle.lake_inspect.proofs.columns.tell_shredded.Goals as goal

pub shred-requires : goal.shred-requires
shred-requires c =
    let rows = row_views c.args.rows.now in
    record { fit = subst (λ (s : Shape). All (FitsShape s) rows) (sym c.in_ok-shape.ensures.shape) (rows_fit (tree_of c.args.schema.now) rows c.requires) }
