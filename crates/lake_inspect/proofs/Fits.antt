-- Rows that conform to a schema fit the shape of its rows.
use Rattle.std.specs.Prelude.{List, All}
use Rattle.schema_tree.specs.Tree.{Tree}
use Rattle.row_core.specs.Conforms.{Conforms}
use Rattle.row_core.specs.Rows.{Row}
use Rattle.shred.specs.Fits.{FitsShape}
use Rattle.shred.specs.Shape.{shape_of}
use Rattle.shred.proofs.Callers.{row_fits}

pub rows_fit : (t : Tree) (rs : List Row) → All (Conforms t) rs → All (FitsShape (shape_of t)) rs
rows_fit t rs conform = λ k d h. row_fits t _ (conform k d h)
