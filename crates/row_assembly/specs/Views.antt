-- What is left of columns that are read cell by cell.
use Rattle.std.specs.Prelude.{List, map, ◌++◌, replicate}
use Rattle.lake_bytes.specs.Hybrid.{values_of}
use Rattle.row_core.specs.Views.{row_views}
use Rattle.shred.specs.Columns.{Cell}
use Rattle.row_assembly.specs.Assembly.{cells_in}
use Rattle.row_assembly.specs.Levels.{test_cells}
use Rattle.row_assembly.specs.Neighbours as specs
use Rattle.row_assembly.specs.declared.cells.Reader.{Reader}
use Rattle.row_assembly.specs.declared.neighbours.LeafLevels.{LeafLevels}
use Rattle.row_assembly.specs.declared.parts.LevelReader.{LevelReader}

-- the cells that are left of a column
abbrev pub reader_view : Reader → List Cell
reader_view r = cells_in r.top r.levels.items (row_views r.values.items)

abbrev pub reader_views : List Reader → List (List Cell)
reader_views rs = map reader_view rs

-- the cells of the levels that are left of a column
abbrev pub level_view : LevelReader → List Cell
level_view r = test_cells r.top (replicate r.count r.level ++ values_of r.rest.items)

abbrev pub level_views : List LevelReader → List (List Cell)
level_views rs = map level_view rs

-- ---- leaves

abbrev pub leaf_view : LeafLevels → specs.LeafLevels
leaf_view l = record { highest = l.highest; shared = l.shared }

abbrev pub leaf_views : List LeafLevels → List specs.LeafLevels
leaf_views ls = map leaf_view ls

-- the leaf whose levels are read
abbrev pub reader_leaf : LevelReader → specs.LeafLevels
reader_leaf r = record { highest = r.top; shared = r.shared }

abbrev pub reader_leaves : List LevelReader → List specs.LeafLevels
reader_leaves rs = map reader_leaf rs
