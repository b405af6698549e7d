-- What the types of the code stand for.
use Rattle.std.specs.Prelude.{List, map, option_map, string_bytes, Vec}
use Rattle.std.specs.Borrow.{Bor}
use Rattle.std.specs.declared.alloc.Global.{Global}
use Rattle.row_core.specs.Rows as rows
use Rattle.row_core.specs.declared.value.Value.{Value}
use Rattle.row_core.specs.Views.{value_view, row_views}
use Rattle.shred.specs.Shape as shapes
use Rattle.shred.specs.Shape.{fields_of, Field}
use Rattle.shred.specs.Ways as specs
use Rattle.shred.specs.Columns as columns
use Rattle.shred.specs.Parts.{Part}
use Rattle.lake_bytes.specs.Hybrid.{values_of}
use Rattle.shred.specs.declared.shapes.Shape.{Shape, fold-Shape}
use Rattle.shred.specs.declared.shapes.Shape.TheOpen.{Shape-F, ShapeField-F}
use Rattle.shred.specs.declared.shapes.ShapeField.{ShapeField, fold-ShapeField}
use Rattle.shred.specs.declared.columns.Cell.{Cell}
use Rattle.shred.specs.declared.columns.Column.{Column}
use Rattle.shred.specs.declared.columns.ColumnPart.{ColumnPart}
use Rattle.shred.specs.declared.ways.Step.{Step}

-- one level, with each shape inside already seen
abbrev pub shape_step : Shape-F shapes.Shape Field → shapes.Shape
shape_step Shape-F.Leaf = shapes.leaf
shape_step (Shape-F.Struct v) = shapes.struct (fields_of v.items)

abbrev pub field_step : ShapeField-F shapes.Shape Field → Field
field_step f = record { name = string_bytes f.name; optional = f.optional; shape = f.shape }

abbrev pub shape_view : Shape → shapes.Shape
shape_view = fold-Shape shapes.Shape Field shape_step field_step

abbrev pub field_view : ShapeField → Field
field_view = fold-ShapeField shapes.Shape Field shape_step field_step

abbrev pub field_views : List ShapeField → List Field
field_views fs = map field_view fs

abbrev pub step_view : Step → specs.Step
step_view s = record { place = s.place; optional = s.optional }

abbrev pub way_view : List Step → List specs.Step
way_view way = map step_view way

abbrev pub way_views : List (Vec Step Global) → List (List specs.Step)
way_views ways = map (λ way. way_view way.items) ways

-- ---- values that are owned

abbrev pub cell_view : Cell Value → columns.Cell
cell_view c = record { level = c.level; value = option_map value_view c.value }

abbrev pub cells_view : List (Cell Value) → List columns.Cell
cells_view cs = map cell_view cs

abbrev pub column_view : Column Value → columns.Column
column_view c = record { levels = c.levels.items; values = row_views c.values.items }

abbrev pub column_views : List (Column Value) → List columns.Column
column_views cs = map column_view cs

abbrev pub part_view : ColumnPart Value → Part
part_view p = record { levels = values_of p.levels.items; kept = column_view p.kept }

abbrev pub part_views : List (ColumnPart Value) → List Part
part_views ps = map part_view ps

-- ---- values that are borrowed

abbrev pub borrowed_value : Bor Value → rows.Value
borrowed_value v = value_view v.now

abbrev pub borrowed_cell : Cell (Bor Value) → columns.Cell
borrowed_cell c = record { level = c.level; value = option_map borrowed_value c.value }

abbrev pub borrowed_column : Column (Bor Value) → columns.Column
borrowed_column c = record { levels = c.levels.items; values = map borrowed_value c.values.items }

abbrev pub borrowed_columns : List (Column (Bor Value)) → List columns.Column
borrowed_columns cs = map borrowed_column cs
