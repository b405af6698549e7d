use Rattle.std.proofs.Common.{◌≡◌, drop, option_map}
use Rattle.schema_tree.specs.Tree.{fields_of as tree_fields}
use Rattle.schema_tree.specs.View.{field_views as column_views}
use Rattle.shred.specs.Views.{field_views as shape_field_views}
use Rattle.parquet_schema.specs.FileTree.{fields_of}
use Rattle.parquet_schema.specs.Fitting.{fitted_fields}
use Rattle.parquet_schema.specs.Views.{field_views}
use Rattle.parquet_schema.proofs.FitFields.{before}
use Rattle.parquet_schema.proofs.fitting.+fitting.Given as goal

-- the shapes that are made and those of the fields that are left are all shapes
abbrev pub invariant-fitted_fields-loop-field : goal.invariant-fitted_fields-loop-field
invariant-fitted_fields-loop-field g l =
    option_map (before (shape_field_views l.shapes.items)) (fitted_fields (tree_fields (column_views (drop l.field-index l.fields))) (fields_of (field_views l.file))) ≡ fitted_fields (tree_fields (column_views l.fields)) (fields_of (field_views l.file))
