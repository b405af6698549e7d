use Rattle.std.proofs.Common.{◌≡◌, length}
use Rattle.parquet_schema.specs.FileTree.{fields_of}
use Rattle.parquet_schema.specs.Fitting.{are_distinct}
use Rattle.parquet_schema.specs.Views.{field_views}
use Rattle.parquet_schema.proofs.fitting.are_distinct.Given as goal

abbrev pub decreases-loop-first : goal.decreases-loop-first
decreases-loop-first l = length l.rest

-- the fields that are left are distinct where all are
abbrev pub invariant-loop-first : goal.invariant-loop-first
invariant-loop-first l = are_distinct (fields_of (field_views l.rest)) ≡ are_distinct (fields_of (field_views l.fields))
