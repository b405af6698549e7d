use Rattle.std.proofs.Common.{◌≡◌, drop}
use Rattle.parquet_file.proofs.FlatShapes.{all_leaves}
use Rattle.parquet_file.proofs.flat.are_leaves.Given as goal

abbrev pub invariant-loop-field : goal.invariant-loop-field
invariant-loop-field l = all_leaves (drop l.field-index l.fields) ≡ all_leaves l.fields
