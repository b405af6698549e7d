use Rattle.std.proofs.Common.{◌∙◌}
use Rattle.parquet_file.proofs.FlatShapes.{none_left}
use Rattle.parquet_file.proofs.flat.are_leaves.Goals as goal

pub returns : goal.returns
returns c = none_left c.args.fields.now c.loop-field.field-index c.loop-field-test.false ∙ c.loop-field.invariant
