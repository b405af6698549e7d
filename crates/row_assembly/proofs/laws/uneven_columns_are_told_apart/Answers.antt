use Rattle.row_assembly.proofs.Uneven.{refused_where_uneven}
use Rattle.row_assembly.proofs.laws.uneven_columns_are_told_apart.Goals as goal

pub returns : goal.returns
returns c = refused_where_uneven
