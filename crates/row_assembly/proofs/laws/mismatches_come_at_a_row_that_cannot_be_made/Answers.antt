use Rattle.row_assembly.proofs.RowsBefore.{refused_where_stops, stops}
use Rattle.row_assembly.proofs.laws.mismatches_come_at_a_row_that_cannot_be_made.Goals as goal

pub returns-clause-refused : goal.returns-clause-refused
returns-clause-refused c = refused_where_stops

pub returns-clause-same : goal.returns-clause-same
returns-clause-same c = stops
