use Rattle.table_store.proofs.HoldingSchema.{one_schema, only_table}
use Rattle.table_store.proofs.holding.one_table.Goals as goal

pub returns : goal.returns
returns c = record { log = only_table; schema = one_schema }
