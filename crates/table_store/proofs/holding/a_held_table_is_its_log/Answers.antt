use Rattle.table_store.proofs.HoldingLogs.{HoldsFrom-log, told_batches, told_rows}
use Rattle.table_store.proofs.holding.a_held_table_is_its_log.Goals as goal

pub returns : goal.returns
returns c = record { log = λ objects schema entries. HoldsFrom-log objects schema 0 entries; batches = told_batches; rows = told_rows }
