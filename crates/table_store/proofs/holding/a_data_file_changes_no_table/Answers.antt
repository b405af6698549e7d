use Rattle.table_store.proofs.HoldingPuts.{HoldsFrom-data_file}
use Rattle.table_store.proofs.holding.a_data_file_changes_no_table.Goals as goal

pub returns : goal.returns
returns c = λ objects schema entries application bytes number. HoldsFrom-data_file objects schema 0 entries application bytes number
