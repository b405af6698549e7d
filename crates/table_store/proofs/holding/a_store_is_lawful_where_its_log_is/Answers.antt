use Rattle.table_store.proofs.LawfulLogLemmas.{lawful_log}
use Rattle.table_store.proofs.LawfulStoreLemmas.{lawful_store}
use Rattle.table_store.proofs.holding.a_store_is_lawful_where_its_log_is.Goals as goal

pub returns : goal.returns
returns c = record { log = lawful_log; store = lawful_store }
