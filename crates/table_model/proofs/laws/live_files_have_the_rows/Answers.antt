use Rattle.table_model.proofs.Live.{live_is_rows, live_kept}
use Rattle.table_model.proofs.laws.live_files_have_the_rows.Goals as goal

pub returns-clause-all : goal.returns-clause-all
returns-clause-all c = live_is_rows

pub returns-clause-kept : goal.returns-clause-kept
returns-clause-kept c = live_kept
