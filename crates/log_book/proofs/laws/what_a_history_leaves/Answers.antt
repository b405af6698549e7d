use Rattle.log_book.proofs.HistoryLemmas.{left_by_all-append}
use Rattle.log_book.proofs.laws.what_a_history_leaves.Goals as goal

pub returns : goal.returns
returns c = λ objects front rest. left_by_all-append objects front rest
