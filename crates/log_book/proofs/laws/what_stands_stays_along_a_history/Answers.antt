use Rattle.log_book.proofs.HistoryLemmas.{all_grow}
use Rattle.log_book.proofs.laws.what_stands_stays_along_a_history.Goals as goal

pub returns : goal.returns
returns c = λ objects history. all_grow objects history
