-- The lemmas that proofs of other crates may cite.
pub use Rattle.log_book.proofs.ByteLemmas.{book_of_bytes}
pub use Rattle.log_book.proofs.CommitCounts.{commits_stand, count_fits}
pub use Rattle.log_book.proofs.HistoryLemmas.{all_grow, call_grows, left_by_all-append, told-append}
