-- The lemmas that proofs of other crates may cite.
pub use Rattle.table_model.proofs.Batches.{IsAbove, Rises-back, Rises-tail, numbers_in, numbers_in-append, batches-append, below_later, files_of-batches, filter-told, last_none, last_number, last_some, last_told-append, numbers_by-append, numbers_by-own, tells-batches, told-batches, told_by-batches}
pub use Rattle.table_model.proofs.Between.{AreApart, goes_on, writes}
pub use Rattle.table_model.proofs.Facts.{Begins-front, Contains-map, append_lasts, at_the_front, batch_lasts, batch_of_told, batch_told, close_lasts, each_has, last_stands, lawful-front, member_mapped, told_batch}
pub use Rattle.table_model.proofs.Grown.{beginning_is_offset, is_answered, stays}
pub use Rattle.table_model.proofs.Kept.{append_keeps, follows_keeps, later_is_greater, new_is_lawful}
pub use Rattle.table_model.proofs.LawfulLemmas.{each_suits, none_is_lawful, suits_each}
pub use Rattle.table_model.proofs.Places.{none_before, past, rises_from, rises_lower}
pub use Rattle.table_model.proofs.Resumed.{all_after_short, final_grows, log_from_beginning, onward_in_the_log}
