-- The lemmas that proofs of other crates may cite.
pub use Rattle.table_folder.proofs.ApartLemmas.{IsApart, apart_filter, apart_rising, apart_to_save, commit_only}
pub use Rattle.table_folder.proofs.CopyLemmas.{IsInOrder-with_copies, first_of, found_after_put, list_any-filter, list_any-names, list_any-to_save, object_at-with_copies}
pub use Rattle.table_folder.proofs.LoadedLemmas.{IsInOrder-loaded, names_of-loaded, object_at-loaded}
pub use Rattle.table_folder.proofs.TraceLemmas.{none_made_on, traced_on}
