-- The lemmas that proofs of other crates may cite.
pub use Rattle.table_store.proofs.GivenFiles.{all_free, all_lack, batch_files, files_stand, given_batches, lacks_none}
pub use Rattle.table_store.proofs.HoldingNames.{commit_name-data_file_name}
pub use Rattle.table_store.proofs.LawfulLogLemmas.{lawful_log}
pub use Rattle.table_store.proofs.NamesOnce.{commit_name-once, data_file_name-once}
pub use Rattle.table_store.proofs.SameText.{HasNoFloat, printed_text}
