-- The lemmas that proofs of other crates may cite.
pub use Rattle.log_laws.proofs.Admits.{batch_admissible, close_admissible}
pub use Rattle.log_laws.proofs.Beside.{no_checkpoint, sound_beside}
pub use Rattle.log_laws.proofs.EmptyStores.{log_of_nothing, nothing_sound, versions_of_nothing}
pub use Rattle.log_laws.proofs.Fronts.{front_made, front_stands}
pub use Rattle.log_laws.proofs.Leaves.{count_held, written_by}
pub use Rattle.log_laws.proofs.LoadTalks.{HasFront, asked_last, commit_stands, front_log, snapshot_same, sought_commit}
pub use Rattle.log_laws.proofs.LogCloses.{log_closed, log_open, says_so}
pub use Rattle.log_laws.proofs.LogEntries.{IsLogOfEntries, held_first, made_length, some_commits, sound_count, sound_log}
pub use Rattle.log_laws.proofs.LogNewest.{newest-cons, of_commit}
pub use Rattle.log_laws.proofs.LogNumbers.{log_last}
pub use Rattle.log_laws.proofs.LogSchema.{log_checkpointable, log_meta_data, log_readable, log_writable, one_writable}
pub use Rattle.log_laws.proofs.OneMore.{lawful_with}
pub use Rattle.table_store.proofs.ConflictLemmas.{member_mapped, none_contained, told_through, Contains-first, Contains-told, Contains-map, by_written_application, by_written_domain, by_written_protocol, conflicts_none, teller, no_conflicts}
pub use Rattle.table_store.proofs.HoldingLogs.{numbers-without_commit_info, told-without_commit_info, AreFilesOf-new, new_files-added, new_files-without_commit_info, paths_of}
pub use Rattle.table_store.proofs.HoldingOne.{named}
pub use Rattle.table_store.proofs.NamesOnce.{data_file_name-application, ok_is}
pub use Rattle.table_store.proofs.Callers.{HasNoFloat, printed_text, commit_name-data_file_name, lawful_log, commit_name-once, data_file_name-once, batch_files, files_stand}
pub use Rattle.table_store.proofs.ActionLemmas.{views_more}
pub use Rattle.table_store.proofs.LawfulLogLemmas.{AreMadeFor}
pub use Rattle.table_store.proofs.HoldingEnds.{HoldsFrom-fit}
