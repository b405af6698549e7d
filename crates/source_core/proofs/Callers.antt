-- The lemmas that proofs of other crates may cite.
pub use Rattle.source_core.proofs.KeptTailPlace.{AreEntriesFound, AreFilesFound, IsEntryFound, as_many_commits}
pub use Rattle.source_core.proofs.KeptTailSpot.{Ahead, Spot, no_file, no_row, spotted, stands}
pub use Rattle.source_core.proofs.KeptTailWalk.{behind_all, behind_last, file_of, row_missing, rows_in, walked}
pub use Rattle.source_core.proofs.LogFiles.{KeepsRows, RemoveNone, TellNone, TellNoneLater, commit_at, files_at, files_from, first_in_force, plain_actions, plain_first, plain_front, plain_gone, plain_handed, plain_items, plain_kept, plain_schema_for}
pub use Rattle.source_core.proofs.RestoredReads.{read_alike, tailed_alike}
pub use Rattle.source_core.proofs.SourceFiles.{file_is_new}
pub use Rattle.source_core.proofs.SourceKnown.{all_known}
pub use Rattle.source_core.proofs.TalkSteps.{shows_got}
pub use Rattle.log_laws.proofs.Callers.{log_readable, made_length, some_commits, AreFilesOf-new, new_files-added, new_files-without_commit_info, paths_of, told-without_commit_info, named, AreMadeFor, HoldsFrom-fit, Contains-first, batch_files, files_stand}
pub use Rattle.log_rows.proofs.Callers.{rows_found, rows_only}
