-- The lemmas that proofs of other crates may cite.
pub use Rattle.page_cells.proofs.CodeRuns.{levels_count}
pub use Rattle.page_cells.proofs.CodeSteps.{fine_step, kept_step, ok_step}
pub use Rattle.page_cells.proofs.FoundSteps.{allowed, bind_ok, bytes_after, bytes_behind, bytes_first, held, no_fault, ok_is, told_ok}
pub use Rattle.page_cells.proofs.LevelsFound.{LevelsInFront, levels_found}
pub use Rattle.page_cells.proofs.LevelsOnly.{levels_stand}
pub use Rattle.page_cells.proofs.Lists.{all_behind, all_first, all_pass, pass_all}
pub use Rattle.page_cells.proofs.PartsJoined.{drop_both, run_more, take_both}
pub use Rattle.page_cells.proofs.PlainFound.{PlainInFront, plain_found}
pub use Rattle.page_cells.proofs.PlainOnly.{plain_stands}
pub use Rattle.page_cells.proofs.PlainParts.{plain_read}
