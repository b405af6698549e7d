-- The lemmas that proofs of other crates may cite.
pub use Rattle.store_core.proofs.Callers.{twenty_digits_long, twenty_digits_parsed, twenty_digits_printed, twenty_digits_utf8, twenty_digits_value}
pub use Rattle.delta_actions.proofs.Lines.{path_is}
pub use Rattle.delta_actions.proofs.PieceLemmas.{pieces_done, pieces_go_on}
pub use Rattle.delta_actions.proofs.PrintedLines.{are_printable}
pub use Rattle.delta_actions.proofs.TextBytes.{IsBytes-text}
