-- The lemmas that proofs of other crates may cite.
pub use Rattle.snapshot_core.proofs.KnownLemmas.{known_same}
pub use Rattle.snapshot_core.proofs.LogLemmas.{AreReplayed, of_replayed}
pub use Rattle.snapshot_core.proofs.RestoredLaws.{all_same, checkpoint_same, put_sound, puts_alike, refusal_alike, tells_alike, unread_alike}
pub use Rattle.snapshot_core.proofs.ToldLemmas.{lost_there, refusal_said}
