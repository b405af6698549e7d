-- The lemmas that proofs of other crates may cite.
pub use Rattle.lake_bytes.proofs.Fixed.{below_64, eight, signed_little_again}
pub use Rattle.lake_bytes.proofs.Groups.{SpellsNumber-varint_bytes, varint_bytes-shortest}
pub use Rattle.lake_bytes.proofs.GroupedLemmas.{AreRuns-hybrid_bytes, length-low_bytes, low_first-low_bytes, power_of_bytes, values_of-grouped}
pub use Rattle.lake_bytes.proofs.HybridLemmas.{hybrid_found, hybrid_stands}
pub use Rattle.lake_bytes.proofs.RunLemmas.{length-unpacked}
pub use Rattle.lake_bytes.proofs.Signs.{signed_found, signed_stands}
pub use Rattle.lake_bytes.proofs.Varints.{varint_found, varint_stands}
