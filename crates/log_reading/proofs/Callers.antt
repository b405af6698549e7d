-- The lemmas that proofs of other crates may cite.
pub use Rattle.log_reading.proofs.KeptLogs.{kept_grown, past_grown}
pub use Rattle.log_reading.proofs.LaterLemmas.{length-from_version}
pub use Rattle.log_reading.proofs.LogLemmas.{views_end, views_on}
pub use Rattle.log_reading.proofs.ReadLemmas.{last_told, newest_is, or_none, or_regroup}
pub use Rattle.log_reading.proofs.StartingLemmas.{SchemaParts, schema_parts}
pub use Rattle.log_reading.proofs.SupportLemmas.{meta_data_in_one}
