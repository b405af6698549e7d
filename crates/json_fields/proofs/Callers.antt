-- The lemmas that other crates cite, and the one file of proofs here that they name.
pub use Rattle.json_fields.proofs.Steps.{fails_first, numbers_stay}
pub use Rattle.json_fields.proofs.Held.{bind_ok, ok_is, optional_holds, needed_holds, defaulted_holds}
pub use Rattle.json_fields.proofs.Lookup.{over_none, needed_again, optional_again, optional_of_kind, defaulted_again, defaulted_missing, unless_empty_again}
pub use Rattle.json_fields.proofs.Depths.{IfShallow, AreShallow, fields_depth, texts_depth, text_map_depth, unless_empty_depth, leaf, map_if}
pub use Rattle.json_fields.proofs.OneLine.{compact_is_one_line, compact_object_opens}
pub use Rattle.json_fields.proofs.ReadBack.{text_tokens, text_compact, text_read}
pub use Rattle.json_fields.proofs.Written.{one_written, also, object_written, written_text, is_text}
pub use Rattle.json_fields.proofs.WrittenKinds.{text_reads}
