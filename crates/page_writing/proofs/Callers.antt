-- The lemmas that proofs of other crates may cite.
pub use Rattle.page_writing.proofs.WrittenChunk.{LeftToWrite, all_written, none_left, nothing_written, page_more, page_refused, some_left}
