use Rattle.std.proofs.Common.{◌++◌, length, pos}
use Rattle.parquet_pages.proofs.Callers.{chunk_only}
use Rattle.page_writing.proofs.WrittenHeld.{written_held}
use Rattle.page_writing.proofs.laws.a_written_chunk_holds_its_column.Goals as goal

pub returns-clause-holds : goal.returns-clause-holds
returns-clause-holds c = written_held

pub returns-clause-again : goal.returns-clause-again
returns-clause-again c = λ l column before written behind fits whole suits is four.
    chunk_only l (before ++ (written ++ behind)) (pos (length before)) column
    (written_held l column before written behind fits whole is four) suits
