-- What reads hand out that follow one another over objects that stay as they are: each begins where the one before
-- ended. They are told by all commits; where checkpoints are sound, a read from a checkpoint hands out the same.
use Rattle.std.specs.Prelude.{◌≡◌, ℕ, ◌<◌, false, List, [], ◌∷◌, ◌++◌, length, take, Result, Ok, Err, IsOk}
use Rattle.store_core.specs.Objects.{Objects}
use Rattle.table_model.specs.Reads.{position}
use Rattle.table_model.specs.Resumed.{beginning}
use Rattle.row_core.specs.Rows.{Row}
use Rattle.table_model.specs.Table.{Entry, rows}
use Rattle.table_model.specs.declared.reading.Offset.{Offset}
use Rattle.log_rows.specs.Tailing.{ReadRefusal, ReadRows, read_by}

-- the rows of an answer: a read that is refused hands out none
abbrev pub rows_handed : Result ReadRows ReadRefusal → List Row
rows_handed (Ok handed) = handed.rows
rows_handed (Err refusal) = []

-- where the next read begins: a read that is refused leaves its offset
abbrev pub offset_after : Offset → Result ReadRows ReadRefusal → Offset
offset_after offset (Ok handed) = handed.next
offset_after offset (Err refusal) = offset

-- what several reads handed out together, and the offset where the next one begins
pub record Tails : Type 0 where
  pub rows : List Row
  pub next : Offset

-- the same with the rows of an earlier read in front
abbrev pub with_earlier_rows : List Row → Tails → Tails
with_earlier_rows before later = record { rows = before ++ later.rows; next = later.next }

-- Reads over the same objects, each with its own limit: the first begins at an offset, and each next one where the one
-- before ended.
unfoldable pub tails : Objects → List ℕ → Offset → Tails
tails objects [] offset = record { rows = []; next = offset }
tails objects (max ∷ limits) offset = with_earlier_rows (rows_handed (read_by false objects max offset)) (tails objects limits (offset_after offset (read_by false objects max offset)))

-- ---- laws on tails

-- Whatever the limits, reads from the beginning hand out the rows in front of the offset where the next read begins,
-- each once and in the order of the log.
abbrev pub HandOutTheLog : Objects → List Entry → Type 0
HandOutTheLog objects entries = (limits : List ℕ) →
    let all = tails objects limits beginning in
    all.rows ≡ take (position all.next entries) (rows entries)

-- Where the last read handed out fewer rows than its limit, they hand out all rows.
abbrev pub HandOutAll : Objects → List Entry → Type 0
HandOutAll objects entries = (earlier : List ℕ) (max : ℕ) →
    length (rows_handed (read_by false objects max (tails objects earlier beginning).next)) < max →
    (tails objects (earlier ++ max ∷ []) beginning).rows ≡ rows entries

-- None of them is refused.
abbrev pub AreAnswered : Objects → Type 0
AreAnswered objects = (earlier : List ℕ) (max : ℕ) → IsOk (read_by false objects max (tails objects earlier beginning).next)
