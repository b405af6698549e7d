-- Reads that go on where the last one ended, while the table grows.
use Rattle.std.specs.Prelude.{◌≡◌, ℕ, List, [], ◌∷◌, ◌++◌}
use Rattle.row_core.specs.Rows.{Row}
use Rattle.table_model.specs.Table.{Entry}
use Rattle.table_model.specs.Reads.{Answer, handed, read, IsPart}
use Rattle.table_model.specs.declared.reading.Offset.{Offset}

-- What several reads handed out together, the offset where the next read begins, and the table that the last one read.
pub record ResumedReads : Type 0 where
  pub out : List Row
  pub next : Offset
  pub final : List Entry

-- the rows of an answer: a read that is refused hands out none
abbrev pub answer_rows : Answer → List Row
answer_rows (handed out next) = out
answer_rows refused = []

-- where the next read begins: a read that is refused leaves its offset
abbrev pub next_after : Offset → Answer → Offset
next_after offset (handed out next) = next
next_after offset refused = offset

-- the same with the rows of earlier reads in front
abbrev pub with_earlier : List Row → ResumedReads → ResumedReads
with_earlier out later = record { out = out ++ later.out; next = later.next; final = later.final }

-- A reader reads again and again. Before each read the table grows by some entries, or by none; each read has its own
-- limit, and begins where the last one ended.
abbrev pub reads_on : List (ℕ × List Entry) → Offset → List Entry → ResumedReads
reads_on [] offset entries = record { out = []; next = offset; final = entries }
reads_on (r ∷ later) offset entries =
    let table = entries ++ r.1 in
    let answer = read r.0 offset table in
    with_earlier (answer_rows answer) (reads_on later (next_after offset answer) table)

-- The same of any reader: each read hands out a part of the table as it stands then, whichever it may be.
abbrev pub HandOut : List (ℕ × List Entry) → Offset → List Entry → ResumedReads → Type 0
HandOut [] offset entries all = all ≡ record { out = []; next = offset; final = entries }
HandOut (r ∷ later) offset entries all =
    let table = entries ++ r.1 in
    (out : List Row) × (next : Offset) × (rest : ResumedReads) × IsPart r.0 offset out next table × HandOut later next table rest × (all ≡ with_earlier out rest)

-- all that the table grew by
abbrev pub growth : List (ℕ × List Entry) → List Entry
growth [] = []
growth (r ∷ later) = r.1 ++ growth later

-- where the first read begins: the offset before all rows
abbrev pub beginning : Offset
beginning = record { version = 0; file = 0; row = 0 }
