-- A reader's sessions: reads that follow one another, each from where the one before ended, over a store that others write into
-- between and during them.
use Rattle.std.specs.Prelude.{◌≡◌, ℕ, List, [], ◌∷◌, ◌++◌, length, Bool, true, false, Result, Ok, Err, sum_by}
use Rattle.store_core.specs.Objects.{Objects}
use Rattle.session_core.specs.Shown.{Shows}
use Rattle.session_core.specs.Talks.{Talk, Bears}
use Rattle.row_core.specs.Rows.{Row}
use Rattle.row_core.specs.Views.{row_views}
use Rattle.schema_tree.specs.Schema.{tree_of}
use Rattle.table_log.specs.Restoring.{RestoresWell}
use Rattle.table_model.specs.Table.{Entry}
use Rattle.table_model.specs.declared.reading.Offset.{Offset}
use Rattle.source_core.specs.TableSchema.{Schema}
use Rattle.table_model.specs.Reads.{IsPart, MayEnd, is_beyond, is_offset}
use Rattle.log_offsets.specs.Offsets.{offset_view}
use Rattle.source_core.specs.SourceSessions.{SourceEnds, SourceJob}
use Rattle.source_core.specs.TailFaults.{read_refusal_view}
use Rattle.source_core.specs.Tailing.{ReadRefusal, bad_place, beyond_log, lost, memory}
use Rattle.log_rows.specs.declared.read_state.ReadRows as code
use Rattle.source_core.specs.declared.source_session.ReadEnd.{ReadEnd}
use Rattle.log_rows.specs.declared.tail_fault.TailFault.{TailFault}
use Rattle.read_laws.specs.Kept.{KeepsTable}

-- One read that has ended: how many rows it was to hand out at most, whether it went by checkpoints, the versions that it knew before and
-- the talk in which they were told, its own talk and its end; the objects that stood when its names were listed, and by which entries their table had grown
-- since the read before.
pub record OneRead : Type 0 where
  pub max : ℕ
  pub use_checkpoints : Bool
  pub known : List ℕ
  pub before : Talk
  pub talk : Talk
  pub end : ReadEnd
  pub listed : Objects
  pub more : List Entry

-- the rows of an answer: a read that is refused hands out none
abbrev pub rows_told : Result code.ReadRows TailFault → List Row
rows_told (Ok handed) = row_views handed.rows.items
rows_told (Err fault) = []

-- where the next read begins: a read that is refused leaves its offset
abbrev pub next_told : Offset → Result code.ReadRows TailFault → Offset
next_told offset (Ok handed) = offset_view handed.next
next_told offset (Err fault) = offset

-- what a read at an offset is to do
abbrev pub job_at : Offset → OneRead → SourceJob
job_at offset r = record { place = offset; max = r.max; use_checkpoints = r.use_checkpoints; known = r.known }

-- The read from this offset told what its session tells behind its talk. The talk shows the objects that were listed, which keep the table of
-- these entries; where checkpoints are used, they are sound.
pub record IsReadAt (schema : Schema) (offset : Offset) (entries : List Entry) (r : OneRead) : Type 0 where
  pub known : Bears r.listed r.before
  pub shown : Shows r.talk r.listed
  pub told : SourceEnds (job_at offset r) r.before r.talk r.end
  pub restores : RestoresWell r.use_checkpoints r.listed
  pub keeps : KeepsTable r.listed schema entries

-- what a refusal says of an offset: it is past the log's end, or in no file of its version; or a call was lost, or memory ran out
abbrev pub MayRefuse : (offset : Offset) → List Entry → ReadRefusal → Type 0
MayRefuse offset entries (beyond_log next) = (is_beyond offset entries ≡ true) × (next ≡ length entries)
MayRefuse offset entries (bad_place version) = (is_beyond offset entries ≡ false) × (is_offset offset entries ≡ false) × (version ≡ offset.version)
MayRefuse offset entries lost = Unit {0}
MayRefuse offset entries memory = Unit {0}
MayRefuse offset entries refusal = ⊥

-- What a read of a table of a schema may tell: by that schema a part of it, with as many rows as it was to hand out or up to its end; or such
-- a refusal.
abbrev pub MayTellOfTable : Schema → (max : ℕ) → (offset : Offset) → List Entry → Result code.ReadRows TailFault → Type 0
MayTellOfTable schema max offset entries (Ok handed) =
    (tree_of handed.schema.schema ≡ schema) × IsPart max offset (row_views handed.rows.items) (offset_view handed.next) entries × MayEnd false max (row_views handed.rows.items) (offset_view handed.next) entries
MayTellOfTable schema max offset entries (Err fault) = MayRefuse offset entries (read_refusal_view fault)

-- Reads that follow one another from an offset in a table: each next one begins where the one before ended, and its table is that one grown.
abbrev pub Follow : Schema → List OneRead → Offset → List Entry → Type 0
Follow schema [] offset entries = Unit {0}
Follow schema (r ∷ later) offset entries = IsReadAt schema offset (entries ++ r.more) r × Follow schema later (next_told offset r.end.answer) (entries ++ r.more)

-- what they handed out together
abbrev pub rows_of_all : List OneRead → List Row
rows_of_all [] = []
rows_of_all (r ∷ later) = rows_told r.end.answer ++ rows_of_all later

-- where the next read begins
abbrev pub next_of_all : List OneRead → Offset → Offset
next_of_all [] offset = offset
next_of_all (r ∷ later) offset = next_of_all later (next_told offset r.end.answer)

-- the table that the last one read
abbrev pub table_of_all : List OneRead → List Entry → List Entry
table_of_all [] entries = entries
table_of_all (r ∷ later) entries = table_of_all later (entries ++ r.more)

-- how many rows they were to hand out at most
abbrev pub limit_of_all : List OneRead → ℕ
limit_of_all reads = sum_by (λ r. r.max) reads
