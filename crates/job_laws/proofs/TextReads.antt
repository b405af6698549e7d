-- Reads by texts hand out what reads by offsets do.
use Rattle.std.proofs.Common.{◌≡◌, ℕ, false, List, [], ◌∷◌, ◌++◌, Some, Ok, refl, sym, ap, ◌∙◌, take}
use Rattle.schema_tree.specs.Tree.{Tree}
use Rattle.store_core.specs.Objects.{Objects}
use Rattle.row_core.specs.Rows.{Row}
use Rattle.table_model.specs.Reads.{position}
use Rattle.table_model.specs.Resumed.{beginning}
use Rattle.table_model.specs.Table.{Entry, rows}
use Rattle.table_model.specs.declared.reading.Offset.{Offset}
use Rattle.log_offsets.specs.Offsets.{offset_of}
use Rattle.lake_script.specs.Tailing.{read_by}
use Rattle.lake_script.specs.Tails.{tails}
use Rattle.lake_script.specs.Kept.{KeepsTable}
use Rattle.lake_script.proofs.Callers.{kept_reads, reads_log}
use Rattle.job_laws.specs.TextReads.{ReadsByTexts, done, goes_on, read_at}

-- a read from a text is one from the offset that it spells
read_from : (objects : Objects) (max : ℕ) (text : List ℕ) (start : Offset) → offset_of text ≡ Some start → read_at objects max text ≡ read_by false objects max start
read_from objects max text start spells = rw spells refl

-- what reads by texts hand out, and the offset that the last text spells
pub as_by_offsets : (objects : Objects) (limits : List ℕ) (text last : List ℕ) (rows : List Row) (start : Offset) → ReadsByTexts objects limits text rows last → offset_of text ≡ Some start
    → (rows ≡ (tails objects limits start).rows) × (offset_of last ≡ Some (tails objects limits start).next)
unfolding tails
as_by_offsets objects [] text last rows start done spells = (refl, spells)
as_by_offsets objects (max ∷ limits) text last _ start (goes_on next handed rows is told later) spells =
    let answered : read_by false objects max start ≡ Ok handed = sym (read_from objects max text start spells) ∙ is in
    let others = as_by_offsets objects limits next last rows handed.next later told in
    rw answered (ap (λ (rs : List Row). handed.rows ++ rs) others.0, others.1)

-- Reads by texts that begin before all rows hand out the table's rows up to where the next one begins.
pub log_by_texts : (objects : Objects) (schema : Tree) (entries : List Entry) (limits : List ℕ) (text last : List ℕ) (out : List Row) → KeepsTable objects schema entries
    → offset_of text ≡ Some beginning → ReadsByTexts objects limits text out last
    → (next : Offset) × (offset_of last ≡ Some next) × (out ≡ take (position next entries) (rows entries))
log_by_texts objects schema entries limits text last out kept begins by_texts =
    let same = as_by_offsets objects limits text last out beginning by_texts begins in
    ((tails objects limits beginning).next, same.1, same.0 ∙ reads_log objects entries (kept_reads objects schema entries kept) limits)
