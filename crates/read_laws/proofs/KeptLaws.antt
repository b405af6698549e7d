-- What a read hands out of a store that keeps a table, and which stores keep one.
use Rattle.std.proofs.Common.{◌≡◌, ◌≢◌, ℕ, suc, false, List, [], ◌∷◌, Contains, Some, Result, Ok, refl, sym, subst, arith, ◌∙◌}
use Rattle.std.specs.List.{AllByRecursion}
use Rattle.std.proofs.lemmas.List.Elements.{Contains-append_left, Contains-append_right}
use Rattle.schema_tree.specs.Tree.{Tree}
use Rattle.store_core.specs.Objects.{Objects, object_at}
use Rattle.source_core.specs.ParquetFile.{KeepsLimits}
use Rattle.delta_actions.specs.Names.{data_file_name}
use Rattle.table_model.specs.Lawful.{Begins}
use Rattle.table_model.specs.Reads.{Answer, handed, beyond, bad_place, read, IsPart, MayEnd}
use Rattle.table_model.specs.Table.{Batch, Entry, creation, group, close, batches_of, batches}
use Rattle.table_model.specs.declared.reading.Offset.{Offset}
use Rattle.table_model.proofs.PartLemmas.{read_is_part, read_ends}
use Rattle.source_core.specs.Holds.{FileStands, HoldsFrom}
use Rattle.source_core.specs.SoundTables.{IsSound}
use Rattle.source_core.proofs.Callers.{Contains-first, HoldsFrom-fit, batch_files}
use Rattle.source_core.specs.Tailing.{ReadRows, ReadRefusal, read_by}
use Rattle.read_laws.specs.Kept.{FileKept, KeepsTable, KeptFrom}
use Rattle.read_laws.specs.Readable.{HasReadableFiles}
use Rattle.read_laws.proofs.KeptTails.{IsRead, kept_reads}

-- ---- a read is a part of the table

-- what was handed out, by what the table answers
part_by : (answer : Answer) (said : Result ReadRows ReadRefusal) (max : ℕ) (offset : Offset) (entries : List Entry) (out : ReadRows) → read max offset entries ≡ answer → IsRead said answer → said ≡ Ok out
    → IsPart max offset out.rows out.next entries × MayEnd false max out.rows out.next entries
part_by (handed rows next) said max offset entries out told is says =
    let same : Ok (record { rows = rows; next = next }) ≡ Ok out = sym is ∙ says in
    let one : record { rows = rows; next = next } ≡ out = cc in
    subst (λ (o : ReadRows). IsPart max offset o.rows o.next entries × MayEnd false max o.rows o.next entries) one
    (read_is_part max offset next entries rows told, read_ends max offset next entries rows told)
part_by (beyond next) said max offset entries out told is says = let wrong = sym is ∙ says in absurd cc
part_by (bad_place version) said max offset entries out told is says = let wrong = sym is ∙ says in absurd cc

-- A read over a store that keeps a table hands out a part of the table.
pub kept_part : (objects : Objects) (schema : Tree) (entries : List Entry) (max : ℕ) (offset : Offset) (out : ReadRows) → KeepsTable objects schema entries → read_by false objects max offset ≡ Ok out
    → IsPart max offset out.rows out.next entries × MayEnd false max out.rows out.next entries
kept_part objects schema entries max offset out kept says =
    part_by (read max offset entries) (read_by false objects max offset) max offset entries out refl (kept_reads objects schema entries kept max offset) says

-- ---- sound stores whose files can be read

-- files that stand and keep the limits are kept
files_kept : (objects : Objects) (schema : Tree) (bs : List Batch) → AllByRecursion (FileStands objects schema) bs
    → ((b : Batch) (bytes : List ℕ) → Contains bs b → object_at objects (data_file_name b.application b.number) ≡ Some bytes → KeepsLimits bytes b.rows) → AllByRecursion (FileKept objects schema) bs
files_kept objects schema [] stand limits = tt
files_kept objects schema (b ∷ bs) stand limits =
    ((stand.0.0, stand.0.1, record { file = stand.0.2; limits = limits b stand.0.0 (Contains-first b bs) stand.0.1 }), files_kept objects schema bs stand.1 (λ c bytes has. limits c bytes (Contains-append_right (b ∷ []) bs c has)))

-- so are the entries of a table that is held
kept_from : (objects : Objects) (schema : Tree) (version : ℕ) (entries : List Entry) → HoldsFrom objects schema version entries → HasReadableFiles objects entries → KeptFrom objects schema version entries
kept_from objects schema version [] holds limits = tt
kept_from objects schema version (entry ∷ entries) holds limits =
    let here = files_kept objects schema (batches_of entry) (batch_files objects schema entry holds.1) (λ b bytes has. limits b bytes (Contains-append_left (batches_of entry) (batches entries) b has)) in
    (holds.0, here, kept_from objects schema (suc version) entries holds.3 (λ b bytes has. limits b bytes (Contains-append_right (batches_of entry) (batches entries) b has)))

-- a table with entries begins with its creation
begins_by : (entries : List Entry) → entries ≢ [] → Begins entries → (rest : List Entry) × (entries ≡ creation ∷ rest)
begins_by [] some begins = absurd (some refl)
begins_by (creation ∷ rest) some begins = (rest, refl)
begins_by (group bs ∷ rest) some begins = absurd begins
begins_by (close application ∷ rest) some begins = absurd begins

-- A sound store with a table keeps it, where its files can be read.
pub sound_kept : (objects : Objects) (sound : IsSound objects) → sound.entries ≢ [] → HasReadableFiles objects sound.entries → KeepsTable objects sound.schema sound.entries
sound_kept objects sound some limits =
    let first = begins_by sound.entries some sound.lawful.begins in
    record { kept = kept_from objects sound.schema 0 sound.entries sound.holds limits; rest = first.0; begins = first.1; lawful = sound.lawful; fits = omega (arith, HoldsFrom-fit objects sound.schema 0 sound.entries sound.holds); ends = sound.ends }
