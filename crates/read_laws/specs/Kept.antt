-- Which table a store keeps: the store holds it, each of its files can be read, and no commit stands past its end. Who
-- put its commits doesn't matter.
use Rattle.std.specs.Prelude.{◌≡◌, ◌≤◌, ℕ, suc, List, [], ◌∷◌, length, None}
use Rattle.std.specs.List.{AllByRecursion}
use Rattle.store_core.specs.Objects.{Objects, object_at}
use Rattle.store_core.specs.Names.{commit_name, greatest_version}
use Rattle.delta_actions.specs.Names.{data_file_name}
use Rattle.source_core.specs.ParquetFile.{KeepsLimits}
use Rattle.table_model.specs.Lawful.{IsLawful}
use Rattle.table_model.specs.Table.{Batch, Entry, creation, batches_of, batches}
use Rattle.source_core.specs.TableCommits.{IsCommitOf}
use Rattle.source_core.specs.Holds.{Stands}
use Rattle.source_core.specs.TableSchema.{Schema}
use Rattle.source_core.specs.TableSchema as data_files

-- bytes are a file of the rows of a batch, within the limits of reading
pub record IsReadableFile (schema : Schema) (b : Batch) (bytes : List ℕ) : Type 0 where
  pub file : data_files.IsFileOf schema bytes b.rows
  pub limits : KeepsLimits bytes b.rows

-- the file of a batch stands
abbrev pub FileKept : Objects → Schema → Batch → Type 0
FileKept objects schema b = Stands objects (data_file_name b.application b.number) (IsReadableFile schema b)

-- the files of an entry's batches stand
abbrev pub FilesKept : Objects → Schema → Entry → Type 0
FilesKept objects schema entry = AllByRecursion (FileKept objects schema) (batches_of entry)

-- from this version on the commits of these entries stand, each with its files
abbrev pub KeptFrom : Objects → Schema → ℕ → List Entry → Type 0
KeptFrom objects schema version [] = Unit {0}
KeptFrom objects schema version (entry ∷ entries) = Stands objects (commit_name version) (IsCommitOf schema entry)
    × FilesKept objects schema entry × KeptFrom objects schema (suc version) entries

-- The store keeps the table of this schema with these entries, of which the first is its creation: the table is lawful,
-- it has no more entries than there can be versions, and no commit stands past its end. Checkpoints may stand, and any
-- data file.
pub record KeepsTable (objects : Objects) (schema : Schema) (entries : List Entry) : Type 0 where
  pub kept : KeptFrom objects schema 0 entries
  pub rest : List Entry
  pub begins : entries ≡ creation ∷ rest
  pub lawful : IsLawful entries
  pub fits : length entries ≤ suc greatest_version
  pub ends : (version : ℕ) → length entries ≤ version → version ≤ greatest_version → object_at objects (commit_name version) ≡ None
