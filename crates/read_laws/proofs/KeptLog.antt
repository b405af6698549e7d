-- The log of a store that keeps a table: commits that stand for its entries, and none behind them.
use Rattle.std.proofs.Common.{◌≡◌, ℕ, suc, ◌≤◌, List, [], ◌∷◌, length, None, arith}
use Rattle.std.specs.List.{AllByRecursion}
use Rattle.schema_tree.specs.Tree.{Tree}
use Rattle.store_core.specs.Objects.{Objects, object_at}
use Rattle.delta_actions.specs.Action as actions
use Rattle.store_core.specs.Names.{commit_name, greatest_version}
use Rattle.table_model.specs.Table.{Batch, Entry, batches_of}
use Rattle.source_core.specs.Holds.{FileStands}
use Rattle.source_core.proofs.Callers.{AreMadeFor, files_stand as entry_stands}
use Rattle.read_laws.specs.Kept.{FileKept, KeptFrom, KeepsTable}

-- No commit of the version that comes next stands.
pub none_behind : (objects : Objects) (schema : Tree) (entries : List Entry) → KeepsTable objects schema entries → length entries ≤ greatest_version → object_at objects (commit_name (length entries)) ≡ None
none_behind objects schema entries kept few = kept.ends (length entries) (omega arith) few

-- the actions of the commits that stand
abbrev pub made_of : (objects : Objects) (schema : Tree) (version : ℕ) (entries : List Entry) → KeptFrom objects schema version entries → List (List actions.Action)
made_of objects schema version [] kept = []
made_of objects schema version (entry ∷ entries) kept = kept.0.2.actions ∷ made_of objects schema (suc version) entries kept.2

-- the files that are kept for batches stand
pub files_stand : (objects : Objects) (schema : Tree) (bs : List Batch) → AllByRecursion (FileKept objects schema) bs → AllByRecursion (FileStands objects schema) bs
files_stand objects schema [] kept = tt
files_stand objects schema (b ∷ bs) kept = ((kept.0.0, kept.0.1, kept.0.2.file), files_stand objects schema bs kept.1)

-- they stand for the entries
pub are_made : (objects : Objects) (schema : Tree) (version : ℕ) (entries : List Entry) (kept : KeptFrom objects schema version entries) → AreMadeFor objects schema entries (made_of objects schema version entries kept)
are_made objects schema version [] kept = tt
are_made objects schema version (entry ∷ entries) kept = (kept.0.2.stand, entry_stands objects schema entry (files_stand objects schema (batches_of entry) kept.1), are_made objects schema (suc version) entries kept.2)
