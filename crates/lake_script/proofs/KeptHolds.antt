-- A store that keeps a table holds it, and is sound.
use Rattle.std.specs.Str.{IsUtf8}
use Rattle.std.proofs.Common.{◌≡◌, ℕ, suc, ◌+◌, List, [], ◌∷◌, length, Ok, refl, arith}
use Rattle.schema_tree.specs.Reading.{schema_of}
use Rattle.schema_tree.specs.Tree.{Tree}
use Rattle.store_core.specs.Objects.{Objects}
use Rattle.delta_actions.specs.Commit.{IsCommit}
use Rattle.commit_core.specs.TableCommits.{IsCommitOf}
use Rattle.commit_core.specs.Holds.{EndsAt, HoldsFrom, Holds}
use Rattle.commit_core.specs.SoundTables.{IsSound}
use Rattle.delta_actions.specs.Names.{data_file_name}
use Rattle.table_model.specs.Table.{Batch, Entry, creation, group, close, batches_of}
use Rattle.batch_core.specs.Closing.{close_actions}
use Rattle.batch_core.specs.Committing.{appending}
use Rattle.commit_core.specs.Commits.{creation as created}
use Rattle.read_laws.specs.Kept.{KeptFrom, KeepsTable}
use Rattle.source_core.proofs.Callers.{files_stand as entry_stands}
use Rattle.read_laws.proofs.Callers.{files_stand, none_behind}

-- ---- the commits that this program puts

-- the actions of a creation stand for one, where the text is read as the schema
pub creation_stands : (schema : Tree) (id : List ℕ) (at : ℕ) (text bytes : List ℕ) → schema_of text ≡ Ok schema → IsCommit bytes (created id at text) → IsCommitOf schema creation bytes
unfolding created
creation_stands schema id at text bytes reads commit = record {
  actions = created id at text;
  commit = commit;
  stand = record { metadata = _; actions = refl; schema_string = reads; unpartitioned = refl; parquet = refl; unconfigured = refl; unnamed = (refl, refl) };
}

-- those of an append stand for its batch
pub append_stands : (schema : Tree) (b : Batch) (at size rows : ℕ) (name bytes : List ℕ) → name ≡ data_file_name b.application b.number → IsCommit bytes (appending b.application b.number at name size rows)
    → IsCommitOf schema (group (b ∷ [])) bytes
unfolding appending
append_stands schema b at size rows name bytes named commit = record {
  actions = appending b.application b.number at name size rows;
  commit = commit;
  stand = record { only = refl; numbered = refl; files = (named, refl, tt) };
}

-- those of a close stand for one, where the application's id is text
pub close_stands : (schema : Tree) (application : List ℕ) (at : ℕ) (bytes : List ℕ) → IsUtf8 application → IsCommit bytes (close_actions application at) → IsCommitOf schema (close application) bytes
unfolding close_actions
close_stands schema application at bytes text commit = record {
  actions = close_actions application at;
  commit = commit;
  stand = record { actions = refl; text = text };
}

-- ---- the table that is held

-- what is kept from a version on is held from it on, where the log ends behind it
holds_from : (objects : Objects) (schema : Tree) (version end : ℕ) (entries : List Entry) → KeptFrom objects schema version entries → version + length entries ≡ end
    → EndsAt objects end → HoldsFrom objects schema version entries
holds_from objects schema version end [] kept is ends =
    let here : version ≡ end = omega arith in
    rw here ends
holds_from objects schema version end (entry ∷ entries) kept is ends =
    ((kept.0.0, kept.0.1, kept.0.2), entry_stands objects schema entry (files_stand objects schema (batches_of entry) kept.1), tt, holds_from objects schema (suc version) end entries kept.2 (omega arith) ends)

-- A store that keeps a table holds it.
pub kept_holds : (objects : Objects) (schema : Tree) (entries : List Entry) → KeepsTable objects schema entries → Holds objects schema entries
kept_holds objects schema entries kept = holds_from objects schema 0 (length entries) entries kept.kept (omega arith) (kept.fits, λ few. none_behind objects schema entries kept few)

-- A store that keeps a table is sound.
pub kept_sound : (objects : Objects) (schema : Tree) (entries : List Entry) → KeepsTable objects schema entries → IsSound objects
kept_sound objects schema entries kept =
    record { schema = schema; entries = entries; holds = kept_holds objects schema entries kept; lawful = kept.lawful; ends = kept.ends }
