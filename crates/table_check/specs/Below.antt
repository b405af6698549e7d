-- Up to which version the objects of a store are sound.
use Rattle.std.specs.Prelude.{◌≡◌, ◌<◌, ◌≤◌, ℕ, suc, List, length, Some, None}
use Rattle.store_core.specs.Names.{commit_name, greatest_version}
use Rattle.store_core.specs.Objects.{Objects, object_at}
use Rattle.table_log.specs.Restoring.{IsSoundCheckpoint, checkpoint_version}
use Rattle.table_model.specs.Lawful.{IsLawful}
use Rattle.table_model.specs.Table.{Entry}
use Rattle.table_store.specs.Holds.{HoldsFirst}
use Rattle.table_store.specs.Schema.{Schema}

-- Whatever has the name of a checkpoint of a version below one is one of the log's commits up to it.
abbrev pub AreCheckpointsSoundBelow : Objects → ℕ → Type 0
AreCheckpointsSoundBelow objects version =
    (name : List ℕ) (at : ℕ) (bytes : List ℕ) → checkpoint_version name ≡ Some at → at < version → object_at objects name ≡ Some bytes → IsSoundCheckpoint objects at bytes

-- Of the versions below one no commit, file or checkpoint breaks anything: the first commits stand for a lawful table,
-- each with its files, none of these versions has a commit behind their end, and whatever has the name of a checkpoint
-- of one of these versions is one of the log's commits up to it.
pub record IsSoundBelow (objects : Objects) (version : ℕ) : Type 0 where
  pub schema : Schema
  pub entries : List Entry
  pub stand : HoldsFirst objects schema 0 entries
  pub lawful : IsLawful entries
  pub few : length entries ≤ version
  pub ends : (later : ℕ) → length entries ≤ later → later < version → later ≤ greatest_version → object_at objects (commit_name later) ≡ None
  pub checkpoints : AreCheckpointsSoundBelow objects version

-- A version is the first unsound one: what comes below it is sound, and what comes below the next isn't.
abbrev pub IsFirstUnsound : Objects → (version : ℕ) → Type 0
IsFirstUnsound objects version = IsSoundBelow objects version × (IsSoundBelow objects (suc version) → ⊥)
