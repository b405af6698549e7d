-- What putting a checkpoint tells and leaves (Delta PROTOCOL.md, "Checkpoints").
use Rattle.std.specs.Prelude.{◌≡◌, ◌≤◌, ◌<◌, ◌⊎◌, ◌∷◌, ℕ, suc, Bool, true, List, Option, Some, None, Ok, Err, length}
use Rattle.outcomes.specs.Outcome.{IsSaid}
use Rattle.store_core.specs.Objects.{Objects, object_at, with_object}
use Rattle.store_core.specs.Calls.{Flight, IsUntouched, MayHaveLanded}
use Rattle.delta_actions.specs.Action.{Action, MetaDataAction, checkpoint_metadata}
use Rattle.delta_actions.specs.Printing.{IsPrintedCommit}
use Rattle.delta_replay.specs.All.{ListsAll}
use Rattle.delta_replay.specs.Snapshots.{IsSnapshotOf}
use Rattle.delta_replay.specs.Support.{checkpointable, fault_of, meta_data_of_log}
use Rattle.delta_replay.specs.declared.kept.Snapshot.{Snapshot}
use Rattle.delta_checkpoint.specs.Checkpoints.{IsCheckpoint}
use Rattle.delta_checkpoint.specs.Names.{IsCheckpointName, checkpoint_name}
use Rattle.table_log.specs.Counts.{commit_count}
use Rattle.table_log.specs.Loads.{IsFrom, IsFrontFrom, IsLoaded, checkpoint_of, replayed_below}
use Rattle.table_log.specs.Restoring.{Restored, replayed, restored_if}
use Rattle.table_log.specs.declared.loading.Loaded.{Loaded}
use Rattle.snapshot_core.specs.Faults.{checked_for_checkpoint, says}
use Rattle.snapshot_core.specs.declared.fault.SnapshotFault.{SnapshotFault}
use Rattle.snapshot_core.specs.declared.fault.SnapshotFault.TheVariants as faults

-- how many bytes a checkpoint has at most: 64 MiB
abbrev pub most_checkpoint_bytes : ℕ
most_checkpoint_bytes = 67_108_864

-- The id of the table of a log: that of its newest metadata.
pub record IsTableId (log : List (List Action)) (id : List ℕ) : Type 0 where
  pub meta_data : MetaDataAction
  pub newest : meta_data_of_log log ≡ Some meta_data
  pub is : id ≡ meta_data.id

-- The bytes are the checkpoint of the newest version of a log, whose commits leave what these do: a line tells the version,
-- and behind it stands what they leave, in the order of a checkpoint.
pub record IsNewestCheckpoint (objects : Objects) (log : List (List Action)) (version : ℕ) (bytes : List ℕ) : Type 0 where
  pub newest : suc version ≡ commit_count objects
  pub checkpoint : IsCheckpoint bytes version log
  pub ordered : (actions : List Action) × ListsAll log actions × IsPrintedCommit bytes (checkpoint_metadata (record { version = version }) ∷ actions)

-- What is put over these objects: the checkpoint of the newest version, if it may be put and isn't too large, under the
-- name of that version for the table's id.
pub record PutsCheckpoint (use_checkpoints : Bool) (objects : Objects) (version : ℕ) (name bytes : List ℕ) : Type 0 where
  pub commits : List (List Action)
  pub read : replayed use_checkpoints objects ≡ Ok commits
  pub supported : checkpointable commits ≡ Ok tt
  pub id : List ℕ
  pub of_table : IsTableId commits id
  pub checkpoint : IsNewestCheckpoint objects commits version bytes
  pub fits : length bytes ≤ most_checkpoint_bytes
  pub named : name ≡ checkpoint_name version id
  -- by its name it is found
  pub found : IsCheckpointName version name

-- The checkpoint of a version, where the commits up to it are seen as these: it may be put and isn't too large, and has the name
-- of that version for the table's id.
pub record IsCheckpointFor (commits : List (List Action)) (version : ℕ) (name bytes : List ℕ) : Type 0 where
  pub supported : checkpointable commits ≡ Ok tt
  pub id : List ℕ
  pub of_table : IsTableId commits id
  pub checkpoint : IsCheckpoint bytes version commits
  pub ordered : (actions : List Action) × ListsAll commits actions × IsPrintedCommit bytes (checkpoint_metadata (record { version = version }) ∷ actions)
  pub fits : length bytes ≤ most_checkpoint_bytes
  pub named : name ≡ checkpoint_name version id
  -- by its name it is found
  pub found : IsCheckpointName version name

-- Under this name these bytes are the checkpoint of the last version of what was loaded, over whatever objects that
-- was.
pub record IsMadeOf (loaded : Loaded) (version : ℕ) (name bytes : List ℕ) : Type 0 where
  pub last : suc version ≡ loaded.next
  pub made : (r : Option Restored) (objects : Objects) (front : IsFrontFrom r objects loaded) → IsCheckpointFor front.commits version name bytes

-- What is put over objects in which these versions stand, and maybe later ones: the checkpoint of the last of them.
pub record PutsFront (objects : Objects) (version : ℕ) (name bytes : List ℕ) : Type 0 where
  pub r : Option Restored
  pub from : Option (List ℕ)
  pub checkpoint : IsFrom objects (suc version) from r
  pub commits : List (List Action)
  pub read : replayed_below (suc version) r objects ≡ Ok commits
  pub within : version < commit_count objects
  pub is : IsCheckpointFor commits version name bytes

-- The newest version's checkpoint was put: it stands where none of its name stood, and no other object changed.
pub record HasPut (use_checkpoints : Bool) (version : ℕ) (old new : Objects) : Type 0 where
  pub name : List ℕ
  pub bytes : List ℕ
  pub puts : PutsCheckpoint use_checkpoints old version name bytes
  pub put : new ≡ with_object old name bytes

-- The log is known from the checkpoint that was put, where checkpoints are used and none of its name stood.
pub record IsKnownFromPut (use_checkpoints : Bool) (old new : Objects) (known : Loaded) : Type 0 where
  pub used : use_checkpoints ≡ true
  pub version : ℕ
  pub put : HasPut use_checkpoints version old new
  pub created : object_at old put.name ≡ None
  pub from : checkpoint_of known ≡ Some put.name

-- What is known of a log from the put of its newest checkpoint on: the snapshot of the commits that it was seen as
-- before the put, and the version behind its newest. It is known from the checkpoint that it was read from, or from all
-- commits, as they stood before the put; or from the checkpoint that was put.
pub record KnowsLog (use_checkpoints : Bool) (old new : Objects) (known : Loaded) : Type 0 where
  pub commits : List (List Action)
  pub read : replayed use_checkpoints old ≡ Ok commits
  pub snapshot : IsSnapshotOf commits known.snapshot
  pub next : known.next ≡ commit_count old
  pub from : IsFrom old known.next (checkpoint_of known) (restored_if use_checkpoints old) ⊎ IsKnownFromPut use_checkpoints old new known

-- The checkpoint that was put is the one that the log is known from, if none of its name stood.
pub record IsKnownIfNew (use_checkpoints : Bool) (version : ℕ) (old new : Objects) (known : Loaded) : Type 0 where
  pub put : HasPut use_checkpoints version old new
  pub from : object_at old put.name ≡ None → checkpoint_of known ≡ Some put.name

-- The put of the newest version's checkpoint was lost: it may have taken effect, or may do so later, or never.
pub record LosesPut (use_checkpoints : Bool) (old new : Objects × Flight) : Type 0 where
  pub version : ℕ
  pub name : List ℕ
  pub bytes : List ℕ
  pub puts : PutsCheckpoint use_checkpoints old.0 version name bytes
  pub put : MayHaveLanded name bytes old new

-- a call was lost: before the put, or the put
abbrev pub MayHavePutCheckpoint : (use_checkpoints : Bool) → Objects × Flight → Objects × Flight → Type 0
MayHavePutCheckpoint use_checkpoints old new = IsUntouched old new ⊎ LosesPut use_checkpoints old new

-- What is known of a log whose checkpoint isn't put, for what the table has or lacks or as it is too large: all of it, as
-- it was loaded. So it is where the put was lost; a call that was lost before it changed nothing. Nothing is said where
-- the log wasn't loaded, or memory ran out.
abbrev pub KeepsLog : (use_checkpoints : Bool) → SnapshotFault → (old new : Objects × Flight) (known : Loaded) → Type 0
KeepsLog use_checkpoints (faults.Unsupported why) old new known = IsLoaded use_checkpoints old.0 known
KeepsLog use_checkpoints faults.TooLarge old new known = IsLoaded use_checkpoints old.0 known
KeepsLog use_checkpoints faults.Lost old new known = IsUntouched old new ⊎ (LosesPut use_checkpoints old new × IsLoaded use_checkpoints old.0 known)
KeepsLog use_checkpoints fault old new known = Unit {0}

-- The checkpoint of the newest version may be put, but passes 64 MiB.
pub record IsCheckpointTooLarge (use_checkpoints : Bool) (objects : Objects) : Type 0 where
  pub commits : List (List Action)
  pub read : replayed use_checkpoints objects ≡ Ok commits
  pub supported : checkpointable commits ≡ Ok tt
  pub version : ℕ
  pub bytes : List ℕ
  pub checkpoint : IsNewestCheckpoint objects commits version bytes
  pub large : most_checkpoint_bytes < length bytes

-- These bytes are the checkpoint of a version, where the commits up to it are seen as these. It may be put, but passes 64 MiB.
pub record IsLargeFor (commits : List (List Action)) (version : ℕ) (bytes : List ℕ) : Type 0 where
  pub supported : checkpointable commits ≡ Ok tt
  pub checkpoint : IsCheckpoint bytes version commits
  pub ordered : (actions : List Action) × ListsAll commits actions × IsPrintedCommit bytes (checkpoint_metadata (record { version = version }) ∷ actions)
  pub large : most_checkpoint_bytes < length bytes

-- What a fault says of the commits of the versions below one: why they have no checkpoint that may be put, or that it is too
-- large.
abbrev pub IsRefusedFor : SnapshotFault → (next : ℕ) (commits : List (List Action)) → Type 0
IsRefusedFor (faults.Unsupported why) next commits = checkpointable commits ≡ Err (fault_of why)
IsRefusedFor faults.TooLarge next commits = (version : ℕ) × (bytes : List ℕ) × (suc version ≡ next) × IsLargeFor commits version bytes
IsRefusedFor fault next commits = Unit {0}

-- So it says over objects in which the versions below one stand, and maybe later ones.
pub record RefusesFront (fault : SnapshotFault) (next : ℕ) (objects : Objects) : Type 0 where
  pub r : Option Restored
  pub from : Option (List ℕ)
  pub checkpoint : IsFrom objects next from r
  pub commits : List (List Action)
  pub read : replayed_below next r objects ≡ Ok commits
  pub within : next ≤ commit_count objects
  pub refused : IsRefusedFor fault next commits

-- Why no checkpoint is made of what was loaded: no version was, or what the commits are refused for.
abbrev pub IsUnmade : SnapshotFault → Loaded → Type 0
IsUnmade (faults.BadLog version) loaded = (version ≡ 0) × (loaded.next ≡ 0)
IsUnmade fault loaded = (r : Option Restored) (objects : Objects) (front : IsFrontFrom r objects loaded) → IsRefusedFor fault loaded.next front.commits

-- why the checkpoint of logs with this snapshot isn't put
abbrev pub IsUnsupported : SnapshotFault → Snapshot → Type 0
IsUnsupported (faults.Unsupported why) snapshot = (log : List (List Action)) → IsSnapshotOf log snapshot → checkpointable log ≡ Err (fault_of why)
IsUnsupported faults.Memory snapshot = Unit {0}
IsUnsupported fault snapshot = ⊥

-- What a fault says stands in the log: why it has no checkpoint that may be put, or that it is too large.
abbrev pub IsRefusal : (use_checkpoints : Bool) → SnapshotFault → Objects → Type 0
IsRefusal use_checkpoints faults.TooLarge objects = IsCheckpointTooLarge use_checkpoints objects
IsRefusal use_checkpoints fault objects = IsSaid (says fault) (checked_for_checkpoint use_checkpoints objects)
