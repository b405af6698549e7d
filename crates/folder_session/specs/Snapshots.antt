-- What is told of the snapshot of objects, where no call is lost; and by which calls of any folder.
use Rattle.std.specs.Prelude.{◌≡◌, ◌≢◌, ℕ, Bool, List, [], Result, Ok, Err, Vec}
use Rattle.std.specs.Global.{Global}
use Rattle.outcomes.specs.Outcome.{IsSaid}
use Rattle.store_core.specs.Objects.{Objects}
use Rattle.table_folder.specs.Traces.{FolderCall}
use Rattle.table_log.specs.LoadSessions.{LoadAsks, LoadEnds, first_load}
use Rattle.table_log.specs.declared.fault.LogFault.{LogFault}
use Rattle.table_log.specs.declared.loading.Loaded.{Loaded}
use Rattle.snapshot_core.specs.Faults.{readable_log, says}
use Rattle.snapshot_core.specs.Telling.{TellsSnapshot}
use Rattle.snapshot_core.specs.ToldSnapshots.{IsToldOf}
use Rattle.snapshot_core.specs.declared.fault.SnapshotFault.{SnapshotFault}
use Rattle.snapshot_core.specs.declared.fault.SnapshotFault.TheVariants as snapshots
use Rattle.folder_session.specs.Beside.{TalksBeside}

-- the snapshot is told, or why it isn't
abbrev pub IsSnapshot : (use_checkpoints : Bool) → Objects → Result (Vec ℕ Global) SnapshotFault → Type 0
IsSnapshot use_checkpoints objects (Ok text) = TellsSnapshot use_checkpoints objects text.items
IsSnapshot use_checkpoints objects (Err fault) = IsSaid (says fault) (readable_log use_checkpoints objects) × (fault ≢ snapshots.Lost)

-- Over any folder, whoever else writes into it, a load that knew nothing before was driven, for which just these calls were made of the
-- folder, and what it told is told.
abbrev pub TellsBy : (use_checkpoints : Bool) → Result (Vec ℕ Global) SnapshotFault → List FolderCall → Type 0
TellsBy use_checkpoints told calls =
    (most : ℕ) × (outcome : Result Loaded LogFault) × (added : Objects) × TalksBeside LoadAsks LoadEnds (λ made. made ≡ calls) (first_load use_checkpoints) most [] outcome added × IsToldOf outcome told
