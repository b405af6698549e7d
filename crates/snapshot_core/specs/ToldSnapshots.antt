-- What is told as the snapshot of a log, by what a load of it told; and how a store is left for it, and by which calls.
use Rattle.std.specs.Prelude.{◌≡◌, ◌≢◌, ℕ, Bool, Result, Ok, Err, IfErr, IfOk, OnOk, Vec}
use Rattle.std.specs.Global.{Global}
use Rattle.outcomes.specs.Outcome.{IsSaid}
use Rattle.store_core.specs.Calls.{HasRisen}
use Rattle.store_core.specs.Objects.{Objects}
use Rattle.session_core.specs.Stores.{State}
use Rattle.table_log.specs.Loads.{IsLoaded}
use Rattle.table_log.specs.LoadSessions.{IsLoadDriven, LoadJob, left_in}
use Rattle.table_log.specs.declared.fault.LogFault.{LogFault}
use Rattle.table_log.specs.declared.loading.Loaded.{Loaded}
use Rattle.snapshot_core.specs.Faults.{IsSnapshotLogFault, readable_log, says}
use Rattle.snapshot_core.specs.Telling.{TellsSnapshot}
use Rattle.snapshot_core.specs.declared.fault.SnapshotFault.{SnapshotFault}
use Rattle.snapshot_core.specs.declared.fault.SnapshotFault.TheVariants as snapshots

-- what is told of what a load told: of whatever objects that was loaded, their snapshot, or why it isn't told; or the load's refusal
abbrev pub IsToldOf : Result Loaded LogFault → Result (Vec ℕ Global) SnapshotFault → Type 0
IsToldOf (Ok loaded) told =
    IfOk told (λ text. (use_checkpoints : Bool) (objects : Objects) → IsLoaded use_checkpoints objects loaded → TellsSnapshot use_checkpoints objects text.items)
    × IfErr told (λ fault. (use_checkpoints : Bool) (objects : Objects) → IsLoaded use_checkpoints objects loaded → IsSaid (says fault) (readable_log use_checkpoints objects))
IsToldOf (Err fault) told = (refusal : SnapshotFault) × (told ≡ Err refusal) × IsSnapshotLogFault fault refusal

-- What is told as the snapshot over any store, and how that one is left: the text of what the log leaves, which is known from then on, or why
-- there is none. The objects and what is in flight stay. That a call was lost is told where the store's count of faults rose, and nowhere
-- else.
pub record IsSnapshotTold (use_checkpoints : Bool) (answer : Result (Vec ℕ Global) SnapshotFault) (loaded : Loaded) (old new : State) (faults later : ℕ) : Type 0 where
  pub told : IfOk answer (λ text. TellsSnapshot use_checkpoints old.0 text.items)
  pub known : OnOk answer (IsLoaded use_checkpoints old.0 loaded)
  pub refused : IfErr answer (λ fault. IsSaid (says fault) (readable_log use_checkpoints old.0))
  pub untouched : new.0 ≡ old.0
  pub in_flight : new.1 ≡ old.1
  pub lost : answer ≡ Err snapshots.Lost → HasRisen faults later
  pub counted : answer ≢ Err snapshots.Lost → later ≡ faults

-- A load was driven over some store, by just these calls of it. What it loaded is known from then on, and of what it told the snapshot is told.
abbrev pub IsSnapshotDriven : {S : Type 0} → (makes : S → S → Type 0) → (first later : S) → (is_reliable : Type 0) → LoadJob → (loaded : Loaded) → Result (Vec ℕ Global) SnapshotFault → (old new : State) → (count counted : ℕ) → Type 0
IsSnapshotDriven {S} makes first later is_reliable job loaded answer old new count counted =
    (done : Result (Unit {0}) LogFault) × IsLoadDriven makes first later is_reliable job (left_in loaded done) old new count counted × IsToldOf (left_in loaded done) answer
