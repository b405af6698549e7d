-- What is told as the snapshot over a store, by what a load of the log told.
use Rattle.std.proofs.Common.{◌≡◌, ◌≢◌, ℕ, Bool, Result, Ok, Err, refl, ap}
use Rattle.std.specs.Global.{Global}
use Rattle.std.specs.Prelude.{Vec}
use Rattle.outcomes.specs.Outcome.{IsSaid}
use Rattle.store_core.specs.Objects.{Objects}
use Rattle.session_core.specs.Stores.{State}
use Rattle.table_log.specs.Loads as loads
use Rattle.table_log.specs.LoadSessions.{IsLoadTold}
use Rattle.table_log.specs.Restoring.{replayed}
use Rattle.table_log.specs.declared.fault.LogFault.{LogFault}
use Rattle.table_log.specs.declared.fault.LogFault.TheVariants as logs
use Rattle.table_log.specs.declared.loading.Loaded.{Loaded}
use Rattle.snapshot_core.specs.Faults.{IsSnapshotLogFault, readable_log, says}
use Rattle.snapshot_core.specs.ToldSnapshots.{IsSnapshotTold, IsToldOf}
use Rattle.snapshot_core.specs.declared.fault.SnapshotFault.{SnapshotFault}
use Rattle.snapshot_core.specs.declared.fault.SnapshotFault.TheVariants as snapshots

-- ---- the refusal of a load, as one of the snapshot

pub refusal_said : (use_checkpoints : Bool) (objects : Objects) (fault : LogFault) (refusal : SnapshotFault) → IsSnapshotLogFault fault refusal → IsSaid (loads.says fault) (replayed use_checkpoints objects) → IsSaid (says refusal) (readable_log use_checkpoints objects)
refusal_said use_checkpoints objects (logs.BadLog version) refusal is refused = rw is (rw refused refl)
refusal_said use_checkpoints objects logs.Lost refusal is refused = rw is tt
refusal_said use_checkpoints objects logs.Memory refusal is refused = rw is tt

pub lost_there : (fault : LogFault) (refusal : SnapshotFault) → IsSnapshotLogFault fault refusal → refusal ≡ snapshots.Lost → fault ≡ logs.Lost
lost_there (logs.BadLog version) refusal is lost = absurd cc
lost_there logs.Lost refusal is lost = refl
lost_there logs.Memory refusal is lost = absurd cc

lost_here : (fault : LogFault) (refusal : SnapshotFault) → IsSnapshotLogFault fault refusal → fault ≡ logs.Lost → refusal ≡ snapshots.Lost
lost_here (logs.BadLog version) refusal is lost = absurd cc
lost_here logs.Lost refusal is lost = is
lost_here logs.Memory refusal is lost = absurd cc

own_fault : (fault : LogFault) → ◌≡◌ {A = Result Loaded LogFault} (Err fault) (Err logs.Lost) → fault ≡ logs.Lost
own_fault fault is = cc

own_refusal : (refusal : SnapshotFault) → ◌≡◌ {A = Result (Vec ℕ Global) SnapshotFault} (Err refusal) (Err snapshots.Lost) → refusal ≡ snapshots.Lost
own_refusal refusal is = cc

-- ---- over a store

module _ (use_checkpoints : Bool) (loaded : Loaded) (old new : State) (faults later : ℕ) where
  -- of a log that was loaded
  pub told_of_loaded : IsLoadTold use_checkpoints (Ok loaded) old new faults later → (answer : Result (Vec ℕ Global) SnapshotFault) → IsToldOf (Ok loaded) answer → answer ≢ Err snapshots.Lost → IsSnapshotTold use_checkpoints answer loaded old new faults later
  told_of_loaded load (Ok text) of other = record {
    told = of.0 use_checkpoints old.0 load.loaded;
    known = load.loaded;
    refused = tt;
    untouched = load.untouched;
    in_flight = load.in_flight;
    lost = λ lost. absurd (other lost);
    counted = λ unlost. load.counted (λ wrong. absurd cc);
  }
  told_of_loaded load (Err fault) of other = record {
    told = tt;
    known = tt;
    refused = of.1 use_checkpoints old.0 load.loaded;
    untouched = load.untouched;
    in_flight = load.in_flight;
    lost = λ lost. absurd (other lost);
    counted = λ unlost. load.counted (λ wrong. absurd cc);
  }

  -- and of one that wasn't
  pub told_of_fault : (fault : LogFault) → IsLoadTold use_checkpoints (Err fault) old new faults later → (refusal : SnapshotFault) → IsSnapshotLogFault fault refusal → IsSnapshotTold use_checkpoints (Err refusal) loaded old new faults later
  told_of_fault fault load refusal is = record {
    told = tt;
    known = tt;
    refused = refusal_said use_checkpoints old.0 fault refusal is load.refused;
    untouched = load.untouched;
    in_flight = load.in_flight;
    lost = λ lost. load.lost (ap (λ (f : LogFault). Err f) (lost_there fault refusal is (own_refusal refusal lost)));
    counted = λ unlost. load.counted (λ lost. unlost (ap (λ (f : SnapshotFault). Err f) (lost_here fault refusal is (own_fault fault lost))));
  }
