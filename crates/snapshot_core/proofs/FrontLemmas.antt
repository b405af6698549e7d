-- What is put and refused over the first versions of a log, and over all of it.
use Rattle.std.proofs.Common.{◌≡◌, ◌∙◌, ◌<◌, ◌≤◌, ℕ, suc, List, Bool, Option, Ok, Err, refl, ap, arith}
use Rattle.store_core.specs.Objects.{Objects}
use Rattle.delta_replay.specs.Support.{checkpointable, fault_of}
use Rattle.table_log.specs.Counts.{commit_count}
use Rattle.table_log.specs.Loads.{IsFront, IsFrontFrom, IsLoaded, checkpoint_of, replayed_below}
use Rattle.table_log.specs.Restoring.{Restored, restored_if}
use Rattle.table_log.specs.declared.loading.Loaded.{Loaded}
use Rattle.snapshot_core.specs.Taking.{IsCheckpointFor, IsRefusal, IsRefusedFor, IsUnmade, IsUnsupported, PutsCheckpoint, PutsFront, RefusesFront}
use Rattle.snapshot_core.specs.declared.fault.SnapshotFault.{SnapshotFault}
use Rattle.snapshot_core.specs.declared.fault.SnapshotFault.TheVariants.{BadLog, Lost, Memory, TooLarge, Unsupported}
use Rattle.snapshot_core.proofs.LogLemmas.{of_replayed, whole_below}

-- ---- over the first versions

-- what its snapshot isn't supported for is why its checkpoint isn't made
pub unmade_by : (fault : SnapshotFault) (loaded : Loaded) → IsUnsupported fault loaded.snapshot → IsUnmade fault loaded
unmade_by (BadLog version) loaded is = absurd is
unmade_by (Unsupported why) loaded is = λ r objects front. is front.commits front.snapshot
unmade_by TooLarge loaded is = absurd is
unmade_by Lost loaded is = absurd is
unmade_by Memory loaded is = λ r objects front. tt

-- the checkpoint of the last of them is put
pub puts_front : (objects : Objects) (loaded : Loaded) (version : ℕ) (name bytes : List ℕ) → suc version ≡ loaded.next → (front : IsFront objects loaded) → IsCheckpointFor front.1.commits version name bytes → PutsFront objects version name bytes
puts_front objects loaded version name bytes last front is = record {
  r = front.0;
  from = checkpoint_of loaded;
  checkpoint = rw last front.1.checkpoint;
  commits = front.1.commits;
  read = ap (λ (n : ℕ). replayed_below n front.0 objects) last ∙ front.1.read;
  within = omega (arith, last, front.1.within);
  is = is;
}

-- or refused
pub refuses_front : (objects : Objects) (loaded : Loaded) (fault : SnapshotFault) → (front : IsFront objects loaded) → IsRefusedFor fault loaded.next front.1.commits → RefusesFront fault loaded.next objects
refuses_front objects loaded fault front refused = record {
  r = front.0;
  from = checkpoint_of loaded;
  checkpoint = front.1.checkpoint;
  commits = front.1.commits;
  read = front.1.read;
  within = front.1.within;
  refused = refused;
}

-- ---- over all of a log

module _ (use_checkpoints : Bool) (objects : Objects) (loaded : Loaded) (is : IsLoaded use_checkpoints objects loaded) where
  loaded_read : replayed_below loaded.next (restored_if use_checkpoints objects) objects ≡ Ok is.commits
  loaded_read = ap (λ (n : ℕ). replayed_below n (restored_if use_checkpoints objects) objects) is.next ∙ whole_below (restored_if use_checkpoints objects) objects is.commits is.read

  loaded_within : loaded.next ≤ commit_count objects
  loaded_within = omega (arith, is.next)

  -- what was loaded of it is a front of it, with the same commits
  abbrev loaded_from : IsFrontFrom (restored_if use_checkpoints objects) objects loaded
  loaded_from = record {
    checkpoint = is.checkpoint;
    commits = is.commits;
    read = loaded_read;
    within = loaded_within;
    snapshot = is.snapshot;
  }

  -- a log that is loaded has a version
  pub loaded_some : 0 < loaded.next
  loaded_some = let known = of_replayed use_checkpoints objects is.commits is.read in omega (arith, is.next, known.some)

  -- its checkpoint is put
  pub puts_whole : (version : ℕ) (name bytes : List ℕ) → suc version ≡ loaded.next → ((r : Option Restored) (front : IsFrontFrom r objects loaded) → IsCheckpointFor front.commits version name bytes) → PutsCheckpoint use_checkpoints objects version name bytes
  puts_whole version name bytes last made =
      let one : IsCheckpointFor is.commits version name bytes = made (restored_if use_checkpoints objects) loaded_from in
      record {
        commits = is.commits;
        read = is.read;
        supported = one.supported;
        id = one.id;
        of_table = one.of_table;
        checkpoint = record { newest = last ∙ is.next; checkpoint = one.checkpoint; ordered = one.ordered };
        fits = one.fits;
        named = one.named;
        found = one.found;
      }

  -- or refused
  pub refuses_whole : (fault : SnapshotFault) → IsUnmade fault loaded → IsRefusal use_checkpoints fault objects
  refuses_whole (BadLog version) unmade = let some = loaded_some in absurd (omega (arith, unmade.1, some))
  refuses_whole (Unsupported why) unmade =
      let refused : checkpointable is.commits ≡ Err (fault_of why) = unmade (restored_if use_checkpoints objects) objects loaded_from in
      rw (is.read, refused) refl
  refuses_whole TooLarge unmade =
      let refused : IsRefusedFor TooLarge loaded.next is.commits = unmade (restored_if use_checkpoints objects) objects loaded_from in
      record {
        commits = is.commits;
        read = is.read;
        supported = refused.3.supported;
        version = refused.0;
        bytes = refused.1;
        checkpoint = record { newest = refused.2 ∙ is.next; checkpoint = refused.3.checkpoint; ordered = refused.3.ordered };
        large = refused.3.large;
      }
  refuses_whole Lost unmade = tt
  refuses_whole Memory unmade = tt
