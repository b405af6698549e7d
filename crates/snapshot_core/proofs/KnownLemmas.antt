-- What is known of a log behind the put of a checkpoint.
use Rattle.std.proofs.Common.{◌≡◌, ◌∙◌, ◌<◌, ◌-◌, ℕ, suc, List, [], ◌∷◌, Bool, true, false, Option, Some, None, Ok, refl, sym, ap, subst, inl, inr, arith}
use Rattle.outcomes.specs.Results.{◌>>=◌}
use Rattle.store_core.specs.Calls.{StandsAfter}
use Rattle.store_core.specs.Objects.{Objects, object_at}
use Rattle.store_core.specs.declared.store.Put.{Put}
use Rattle.store_core.specs.declared.store.Put.TheVariants.{Created, Exists}
use Rattle.session_core.specs.Talks.{Bears, Talk, put_file, told_put}
use Rattle.session_core.proofs.Callers.{bears_more}
use Rattle.delta_actions.specs.Action.{Action}
use Rattle.delta_replay.specs.Keys.{Key, at}
use Rattle.delta_replay.specs.Snapshots.{IsSnapshotOf}
use Rattle.delta_replay.specs.declared.kept.Snapshot.{Snapshot}
use Rattle.delta_replay.proofs.Callers.{same_snapshot}
use Rattle.delta_checkpoint.proofs.Restored.{checkpoint_leaves, checkpoint_passes}
use Rattle.table_log.specs.Loads.{IsFrom, IsFront, IsLoaded, checkpoint_of, replayed_below}
use Rattle.table_log.specs.LoadSessions.{LoadJob}
use Rattle.table_log.specs.Restoring.{Restored, checkpoint_in, restored_if}
use Rattle.table_log.specs.Versions.{commits_in, versions_from}
use Rattle.table_log.specs.declared.loading.Loaded.{Loaded}
use Rattle.table_log.proofs.Callers.{own_checkpoint}
use Rattle.table_log.proofs.LoadLemmas.{found_again}
use Rattle.table_log.proofs.RestoreLemmas.{reads_well}
use Rattle.snapshot_core.specs.CheckpointSessions.{IsKnownBehind, IsPutBehind}
use Rattle.snapshot_core.specs.Taking.{HasPut, IsCheckpointFor, IsMadeOf, KnowsLog}

-- ---- a checkpoint that stands

module _ (objects : Objects) (version : ℕ) (name bytes : List ℕ) (commits : List (List Action)) (is : IsCheckpointFor commits version name bytes) where
  -- what its lines tell
  abbrev told_in : Restored
  told_in = record { version = version; actions = is.checkpoint.actions }

  -- it is found under its name
  found_there : (below : ℕ) → version < below → object_at objects name ≡ Some bytes → checkpoint_in below objects name ≡ Some told_in
  found_there below lt stands =
      found_again below objects name told_in (record {
        told = own_checkpoint version name is.found;
        below = lt;
        bytes = bytes;
        stands = stands;
        reads = reads_well bytes version is.checkpoint.actions is.checkpoint.lines (checkpoint_passes bytes version commits is.checkpoint);
      })

  -- no commit stands behind its own version, as far as that
  nothing_behind : (next : ℕ) → suc version ≡ next → replayed_below next (Some told_in) objects ≡ Ok (is.checkpoint.actions ∷ [])
  unfolding versions_from
  nothing_behind next last =
      let none : next - suc version ≡ 0 = omega (arith, last) in
      ap (λ (left : ℕ). commits_in (suc version) (versions_from left (suc version) objects) >>= λ (more : List (List Action)). Ok (is.checkpoint.actions ∷ more)) none

-- What was loaded is what its checkpoint leaves that stands, and so it is known from there, too.
known_from : (objects : Objects) (loaded known : Loaded) (version : ℕ) (name bytes : List ℕ) → (front : IsFront objects loaded) → (made : IsMadeOf loaded version name bytes) → object_at objects name ≡ Some bytes
    → known.snapshot ≡ loaded.snapshot → known.next ≡ loaded.next → checkpoint_of known ≡ Some name → IsFront objects known
known_from objects loaded known version name bytes front made stands snapshot next from =
    let commits = front.1.commits in
    let one : IsCheckpointFor commits version name bytes = made.made front.0 objects front.1 in
    let left = one.checkpoint.actions ∷ [] in
    let r : Restored = record { version = version; actions = one.checkpoint.actions } in
    let last : suc version ≡ known.next = made.last ∙ sym next in
    let found : checkpoint_in known.next objects name ≡ Some r = found_there objects version name bytes commits one known.next (omega (arith, last)) stands in
    let same : (key : Key) → at key commits ≡ at key left = λ key. sym (checkpoint_leaves bytes version commits one.checkpoint key) in (
      Some r,
      record {
        checkpoint = subst (λ (c : Option (List ℕ)). IsFrom objects known.next c (Some r)) (sym from) found;
        commits = left;
        read = nothing_behind objects version name bytes commits one known.next last;
        within = omega (arith, next, front.1.within);
        snapshot = subst (λ (s : Snapshot). IsSnapshotOf left s) (sym snapshot) (same_snapshot commits left loaded.snapshot same front.1.snapshot);
      },
    )

-- ---- behind a put that was answered

-- the log is known with the same snapshot, up to the same version
pub known_same : (use_checkpoints : Bool) (put : Put) (name : List ℕ) (loaded known : Loaded) → IsKnownBehind use_checkpoints put name loaded known → (known.snapshot ≡ loaded.snapshot) × (known.next ≡ loaded.next)
known_same true Created name loaded known is = (is.0, is.1)
known_same true Exists name loaded known is = (ap (λ (l : Loaded). l.snapshot) is, ap (λ (l : Loaded). l.next) is)
known_same false put name loaded known is = (ap (λ (l : Loaded). l.snapshot) is, ap (λ (l : Loaded). l.next) is)

-- What is known stands in each store that bears the talk.
pub known_front : (job : LoadJob) (before talk : Talk) (version : ℕ) (known : Loaded) → IsPutBehind job before talk version known → (objects : Objects) → Bears objects before → Bears objects talk → IsFront objects known
known_front job before talk version known ends objects earlier borne =
    let told = ends.told in
    let all = bears_more objects told.front (put_file told.name told.bytes) (told_put ends.put) (subst (Bears objects) told.talked borne) in
    by_put job.use_checkpoints ends.put (ends.behind.front objects earlier all.0) all.1 ends.kept
  where
    by_put : (use_checkpoints : Bool) (put : Put) → IsFront objects ends.loaded → StandsAfter put ends.told.bytes (object_at objects ends.told.name) → IsKnownBehind use_checkpoints put ends.told.name ends.loaded known → IsFront objects known
    by_put true Created front stands is = known_from objects ends.loaded known version ends.told.name ends.told.bytes front ends.made stands is.0 is.1 is.2
    by_put true Exists front stands is = subst (λ (l : Loaded). IsFront objects l) (sym is) front
    by_put false put front stands is = subst (λ (l : Loaded). IsFront objects l) (sym is) front

-- ---- over a store

module _ (old new : Objects) (loaded known : Loaded) (version : ℕ) where
  -- what is known as it was loaded
  as_loaded : (use_checkpoints : Bool) → IsLoaded use_checkpoints old loaded → known ≡ loaded → KnowsLog use_checkpoints old new known
  as_loaded use_checkpoints is same = record {
    commits = is.commits;
    read = is.read;
    snapshot = subst (λ (l : Loaded). IsSnapshotOf is.commits l.snapshot) (sym same) is.snapshot;
    next = ap (λ (l : Loaded). l.next) same ∙ is.next;
    from = inl (subst (λ (l : Loaded). IsFrom old l.next (checkpoint_of l) (restored_if use_checkpoints old)) (sym same) is.checkpoint);
  }

  pub knows_log : (use_checkpoints : Bool) (put : Put) → IsLoaded use_checkpoints old loaded → (has : HasPut use_checkpoints version old new) → (put ≡ Created → object_at old has.name ≡ None) → IsKnownBehind use_checkpoints put has.name loaded known
      → KnowsLog use_checkpoints old new known
  knows_log true Created is has free now = record {
    commits = is.commits;
    read = is.read;
    snapshot = subst (λ (s : Snapshot). IsSnapshotOf is.commits s) (sym now.0) is.snapshot;
    next = now.1 ∙ is.next;
    from = inr (record { used = refl; version = version; put = has; created = free refl; from = now.2 });
  }
  knows_log true Exists is has free now = as_loaded true is now
  knows_log false put is has free now = as_loaded false is now

-- what a put created it is known from
pub from_created : (use_checkpoints : Bool) (put : Put) (name : List ℕ) (loaded known : Loaded) → use_checkpoints ≡ true → put ≡ Created → IsKnownBehind use_checkpoints put name loaded known → checkpoint_of known ≡ Some name
from_created true Created name loaded known used created is = is.2
from_created true Exists name loaded known used created is = absurd cc
from_created false put name loaded known used created is = absurd cc
