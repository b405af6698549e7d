-- What a load, the put of a checkpoint, and a creation may ask for and tell.
use Rattle.std.proofs.Common.{◌≡◌, ◌∙◌, ◌<◌, ℕ, suc, List, [], Result, Ok, Err, IsSome, sym, ap, subst}
use Rattle.store_core.specs.Objects.{Objects, object_at}
use Rattle.session_core.specs.Sessions.{AllAsked}
use Rattle.session_core.specs.Talks.{Asked, Bears, Talk, get_object, list_names, put_commit, put_file, told_object, told_put}
use Rattle.delta_actions.specs.Action.{Action}
use Rattle.delta_replay.specs.Snapshots.{IsSnapshotOf}
use Rattle.delta_replay.specs.Support.{checkpointable, fault_of}
use Rattle.delta_replay.specs.declared.kept.Snapshot.{Snapshot}
use Rattle.delta_replay.specs.declared.support.SupportFault.{SupportFault}
use Rattle.table_log.proofs.Callers.{own_checkpoint, same_values}
use Rattle.table_log.specs.Counts.{count_in}
use Rattle.table_log.specs.Versions.{commits_in, versions_from}
use Rattle.snapshot_core.proofs.Callers.{all_same, checkpoint_same, known_same}
use Rattle.table_log.specs.LoadSessions.{HasListed, IsLoadBehind, LoadAsks, LoadEnds, LoadJob, is_lost_load}
use Rattle.store_core.specs.Names.{commit_name}
use Rattle.table_log.specs.declared.fault.LogFault.{LogFault}
use Rattle.table_log.specs.declared.fault.LogFault.TheVariants as load_faults
use Rattle.table_log.specs.declared.loading.Loaded.{Loaded}
use Rattle.table_store.specs.Schema.{Schema}
use Rattle.snapshot_core.specs.CheckpointSessions.{CheckpointAnswerEnds, CheckpointAsks, IsPutBehind, IsRefusedBehind, is_lost_answer}
use Rattle.snapshot_core.specs.Taking.{IsTableId}
use Rattle.snapshot_core.specs.declared.fault.SnapshotFault.{SnapshotFault}
use Rattle.snapshot_core.specs.declared.fault.SnapshotFault.TheVariants as checkpoint_faults
use Rattle.commit_core.specs.SoundStores.{IsSoundStore}
use Rattle.commit_core.proofs.Callers.{asked_last, front_log, snapshot_same}
use Rattle.session_laws.specs.May.{MayAsk}
use Rattle.session_laws.specs.Rows.{HasCheckpoint, IsLoadedBehind, IsLogBehind, IsTooLargeCheckpoint, MayTellOfCheckpoint, MayTellOfLoad, next_version}
use Rattle.table_jobs.specs.Jobs.{checkpoints, loads}
use Rattle.session_laws.specs.Moves.{ends_lost}
use Rattle.session_laws.proofs.Lacks.{load_lacks}
use Rattle.session_laws.proofs.NextVersions.{file_next, listed_next}
use Rattle.session_laws.proofs.Puts.{front_sound, told_stands}

module _ (objects : Objects) (sound : IsSoundStore objects) (job : LoadJob) (before : Talk) (known_before : Bears objects before) where
  -- what was loaded
  pub loaded_row : (talk : Talk) (loaded : Loaded) → Bears objects talk → IsLoadBehind job before talk loaded → IsLoadedBehind objects talk loaded
  loaded_row talk loaded borne ends =
      let front = ends.front objects known_before borne in
      let log = front_log objects sound loaded.next _ front.0 front.1.commits front.1.checkpoint front.1.read in
      let next : loaded.next ≡ next_version talk = ends.next ∙ sym (listed_next 0 talk ends.names ends.listed) in
      record {
        next = next;
        log = log.0;
        stand = (subst (λ (n : ℕ). 0 < n) (sym ends.next ∙ next) ends.some, subst (λ (n : ℕ). commits_in 0 (versions_from n 0 objects) ≡ Ok log.0) next log.1);
        snapshot = snapshot_same front.1.commits log.0 log.2 loaded.snapshot front.1.snapshot;
      }

  -- ---- a load

  pub load_asks : (schema : Schema) (talk : Talk) (asked : Asked) → LoadAsks job before talk asked → MayAsk objects schema (loads job) talk asked
  load_asks schema talk list_names asks = tt
  load_asks schema talk (get_object name) asks = tt
  load_asks schema talk (put_file name bytes) asks = absurd asks
  load_asks schema talk (put_commit version bytes) asks = absurd asks

  pub load_tells : (talk : Talk) (result : Result Loaded LogFault) → Bears objects talk → AllAsked (LoadAsks job before) [] talk → LoadEnds job before talk result → is_lost_load result ≡ ends_lost talk → MayTellOfLoad objects talk result
  load_tells talk (Ok loaded) borne asked ends lost = loaded_row talk loaded borne ends
  load_tells talk (Err (load_faults.BadLog version)) borne asked ends lost =
      load_lacks objects sound talk borne 0 job before version (λ front found talked. asked_last (LoadAsks job before) [] front (get_object (commit_name version), told_object found) (subst (AllAsked (LoadAsks job before) []) talked asked)) ends
  load_tells talk (Err load_faults.Lost) borne asked ends lost = sym lost
  load_tells talk (Err load_faults.Memory) borne asked ends lost = tt

  -- ---- the put of a checkpoint

  pub checkpoint_asks : (schema : Schema) (talk : Talk) (asked : Asked) → Bears objects talk → CheckpointAsks job before talk asked → MayAsk objects schema (checkpoints job) talk asked
  checkpoint_asks schema talk list_names borne asks = tt
  checkpoint_asks schema talk (get_object name) borne asks = tt
  checkpoint_asks schema talk (put_file name bytes) borne asks =
      let puts = asks.1.front objects known_before borne in
      (asks.0, own_checkpoint asks.0 name puts.is.found, front_sound objects sound asks.0 name bytes puts)
  checkpoint_asks schema talk (put_commit version bytes) borne asks = absurd asks

  -- what was told behind the put
  put_row : (talk : Talk) (version : ℕ) (known : Loaded) → Bears objects talk → IsPutBehind job before talk version known → HasCheckpoint objects talk version known
  put_row talk version known borne ends =
      let told = ends.told in
      let both = told_stands objects job before talk version ends.put borne told in
      let same : next_version talk ≡ next_version told.front = ap next_version told.talked ∙ file_next 0 told.front told.name told.bytes (told_put ends.put) in
      let row = loaded_row told.front ends.loaded both.0 ends.behind in
      let kept = known_same job.use_checkpoints ends.put told.name ends.loaded known ends.kept in
      let puts = told.puts.front objects known_before both.0 in
      let newest : suc version ≡ next_version told.front = told.puts.newest ∙ sym (listed_next 0 told.front told.puts.names told.puts.listed) in
      let log = front_log objects sound (suc version) puts.from puts.r puts.commits puts.checkpoint puts.read in
      let one : log.0 ≡ row.log = one_log objects log.0 row.log (sym log.1 ∙ (ap (λ (n : ℕ). commits_in 0 (versions_from n 0 objects)) newest ∙ row.stand.1)) in
      let of_table : IsTableId log.0 puts.is.id = record { meta_data = puts.is.of_table.meta_data; newest = sym (same_values puts.commits log.0 log.2).metadata ∙ puts.is.of_table.newest; is = puts.is.of_table.is } in
      record {
        newest = newest ∙ sym same;
        loaded = record {
          next = kept.1 ∙ (row.next ∙ sym same);
          log = row.log;
          stand = subst (λ (n : ℕ). (0 < n) × (commits_in 0 (versions_from n 0 objects) ≡ Ok row.log)) (sym same) row.stand;
          snapshot = subst (λ (s : Snapshot). IsSnapshotOf row.log s) (sym kept.0) row.snapshot;
        };
        id = puts.is.id;
        of_table = subst (λ (l : List (List Action)). IsTableId l puts.is.id) one of_table;
        stands = subst (λ (name : List ℕ). IsSome (object_at objects name)) puts.is.named both.1;
      }
    where
      one_log : (store : Objects) (one other : List (List Action)) → ◌≡◌ {A = Result (List (List Action)) ℕ} (Ok one) (Ok other) → one ≡ other
      one_log store one other is = cc

  -- the commits that were listed
  behind_list : (talk : Talk) (names : List (List ℕ)) (log : List (List Action)) → 0 < count_in names → HasListed talk names → commits_in 0 (versions_from (count_in names) 0 objects) ≡ Ok log → IsLogBehind objects (next_version talk) log
  behind_list talk names log some listed read =
      let next : count_in names ≡ next_version talk = sym (listed_next 0 talk names listed) in
      subst (λ (n : ℕ). (0 < n) × (commits_in 0 (versions_from n 0 objects) ≡ Ok log)) next (some, read)

  -- they have none that may be put
  unsupported_row : (talk : Talk) (fault : SupportFault) → Bears objects talk → IsRefusedBehind job before talk (checkpoint_faults.Unsupported fault) → (log : List (List Action)) × IsLogBehind objects (next_version talk) log × (checkpointable log ≡ Err (fault_of fault))
  unsupported_row talk fault borne ends =
      let front = ends.front objects known_before borne in
      let log = front_log objects sound (count_in ends.names) _ front.r front.commits front.checkpoint front.read in
      (log.0, behind_list talk ends.names log.0 ends.some ends.listed log.1, sym (same_values front.commits log.0 log.2).checkpointed ∙ front.refused)

  large_row : (talk : Talk) → Bears objects talk → IsRefusedBehind job before talk checkpoint_faults.TooLarge → (log : List (List Action)) × IsLogBehind objects (next_version talk) log × IsTooLargeCheckpoint (next_version talk) log
  large_row talk borne ends =
      let front = ends.front objects known_before borne in
      let log = front_log objects sound (count_in ends.names) _ front.r front.commits front.checkpoint front.read in
      let large = front.refused in (
        log.0,
        behind_list talk ends.names log.0 ends.some ends.listed log.1,
        record {
          version = large.0;
          last = large.2 ∙ sym (listed_next 0 talk ends.names ends.listed);
          bytes = large.1;
          large = record {
            supported = sym (same_values front.commits log.0 log.2).checkpointed ∙ large.3.supported;
            checkpoint = checkpoint_same front.commits log.0 log.2 large.1 large.0 large.3.checkpoint;
            ordered = (large.3.ordered.0, all_same front.commits log.0 log.2 large.3.ordered.0 large.3.ordered.1, large.3.ordered.2);
            large = large.3.large;
          };
        },
      )

  pub checkpoint_tells : (talk : Talk) (known : Loaded) (answer : Result ℕ SnapshotFault) → Bears objects talk → AllAsked (CheckpointAsks job before) [] talk → CheckpointAnswerEnds job before talk known answer → is_lost_answer answer ≡ ends_lost talk
      → MayTellOfCheckpoint objects talk known answer
  checkpoint_tells talk known (Ok version) borne asked ends lost = put_row talk version known borne ends
  checkpoint_tells talk known (Err (checkpoint_faults.BadLog version)) borne asked ends lost =
      load_lacks objects sound talk borne 0 job before version (λ front found talked. asked_last (CheckpointAsks job before) [] front (get_object (commit_name version), told_object found) (subst (AllAsked (CheckpointAsks job before) []) talked asked)) ends
  checkpoint_tells talk known (Err (checkpoint_faults.Unsupported fault)) borne asked ends lost =
      let row = unsupported_row talk fault borne ends.0 in
      (loaded_row talk known borne ends.1, row.0, row.1, row.2)
  checkpoint_tells talk known (Err checkpoint_faults.TooLarge) borne asked ends lost =
      let row = large_row talk borne ends.0 in
      (loaded_row talk known borne ends.1, row.0, row.1, row.2)
  checkpoint_tells talk known (Err checkpoint_faults.Lost) borne asked ends lost = sym lost
  checkpoint_tells talk known (Err checkpoint_faults.Memory) borne asked ends lost = tt
