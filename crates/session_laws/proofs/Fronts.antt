-- What is known of a sound store's log: its first commits, which stand for the first entries of its table.
use Rattle.std.proofs.Common.{◌≡◌, ◌∙◌, ◌≤◌, ℕ, List, ◌++◌, length, take, drop, Ok, sym, ap, subst, arith}
use Rattle.std.proofs.lemmas.List.{length-take-le, take-append-drop}
use Rattle.store_core.specs.Objects.{Objects}
use Rattle.session_core.specs.Talks.{Bears, Talk}
use Rattle.delta_actions.specs.Action.{Action}
use Rattle.delta_replay.specs.Snapshots.{IsSnapshotOf}
use Rattle.table_log.specs.Counts.{commit_count}
use Rattle.table_log.specs.Loads.{IsFront}
use Rattle.table_log.specs.Versions.{commits_in, versions_from}
use Rattle.table_log.specs.declared.loading.Loaded.{Loaded}
use Rattle.table_model.specs.Lawful.{IsLawful}
use Rattle.table_model.specs.Table.{Entry}
use Rattle.table_store.specs.Holds.{Holds, HoldsFirst}
use Rattle.table_store.specs.Schema.{Schema}
use Rattle.table_store.proofs.LawfulLogLemmas.{AreMadeFor}
use Rattle.commit_core.specs.SoundStores.{IsSoundStore}
use Rattle.commit_core.proofs.Callers.{count_held, front_log, front_made, front_stands, snapshot_same}
use Rattle.sink_core.specs.SinkSessions.{Point, Reaches, SinkJob}
use Rattle.sink_core.proofs.ReachLemmas.{reaches_known}

-- The first commits of a log, and the entries that they stand for.
pub record IsFrontOf (objects : Objects) (schema : Schema) (entries : List Entry) (next : ℕ) (log : List (List Action)) : Type 0 where
  pub firsts : List Entry
  pub later : List Entry
  pub split : entries ≡ firsts ++ later
  pub long : length firsts ≡ next
  pub stand : HoldsFirst objects schema 0 firsts
  pub lawful : IsLawful firsts
  pub made : AreMadeFor objects schema firsts log
  pub read : commits_in 0 (versions_from next 0 objects) ≡ Ok log

-- What is known of a log is the snapshot of its first commits.
pub record IsKnownFront (objects : Objects) (schema : Schema) (entries : List Entry) (known : Loaded) : Type 0 where
  pub log : List (List Action)
  pub front : IsFrontOf objects schema entries known.next log
  pub snapshot : IsSnapshotOf log known.snapshot

module _ (objects : Objects) (schema : Schema) (entries : List Entry) (sound : IsSoundStore objects) (holds : Holds objects schema entries) where
  -- the first commits that are read stand for the first entries
  pub front_of : (next : ℕ) (log : List (List Action)) → next ≤ commit_count objects → commits_in 0 (versions_from next 0 objects) ≡ Ok log → IsFrontOf objects schema entries next log
  front_of next log within read =
      let count : commit_count objects ≡ length entries = count_held objects sound.table schema entries holds in
      let firsts = take next entries in
      let split : firsts ++ drop next entries ≡ entries = take-append-drop next entries in
      let long : length firsts ≡ next = length-take-le next entries (omega (arith, count, within)) in
      let both = front_stands objects schema firsts (drop next entries) sound.table (subst (Holds objects schema) (sym split) holds) in
      record {
        firsts = firsts;
        later = drop next entries;
        split = sym split;
        long = long;
        stand = both.0;
        lawful = both.1;
        made = front_made objects schema firsts log both.0 (ap (λ (n : ℕ). commits_in 0 (versions_from n 0 objects)) long ∙ read);
        read = read;
      }

  -- so does what is known
  pub known_front : (known : Loaded) → IsFront objects known → IsKnownFront objects schema entries known
  known_front known front =
      let log = front_log objects sound known.next _ front.0 front.1.commits front.1.checkpoint front.1.read in
      record {
        log = log.0;
        front = front_of known.next log.0 front.1.within log.1;
        snapshot = snapshot_same front.1.commits log.0 log.2 known.snapshot front.1.snapshot;
      }

  -- and what a stream's session knows, wherever it has come to
  pub reached_front : (job : SinkJob) (before talk : Talk) (known : Loaded) (tries : ℕ) (point : Point) → Bears objects before → Bears objects talk → Reaches job before talk known tries point → IsKnownFront objects schema entries known
  reached_front job before talk known tries point known_before borne reaches = known_front known (reaches_known job before talk known tries point reaches objects known_before borne)
