-- What loads tell of sound stores that bear their talks.
use Rattle.std.proofs.Common.{◌≡◌, ◌∙◌, ◌<◌, ◌≤◌, ◌+◌, ◌-◌, ◌⊎◌, ℕ, suc, Bool, true, false, List, [], ◌∷◌, ◌++◌, length, Option, Some, None, Result, Ok, Err, refl, sym, ap, subst, inl, inr, if◌then◌else◌, arith}
use Rattle.std.specs.Prelude.{nat_lt}
use Rattle.std.proofs.lemmas.Bool.{cases_eq, cases_lt}
use Rattle.std.proofs.lemmas.List.{append-nil, append_assoc}
use Rattle.outcomes.specs.Results.{◌>>=◌}
use Rattle.store_core.specs.Objects.{Objects, object_at}
use Rattle.session_core.specs.Sessions.{AllAsked}
use Rattle.session_core.specs.Talks.{Asked, Bears, Talk, Told, get_object, told_object}
use Rattle.session_core.proofs.Callers.{bears_more}
use Rattle.delta_actions.specs.Action.{Action}
use Rattle.delta_actions.specs.Commit.{IsCommit}
use Rattle.store_core.specs.Names.{commit_name, commit_version, greatest_version}
use Rattle.store_core.proofs.Callers.{named}
use Rattle.delta_replay.specs.Keys.{Key, at}
use Rattle.delta_replay.specs.Snapshots.{IsSnapshotOf}
use Rattle.delta_replay.specs.declared.kept.Snapshot.{Snapshot}
use Rattle.table_log.specs.Counts.{count_in, next_behind}
use Rattle.table_log.specs.LoadSessions.{GotNoCommit, HasGap, IsListedCheckpoint, IsNextCommit, IsNoCommit, LoadAsks, LoadJob}
use Rattle.table_log.specs.Loads.{IsFrom, replayed_below}
use Rattle.table_log.specs.Restoring.{Restored}
use Rattle.table_log.specs.Versions.{commit_of, commits_in, versions_from}
use Rattle.table_log.proofs.Callers.{commit_is, found_parts, of_commit, read_parts, same_values}
use Rattle.table_model.specs.Table.{Entry}
use Rattle.table_store.specs.Holds.{HoldsFrom}
use Rattle.table_store.specs.Schema.{Schema}
use Rattle.table_store.specs.Sound.{IsSound}
use Rattle.log_laws.specs.Sound.{IsSoundStore}
use Rattle.log_laws.proofs.Checkpoints.{checkpoint_front}

-- ---- what was loaded

-- a snapshot of a log is one of each log that leaves the same
pub snapshot_same : (commits log : List (List Action)) → ((key : Key) → at key commits ≡ at key log) → (snapshot : Snapshot) → IsSnapshotOf commits snapshot → IsSnapshotOf log snapshot
snapshot_same commits log same snapshot is = record {
  newest = λ key. is.newest key ∙ same key;
  streams = λ application text. is.streams application text ∙ (same_values commits log same).closed application;
}

-- a commit in front of others
in_front : (actions : List Action) (rest : Result (List (List Action)) ℕ) (commits : List (List Action)) → (rest >>= λ (more : List (List Action)). Ok (actions ∷ more)) ≡ Ok commits
    → (more : List (List Action)) × (rest ≡ Ok more) × (actions ∷ more ≡ commits)
in_front actions (Ok more) commits h = let same : actions ∷ more ≡ commits = cc in (more, refl, same)
in_front actions (Err version) commits h = absurd cc

-- What the versions below one are seen as leaves what their commits leave, which all stand.
abbrev pub HasFront : Objects → (next : ℕ) → List (List Action) → Type 0
HasFront objects next commits = (log : List (List Action)) × (commits_in 0 (versions_from next 0 objects) ≡ Ok log) × ((key : Key) → at key commits ≡ at key log)

pub front_log : (objects : Objects) → IsSoundStore objects → (next : ℕ) (from : Option (List ℕ)) (r : Option Restored) (commits : List (List Action)) → IsFrom objects next from r → replayed_below next r objects ≡ Ok commits
    → HasFront objects next commits
front_log objects sound next None None commits is read = (commits, read, λ key. refl)
front_log objects sound next (Some name) None commits is read = absurd is
front_log objects sound next None (Some r) commits is read = absurd is
front_log objects sound next (Some name) (Some r) commits is read =
    let parts = found_parts next objects name r is in
    let one = sound.checkpoints name r.version parts.bytes parts.told parts.stands tt in
    let lines = commit_is parts.bytes r.actions (read_parts parts.bytes r.version r.actions parts.reads).0 in
    let behind = in_front r.actions (commits_in (suc r.version) (versions_from (next - suc r.version) (suc r.version) objects)) commits read in
    let whole = checkpoint_front objects r.version parts.bytes r.actions one lines (next - suc r.version) behind.0 behind.1 in
    let count : next ≡ suc r.version + (next - suc r.version) = omega (arith, parts.below) in
    (whole.0, ap (λ (n : ℕ). commits_in 0 (versions_from n 0 objects)) count ∙ whole.1, λ key. ap (at key) (sym behind.2) ∙ whole.2 key)

-- ---- what was got

-- no more versions are listed than commits can have
next_few : (found : Option ℕ) (count : ℕ) → ((version : ℕ) → found ≡ Some version → version ≤ greatest_version) → count ≤ suc greatest_version → next_behind found count ≤ suc greatest_version
next_few None count small few = few
next_few (Some version) count small few = by_test (nat_lt version count)
  where
    by_test : (below : Bool) → (if below then count else suc version) ≤ suc greatest_version
    by_test true = few
    by_test false = let most = small version refl in omega (arith, most)

count_few : (listed : List (List ℕ)) → count_in listed ≤ suc greatest_version
count_few [] = omega arith
count_few (name ∷ listed) = next_few (commit_version name) (count_in listed) (λ version is. (named name version is).1) (count_few listed)

-- what stands under a version's name, of those that hold entries
commit_at : (objects : Objects) (schema : Schema) (version wanted : ℕ) (entries : List Entry) → HoldsFrom objects schema version entries → version ≤ wanted → wanted < version + length entries
    → (bytes : List ℕ) × (actions : List Action) × (object_at objects (commit_name wanted) ≡ Some bytes) × IsCommit bytes actions
commit_at objects schema version wanted [] holds low high = absurd (omega arith)
commit_at objects schema version wanted (entry ∷ entries) holds low high =
    elim (cases_eq wanted version) [
      | inl here ↦ (holds.0.0, holds.0.2.actions, rw here holds.0.1, holds.0.2.commit)
      | inr later ↦ commit_at objects schema (suc version) wanted entries holds.3 (omega (arith, later)) (omega arith)
    ]

-- the same bytes are a commit and none
never_none : (bytes : List ℕ) (actions : List Action) → IsCommit bytes actions → commit_of bytes ≡ None → ⊥
never_none bytes actions is none = let wrong : ◌≡◌ {A = Option (List Action)} (Some actions) None = sym (of_commit bytes actions is) ∙ none in cc

-- in a sound store whatever stands under a commit's name is one
pub commit_stands : (objects : Objects) → IsSound objects → (version : ℕ) (bytes : List ℕ) → version ≤ greatest_version → object_at objects (commit_name version) ≡ Some bytes → commit_of bytes ≡ None → ⊥
commit_stands objects sound version bytes small stands none =
    elim (cases_lt version (length sound.entries)) [
      | inl low ↦
          let there = commit_at objects sound.schema 0 version sound.entries sound.holds (omega arith) (omega (arith, low)) in
          let same : there.0 ≡ bytes = let both = sym there.2 ∙ stands in cc in
          never_none bytes there.1 (subst (λ (b : List ℕ). IsCommit b there.1) same there.3) none
      | inr past ↦ let wrong : ◌≡◌ {A = Option (List ℕ)} (Some bytes) None = sym stands ∙ sound.ends version past small in cc
    ]

-- the last call of a talk is one that is asked for behind the others
pub asked_last : (asks : Talk → Asked → Type 0) (before front : Talk) (call : Asked × Told) → AllAsked asks before (front ++ call ∷ []) → asks (before ++ front) call.0
asked_last asks before [] call asked = subst (λ (t : Talk). asks t call.0) (sym (append-nil before)) asked.0
asked_last asks before (first ∷ front) call asked = subst (λ (t : Talk). asks t call.0) (append_assoc before (first ∷ []) front) (asked_last asks (before ++ first ∷ []) front call asked.1)

-- What a load asks for is a commit where a sound store has it.
pub sought_commit : (objects : Objects) → IsSoundStore objects → (job : LoadJob) (listed : List (List ℕ)) (gets : Talk) (name bytes : List ℕ) → IsNextCommit job listed gets name ⊎ IsListedCheckpoint job listed gets name
    → object_at objects name ≡ Some bytes → commit_of bytes ≡ None → ⊥
sought_commit objects sound job listed gets name bytes (inl next) stands none =
    let few = count_few listed in
    let below = next.below in
    commit_stands objects sound.table next.version bytes (omega (arith, few, below)) (ap (object_at objects) (sym next.named) ∙ stands) none
sought_commit objects sound job listed gets name bytes (inr listed_so) stands none =
    let one = sound.checkpoints name listed_so.version bytes listed_so.named stands tt in
    never_none bytes one.checkpoint.actions one.checkpoint.lines none

-- at last nothing was got
abbrev pub GotNothing : Talk → (version : ℕ) → Type 0
GotNothing talk version = (front : Talk) × (talk ≡ front ++ (get_object (commit_name version), told_object None) ∷ [])

got_nothing : (objects : Objects) → IsSoundStore objects → (job : LoadJob) (before talk : Talk) (version : ℕ) → Bears objects talk → AllAsked (LoadAsks job before) [] talk → (front : Talk) (found : Option (List ℕ))
    → talk ≡ front ++ (get_object (commit_name version), told_object found) ∷ [] → IsNoCommit found → GotNothing talk version
got_nothing objects sound job before talk version borne asked front None talked none = (front, talked)
got_nothing objects sound job before talk version borne asked front (Some bytes) talked none =
    let stands = (bears_more objects front (get_object (commit_name version)) (told_object (Some bytes)) (subst (Bears objects) talked borne)).1 in
    let asks = asked_last (LoadAsks job before) [] front (get_object (commit_name version), told_object (Some bytes)) (subst (AllAsked (LoadAsks job before) []) talked asked) in
    absurd (sought_commit objects sound job asks.names asks.listed.gets (commit_name version) bytes asks.sought stands none)

pub refused_why : (objects : Objects) → IsSoundStore objects → (job : LoadJob) (before talk : Talk) (version : ℕ) → Bears objects talk → AllAsked (LoadAsks job before) [] talk → (listed : List (List ℕ))
    → ((count_in listed ≡ 0) × (version ≡ 0)) ⊎ GotNoCommit talk version ⊎ HasGap listed → ((count_in listed ≡ 0) × (version ≡ 0)) ⊎ GotNothing talk version ⊎ HasGap listed
refused_why objects sound job before talk version borne asked listed (inl none) = inl none
refused_why objects sound job before talk version borne asked listed (inr (inl got)) = inr (inl (got_nothing objects sound job before talk version borne asked got.front got.found got.talked got.none))
refused_why objects sound job before talk version borne asked listed (inr (inr gap)) = inr (inr gap)
