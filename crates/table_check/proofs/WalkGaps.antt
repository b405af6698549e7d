-- A commit or a checkpoint behind the first version without a commit makes a store unsound, and so does a checkpoint that
-- isn't that of its version.
use Rattle.std.proofs.Common.{◌≡◌, ℕ, zero, suc, ◌+◌, ◌<◌, ◌≤◌, false, true, List, [], ◌∷◌, ◌++◌, length, Option, None, Some, IsSome, Result, Err, Ok, refl, sym, ap, subst, ◌∙◌, arith, inl, inr, leb, add-one}
use Rattle.std.proofs.lemmas.Bool.{cases_Bool, cases_eq, cases_lt}
use Rattle.outcomes.specs.Results.{◌>>=◌}
use Rattle.delta_actions.specs.Action.{Action}
use Rattle.store_core.specs.Names.{commit_name, commit_version}
use Rattle.store_core.proofs.Callers.{named}
use Rattle.delta_checkpoint.specs.Checkpoints.{IsCheckpoint}
use Rattle.schema_tree.specs.Tree.{struct, no_fields}
use Rattle.store_core.specs.Objects.{Objects, names_of, object_at}
use Rattle.store_core.specs.ObjectLaws.{listed_iff_stands}
use Rattle.log_laws.specs.Sound.{IsSoundStore}
use Rattle.table_log.specs.Restoring.{checkpoint_version}
use Rattle.table_log.specs.Versions.{Version, commit_of, commits_in, version_by, version_read, versions_from}
use Rattle.table_model.specs.Table.{Entry}
use Rattle.table_model.proofs.Callers.{none_is_lawful}
use Rattle.table_store.specs.Holds.{HoldsFirst}
use Rattle.table_store.specs.Schema.{Schema}
use Rattle.table_check.specs.Below.{AreCheckpointsSoundBelow, IsSoundBelow}
use Rattle.table_check.specs.Named.{least_named, named_from, or_checkpoint, unless_before, version_named}
use Rattle.table_check.specs.Walked.{IsWalked}
use Rattle.table_check.proofs.Counts.{Among, among_to}
use Rattle.table_check.proofs.NameLists.{least_low, one_of}
use Rattle.table_check.proofs.WalkEnds.{ends_below, ends_sound}

-- ---- the least version that is told is some name's

told_name : (from : ℕ) (found : Option ℕ) (least : ℕ) → unless_before from found ≡ Some least → found ≡ Some least
told_name from None least is = absurd cc
told_name from (Some version) least is =
    elim (cases_Bool (leb from version)) [
      | inl fits ↦ rw fits at is
      | inr past ↦ let none : None ≡ Some least = rw past at is in absurd cc
    ]

least_name : (from : ℕ) (names : List (List ℕ)) (least : ℕ) → least_named from names ≡ Some least → (name : List ℕ) × Among name names × (version_named name ≡ Some least)
least_name from [] least is = absurd cc
least_name from (name ∷ names) least is =
    elim (one_of (named_from from name) (least_named from names) least is) [
      | inl first ↦ (name, inl refl, told_name from (version_named name) least first)
      | inr later ↦ let found = least_name from names least later in (found.0, inr found.1, found.2)
    ]

some_of : {A : Type 0} (found : Option A) → IsSome found → (x : A) × (found ≡ Some x)
some_of None some = absurd cc
some_of (Some x) some = (x, refl)

module _ (objects : Objects) where
  -- what is listed stands
  stands : (name : List ℕ) → Among name (names_of objects) → (bytes : List ℕ) × (object_at objects name ≡ Some bytes)
  stands name among = some_of (object_at objects name) ((listed_iff_stands objects name).0 (among_to name (names_of objects) among))

  -- ---- commits that were read stand

  behind_first : (version : ℕ) (later : List Version) (commits : List (List Action)) (read : Option (List Action)) → commits_in version (version_read read ∷ later) ≡ Ok commits
      → (rest : List (List Action)) × (commits_in (suc version) later ≡ Ok rest)
  behind_first version later commits None is = absurd cc
  behind_first version later commits (Some actions) is = by_rest (commits_in (suc version) later) refl is
    where
      by_rest : (read : Result (List (List Action)) ℕ) → commits_in (suc version) later ≡ read → (read >>= λ others. Ok (actions ∷ others)) ≡ Ok commits → (rest : List (List Action)) × (commits_in (suc version) later ≡ Ok rest)
      by_rest (Ok rest) e told = (rest, e)
      by_rest (Err wrong) e told = absurd cc

  first_read : (found : Option (List ℕ)) (version : ℕ) (later : List Version) (commits : List (List Action)) → commits_in version (version_by found ∷ later) ≡ Ok commits
      → IsSome found × ((rest : List (List Action)) × (commits_in (suc version) later ≡ Ok rest))
  first_read None version later commits is = absurd cc
  first_read (Some bytes) version later commits is = (refl, behind_first version later commits (commit_of bytes) is)

  none_missing : (count version wanted : ℕ) (commits : List (List Action)) → commits_in version (versions_from count version objects) ≡ Ok commits → version ≤ wanted → wanted < version + count
      → object_at objects (commit_name wanted) ≡ None → ⊥
  unfolding versions_from
  none_missing zero version wanted commits read low high none = absurd (omega (arith, low, high))
  none_missing (suc count) version wanted commits read low high none =
      let first = first_read (object_at objects (commit_name version)) version (versions_from count (version + 1) objects) commits read in
      elim (cases_eq wanted version) [
        | inl here ↦
            let absent : object_at objects (commit_name version) ≡ None = subst (λ (v : ℕ). object_at objects (commit_name v) ≡ None) here none in
            let no : false ≡ true = rw absent at first.0 in absurd cc
        | inr other ↦
            none_missing count (suc version) wanted first.1.0 (subst (λ (v : ℕ). commits_in (suc version) (versions_from count v objects) ≡ Ok first.1.0) (add-one version) first.1.1) (omega (arith, low, other)) (omega (arith, high)) none
      ]

  -- so do those of entries
  pub none_first : (schema : Schema) (version wanted : ℕ) (entries : List Entry) → HoldsFirst objects schema version entries → version ≤ wanted → wanted < version + length entries → object_at objects (commit_name wanted) ≡ None → ⊥
  none_first schema version wanted [] stand low high none = omega (arith, low, high)
  none_first schema version wanted (entry ∷ entries) stand low high none =
      elim (cases_eq wanted version) [
        | inl here ↦
            let absent : object_at objects (commit_name version) ≡ None = subst (λ (v : ℕ). object_at objects (commit_name v) ≡ None) here none in
            let wrong : None ≡ Some stand.0.0 = sym absent ∙ stand.0.1 in absurd cc
        | inr other ↦ none_first schema (suc version) wanted entries stand.3 (omega (arith, low, other)) (omega (arith, high)) none
      ]

  -- ---- what stands behind a gap

  module _ (from least : ℕ) (none : object_at objects (commit_name from) ≡ None) (low : from ≤ least) (sound : IsSoundBelow objects (suc least)) where
    few : length sound.entries ≤ from
    few = elim (cases_lt from (length sound.entries)) [
      | inl long ↦ absurd (none_first sound.schema 0 from sound.entries sound.stand (omega arith) (omega (arith, long)) none)
      | inr short ↦ short
    ]

    by_name : (name bytes : List ℕ) → object_at objects name ≡ Some bytes → (told : Option ℕ) → commit_version name ≡ told → or_checkpoint told name ≡ Some least → ⊥
    by_name name bytes there (Some version) is same =
        let one : version ≡ least = cc in
        let own = named name version is in
        let absent : object_at objects (commit_name version) ≡ None = sound.ends version (omega (arith, few, low, one)) (omega (arith, one)) own.1 in
        let wrong : None ≡ Some bytes = sym absent ∙ (ap (object_at objects) own.0 ∙ there) in absurd cc
    by_name name bytes there None is told =
        let checkpoint = sound.checkpoints name least bytes told (omega arith) there in
        none_missing (suc least) 0 from checkpoint.commits checkpoint.stand (omega arith) (omega (arith, low)) none

  -- Where a version has no commit, and the least of the versions from there on that names tell is this one, the store isn't sound up to it.
  pub gap_unsound : (from least : ℕ) → object_at objects (commit_name from) ≡ None → least_named from (names_of objects) ≡ Some least → IsSoundBelow objects (suc least) → ⊥
  gap_unsound from least none is sound =
      let found = least_name from (names_of objects) least is in
      let there = stands found.0 found.1 in
      by_name from least none (least_low from (names_of objects) least is) sound found.0 there.0 there.1 (commit_version found.0) refl found.2

  -- ---- a checkpoint that isn't its version's

  pub checkpoint_unsound : (schema : Schema) (version : ℕ) (log : List (List Action)) (name bytes : List ℕ) → IsWalked objects schema (suc version) log → checkpoint_version name ≡ Some version → object_at objects name ≡ Some bytes
      → (IsCheckpoint bytes version log → ⊥) → IsSoundBelow objects (suc version) → ⊥
  checkpoint_unsound schema version log name bytes walked told there none sound =
      let one = sound.checkpoints name version bytes told (omega arith) there in
      let both = sym one.stand ∙ walked.read in
      let same : one.commits ≡ log = cc in
      none (subst (IsCheckpoint bytes version) same one.checkpoint)

  -- ---- a store without a log

  no_checkpoints : AreCheckpointsSoundBelow objects 0
  no_checkpoints name at bytes told before there = absurd (omega (arith, before))

  -- Where no name tells a version the store is sound.
  pub nothing_sound : least_named 0 (names_of objects) ≡ None → IsSoundStore objects
  nothing_sound none = ends_sound objects 0 (struct no_fields) [] tt none_is_lawful refl no_checkpoints (omega arith) none

  -- Else it is sound below the least that names tell.
  pub nothing_below : (least : ℕ) → least_named 0 (names_of objects) ≡ Some least → IsSoundBelow objects least
  nothing_below least is = ends_below objects 0 (struct no_fields) [] tt none_is_lawful refl no_checkpoints least is

  -- So each store is below version 0.
  pub zero_below : IsSoundBelow objects 0
  zero_below = record {
    schema = struct no_fields;
    entries = [];
    stand = tt;
    lawful = none_is_lawful;
    few = omega arith;
    ends = λ later behind before fits. absurd (omega (arith, before));
    checkpoints = no_checkpoints;
  }
