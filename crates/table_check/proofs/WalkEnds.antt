-- What is told where a walk ends.
use Rattle.std.proofs.Common.{◌≡◌, ℕ, suc, ◌<◌, ◌≤◌, List, [], ◌∷◌, ◌++◌, length, take, drop, Option, None, Some, IsSome, refl, sym, ap, subst, ◌∙◌, arith, inl, inr}
use Rattle.std.proofs.lemmas.Bool.{cases_lt}
use Rattle.std.proofs.lemmas.List.{length-take-le, take-append-drop}
use Rattle.store_core.specs.Names.{commit_name, commit_version, greatest_version}
use Rattle.store_core.proofs.Callers.{named, own_version}
use Rattle.store_core.specs.Objects.{Objects, names_of, object_at}
use Rattle.store_core.specs.ObjectLaws.{listed_iff_stands}
use Rattle.log_laws.specs.Sound.{IsSoundStore}
use Rattle.log_laws.proofs.Callers.{held_first}
use Rattle.table_log.specs.Restoring.{IsSoundCheckpoint, checkpoint_version}
use Rattle.table_log.proofs.Callers.{checkpoint_named, commit_is_none}
use Rattle.table_model.specs.Lawful.{IsLawful}
use Rattle.table_model.specs.Table.{Entry}
use Rattle.table_model.proofs.Callers.{Begins-front, lawful-front}
use Rattle.table_store.specs.Holds.{HoldsFirst}
use Rattle.table_store.specs.Schema.{Schema}
use Rattle.table_store.proofs.HeldLemmas.{HoldsFirst-end}
use Rattle.table_check.specs.Below.{AreCheckpointsSoundBelow, IsFirstUnsound, IsSoundBelow}
use Rattle.table_check.specs.Named.{least_named, or_checkpoint, version_named}
use Rattle.table_check.proofs.Counts.{Among, among_from}
use Rattle.table_check.proofs.NameLists.{least_is, least_low}

-- ---- what names tell

-- a commit's name tells its version
commit_told : (version : ℕ) → version ≤ greatest_version → version_named (commit_name version) ≡ Some version
commit_told version fits = ap (λ (o : Option ℕ). or_checkpoint o (commit_name version)) (own_version version fits)

-- a checkpoint's name is no commit's
no_commit : (name : List ℕ) (version : ℕ) → checkpoint_version name ≡ Some version → (found : Option ℕ) → commit_version name ≡ found → found ≡ None
no_commit name version told None is = refl
no_commit name version told (Some other) is =
    let none : checkpoint_version name ≡ None = ap checkpoint_version (sym (named name other is).0) ∙ commit_is_none other in
    let wrong : None ≡ Some version = sym none ∙ told in absurd cc

checkpoint_told : (name : List ℕ) (version : ℕ) → checkpoint_version name ≡ Some version → version_named name ≡ Some version
checkpoint_told name version told = ap (λ (o : Option ℕ). or_checkpoint o name) (no_commit name version told (commit_version name) refl) ∙ told

module _ (objects : Objects) where
  -- what stands is listed
  pub listed : (name bytes : List ℕ) → object_at objects name ≡ Some bytes → Among name (names_of objects)
  listed name bytes there = among_from name (names_of objects) ((listed_iff_stands objects name).1 (subst IsSome (sym there) refl))

  module _ (from : ℕ) where
    -- what stands isn't behind the least that is told
    pub told_commit : (version : ℕ) (bytes : List ℕ) → version ≤ greatest_version → object_at objects (commit_name version) ≡ Some bytes → from ≤ version
        → (least : ℕ) × (least_named from (names_of objects) ≡ Some least) × (least ≤ version)
    told_commit version bytes fits there low = least_is from (names_of objects) (commit_name version) version (listed (commit_name version) bytes there) (commit_told version fits) low

    told_checkpoint : (name : List ℕ) (version : ℕ) (bytes : List ℕ) → checkpoint_version name ≡ Some version → object_at objects name ≡ Some bytes → from ≤ version
        → (least : ℕ) × (least_named from (names_of objects) ≡ Some least) × (least ≤ version)
    told_checkpoint name version bytes told there low = least_is from (names_of objects) name version (listed name bytes there) (checkpoint_told name version told) low

    module _ (schema : Schema) (entries : List Entry) (stand : HoldsFirst objects schema 0 entries) (lawful : IsLawful entries) (long : length entries ≡ from) (below : AreCheckpointsSoundBelow objects from) where
      -- where nothing is told behind their end, nothing stands there
      no_later : least_named from (names_of objects) ≡ None → (later : ℕ) → from ≤ later → later ≤ greatest_version → (found : Option (List ℕ)) → object_at objects (commit_name later) ≡ found → found ≡ None
      no_later none later low fits None is = refl
      no_later none later low fits (Some bytes) is = let told = told_commit later bytes fits is low in let wrong : None ≡ Some told.0 = sym none ∙ told.1 in absurd cc

      checkpoints_all : least_named from (names_of objects) ≡ None → (name : List ℕ) (version : ℕ) (bytes : List ℕ) → checkpoint_version name ≡ Some version → object_at objects name ≡ Some bytes → IsSoundCheckpoint objects version bytes
      checkpoints_all none name version bytes told there =
          elim (cases_lt version from) [
            | inl low ↦ below name version bytes told low there
            | inr past ↦ let least = told_checkpoint name version bytes told there past in let wrong : None ≡ Some least.0 = sym none ∙ least.1 in absurd cc
          ]

      -- Then the store is sound.
      pub ends_sound : from ≤ suc greatest_version → least_named from (names_of objects) ≡ None → IsSoundStore objects
      ends_sound fits none = record {
        table = record {
          schema = schema;
          entries = entries;
          holds = HoldsFirst-end objects schema 0 from entries (omega (arith, long)) stand (fits, λ few. no_later none from (omega arith) few (object_at objects (commit_name from)) refl);
          lawful = lawful;
          ends = λ later behind few. no_later none later (omega (arith, long, behind)) few (object_at objects (commit_name later)) refl;
        };
        checkpoints = λ name version bytes told there every. checkpoints_all none name version bytes told there;
      }

      none_between : (least : ℕ) → least_named from (names_of objects) ≡ Some least → (later : ℕ) → from ≤ later → later < least → later ≤ greatest_version → (found : Option (List ℕ)) → object_at objects (commit_name later) ≡ found → found ≡ None
      none_between least is later low before fits None there = refl
      none_between least is later low before fits (Some bytes) there =
          let told = told_commit later bytes fits there low in
          let same : Some least ≡ Some told.0 = sym is ∙ told.1 in
          let one : least ≡ told.0 = cc in
          absurd (omega (arith, one, told.2, before))

      checkpoints_before : (least : ℕ) → least_named from (names_of objects) ≡ Some least → AreCheckpointsSoundBelow objects least
      checkpoints_before least is name at bytes told before there =
          elim (cases_lt at from) [
            | inl low ↦ below name at bytes told low there
            | inr past ↦
                let found = told_checkpoint name at bytes told there past in
                let same : Some least ≡ Some found.0 = sym is ∙ found.1 in
                let one : least ≡ found.0 = cc in
                absurd (omega (arith, one, found.2, before))
          ]

      -- And below the least that is told nothing breaks it.
      pub ends_below : (least : ℕ) → least_named from (names_of objects) ≡ Some least → IsSoundBelow objects least
      ends_below least is = record {
        schema = schema;
        entries = entries;
        stand = stand;
        lawful = lawful;
        few = omega (arith, long, least_low from (names_of objects) least is);
        ends = λ later behind before fits. none_between least is later (omega (arith, long, behind)) before fits (object_at objects (commit_name later)) refl;
        checkpoints = checkpoints_before least is;
      }

  -- ---- fronts

  first_of : (schema : Schema) (version : ℕ) (entries later : List Entry) → HoldsFirst objects schema version (entries ++ later) → HoldsFirst objects schema version entries
  first_of schema version [] later stand = tt
  first_of schema version (entry ∷ entries) later stand = (stand.0, stand.1, stand.2, first_of schema (suc version) entries later stand.3)

  -- Below a version that isn't behind the first commits, these break nothing.
  pub front_below : (schema : Schema) (entries : List Entry) (version : ℕ) → HoldsFirst objects schema 0 entries → IsLawful entries → version ≤ length entries → AreCheckpointsSoundBelow objects version → IsSoundBelow objects version
  front_below schema entries version stand lawful short below =
      let parts : entries ≡ take version entries ++ drop version entries = sym (take-append-drop version entries) in
      let long : length (take version entries) ≡ version = length-take-le version entries short in
      let whole : IsLawful (take version entries ++ drop version entries) = subst IsLawful parts lawful in
      record {
        schema = schema;
        entries = take version entries;
        stand = first_of schema 0 (take version entries) (drop version entries) (subst (HoldsFirst objects schema 0) parts stand);
        lawful = lawful-front (take version entries) (drop version entries) whole (Begins-front (take version entries) (drop version entries) whole.begins);
        few = omega (arith, long);
        ends = λ later behind before fits. absurd (omega (arith, long, behind, before));
        checkpoints = below;
      }

  -- What is sound below a version is so below each lesser one.
  pub lesser_below : (version other : ℕ) → version ≤ other → IsSoundBelow objects other → IsSoundBelow objects version
  lesser_below version other low sound =
      elim (cases_lt version (length sound.entries)) [
        | inl short ↦ front_below sound.schema sound.entries version sound.stand sound.lawful (omega (arith, short)) (λ name at bytes told before there. sound.checkpoints name at bytes told (omega (arith, before, low)) there)
        | inr whole ↦ record {
          schema = sound.schema;
          entries = sound.entries;
          stand = sound.stand;
          lawful = sound.lawful;
          few = whole;
          ends = λ later behind before fits. sound.ends later behind (omega (arith, before, low)) fits;
          checkpoints = λ name at bytes told before there. sound.checkpoints name at bytes told (omega (arith, before, low)) there;
        }
      ]

  -- A store that is sound below the version behind the greatest is sound.
  pub whole_below : IsSoundBelow objects (suc greatest_version) → IsSoundStore objects
  whole_below sound = record {
    table = record {
      schema = sound.schema;
      entries = sound.entries;
      holds = HoldsFirst-end objects sound.schema 0 (length sound.entries) sound.entries (omega arith) sound.stand
          (sound.few, λ fits. sound.ends (length sound.entries) (omega arith) (omega (arith, fits)) fits);
      lawful = sound.lawful;
      ends = λ later behind fits. sound.ends later behind (omega (arith, fits)) fits;
    };
    checkpoints = λ name version bytes told there every. sound.checkpoints name version bytes told (omega (arith, (checkpoint_named name version told).small)) there;
  }

  -- A sound store is so below each version.
  pub sound_below : (version : ℕ) → IsSoundStore objects → IsSoundBelow objects version
  sound_below version sound =
      elim (cases_lt (length sound.table.entries) version) [
        | inl whole ↦ record {
          schema = sound.table.schema;
          entries = sound.table.entries;
          stand = held_first objects sound.table.schema 0 sound.table.entries sound.table.holds;
          lawful = sound.table.lawful;
          few = omega (arith, whole);
          ends = λ later behind before fits. sound.table.ends later behind fits;
          checkpoints = λ name at bytes told before there. sound.checkpoints name at bytes told there tt;
        }
        | inr short ↦ front_below sound.table.schema sound.table.entries version (held_first objects sound.table.schema 0 sound.table.entries sound.table.holds) sound.table.lawful short
            (λ name at bytes told before there. sound.checkpoints name at bytes told there tt)
      ]

  -- Of two first unsound versions neither is below the other.
  pub one_first : (version other : ℕ) → IsFirstUnsound objects version → IsFirstUnsound objects other → version ≡ other
  one_first version other first second =
      elim (cases_lt version other) [
        | inl before ↦ absurd (first.1 (lesser_below (suc version) other (omega (arith, before)) second.0))
        | inr past ↦ elim (cases_lt other version) [
          | inl behind ↦ absurd (second.1 (lesser_below (suc other) version (omega (arith, behind)) first.0))
          | inr same ↦ omega (arith, past, same)
        ]
      ]
