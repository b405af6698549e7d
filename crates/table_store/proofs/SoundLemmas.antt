-- What a put leaves of a sound store.
use Rattle.std.proofs.Common.{◌≡◌, ◌≢◌, ℕ, suc, ◌<◌, ◌≤◌, List, [], ◌∷◌, ◌++◌, length, Option, None, Some, refl, sym, ap, subst, ◌∙◌, arith, length-append}
use Rattle.store_core.specs.Objects.{Objects, object_at, with_object}
use Rattle.store_core.specs.ObjectLaws.{object_at-with_object_other, with_object_stands}
use Rattle.store_core.specs.Names.{commit_name, greatest_version}
use Rattle.delta_actions.specs.Names.{data_file_name}
use Rattle.table_store.specs.Holds.{EndsAt, Holds, IsFreeIn}
use Rattle.table_store.specs.Sound.{IsSound, IsAdmissible}
use Rattle.table_store.proofs.HeldLemmas.{HoldsFirst-end}
use Rattle.table_store.proofs.HoldingPuts.{HoldsFrom-commit, HoldsFrom-data_file}
use Rattle.table_store.proofs.HoldingSchema.{only_table}
use Rattle.table_store.proofs.HoldingNames.{commit_name-data_file_name}
use Rattle.table_store.proofs.NamesOnce.{commit_name-once}

-- the admissible commit of a version whose name is free is one entry more
sound_with_commit : (objects : Objects) (version : ℕ) (bytes : List ℕ) → object_at objects (commit_name version) ≡ None
    → (sound : IsSound objects) (new : IsAdmissible objects version bytes) → IsSound (with_object objects (commit_name version) bytes)
sound_with_commit objects version bytes free sound new = record {
  schema = new.schema;
  entries = new.entries ++ new.entry ∷ [];
  holds = HoldsFrom-commit objects new.schema 0 version new.entries new.entry bytes (omega (arith, new.at)) holds new.commit new.files behind;
  lawful = new.lawful;
  ends = ends;
}
  where
    holds : Holds objects new.schema new.entries
    holds = HoldsFirst-end objects new.schema 0 version new.entries (omega (arith, new.at)) new.stand (omega (arith, new.fits), λ fits. free)

    as_long : length sound.entries ≡ length new.entries
    as_long = ap length (only_table objects sound.schema new.schema sound.entries new.entries sound.lawful.begins sound.holds holds)

    behind : EndsAt objects (suc version)
    behind = (omega (arith, new.fits), λ fits. sound.ends (suc version) (omega (arith, as_long, new.at)) fits)

    ends : (later : ℕ) → length (new.entries ++ new.entry ∷ []) ≤ later → later ≤ greatest_version → object_at (with_object objects (commit_name version) bytes) (commit_name later) ≡ None
    ends later behind few =
        let beyond : version < later = omega (arith, behind, new.at, length-append new.entries (new.entry ∷ [])) in
        let apart : commit_name later ≢ commit_name version = λ same. omega (arith, beyond, commit_name-once version later (omega (arith, new.fits)) (sym same)) in
        object_at-with_object_other objects (commit_name version) bytes (commit_name later) apart ∙ sound.ends later (omega (arith, beyond, as_long, new.at)) few

-- An admissible commit leaves a sound store sound.
pub sound_commit : (objects : Objects) (version : ℕ) (bytes : List ℕ) → IsSound objects → IsAdmissible objects version bytes → IsSound (with_object objects (commit_name version) bytes)
sound_commit objects version bytes sound new = by_name (object_at objects (commit_name version)) refl
  where
    by_name : (found : Option (List ℕ)) → object_at objects (commit_name version) ≡ found → IsSound (with_object objects (commit_name version) bytes)
    by_name (Some taken) is = subst IsSound (sym (with_object_stands objects (commit_name version) bytes (rw is refl))) sound
    by_name None is = sound_with_commit objects version bytes is sound new

-- A data file leaves a sound store sound.
pub sound_data_file : (objects : Objects) (application bytes : List ℕ) (number : ℕ) → IsFreeIn objects (data_file_name application number) → IsSound objects → IsSound (with_object objects (data_file_name application number) bytes)
sound_data_file objects application bytes number free sound = record {
  schema = sound.schema;
  entries = sound.entries;
  holds = HoldsFrom-data_file objects sound.schema 0 sound.entries application bytes number (free sound.schema sound.entries sound.holds) sound.holds;
  lawful = sound.lawful;
  ends = ends;
}
  where
    ends : (version : ℕ) → length sound.entries ≤ version → version ≤ greatest_version → object_at (with_object objects (data_file_name application number) bytes) (commit_name version) ≡ None
    ends version behind few =
        let apart : commit_name version ≢ data_file_name application number = commit_name-data_file_name version application number in
        object_at-with_object_other objects (data_file_name application number) bytes (commit_name version) apart ∙ sound.ends version behind few
