-- How many commits stand behind a call.
use Rattle.std.proofs.Common.{◌≡◌, ◌≢◌, ◌∙◌, ℕ, suc, ◌+◌, ◌<◌, ◌≤◌, true, false, List, [], ◌∷◌, length, Option, None, Some, IsSome, is_some, refl, sym, ap, subst, arith, inl, inr}
use Rattle.std.proofs.lemmas.Bool.{cases_eq, cases_lt}
use Rattle.store_core.specs.Names.{commit_name, commit_version, greatest_version}
use Rattle.store_core.specs.ObjectLaws.{object_at-with_object_kept, object_at-with_object_other, object_at-with_object_same}
use Rattle.store_core.specs.Objects.{Objects, object_at, with_object}
use Rattle.store_core.proofs.Callers.{own_version}
use Rattle.table_log.specs.Counts.{commit_count}
use Rattle.table_log.specs.Restoring.{checkpoint_version}
use Rattle.table_log.proofs.Callers.{commit_is_none, count_is, stands_below}
use Rattle.table_model.specs.Table.{Entry}
use Rattle.table_store.specs.Holds.{HoldsFrom}
use Rattle.table_store.specs.Schema.{Schema}
use Rattle.table_store.specs.Sound.{IsAdmissible, IsSound}
use Rattle.log_laws.proofs.Callers.{HoldsFrom-fit, sound_count}
use Rattle.log_book.specs.Making.{MayPutBeside}

-- each commit of a table stands
stands_at : (objects : Objects) (schema : Schema) (version wanted : ℕ) (entries : List Entry) → HoldsFrom objects schema version entries → version ≤ wanted → wanted < version + length entries
    → IsSome (object_at objects (commit_name wanted))
stands_at objects schema version wanted [] holds low high = absurd (omega arith)
stands_at objects schema version wanted (entry ∷ entries) holds low high =
    elim (cases_eq wanted version) [
      | inl here ↦ rw (here, holds.0.1) refl
      | inr later ↦ stands_at objects schema (suc version) wanted entries holds.3 (omega (arith, later)) (omega arith)
    ]

-- what stands, stands behind a put
still_stands : (objects : Objects) (name bytes other : List ℕ) → IsSome (object_at objects other) → IsSome (object_at (with_object objects name bytes) other)
still_stands objects name bytes other stands = by_found (object_at objects other) refl stands
  where
    by_found : (found : Option (List ℕ)) → object_at objects other ≡ found → IsSome found → IsSome (object_at (with_object objects name bytes) other)
    by_found None is some = absurd cc
    by_found (Some kept) is some = ap is_some (object_at-with_object_kept objects name bytes other kept is)

-- a name of no commit is apart from each commit's
apart : (name : List ℕ) → commit_version name ≡ None → (version : ℕ) → version ≤ greatest_version → commit_name version ≢ name
apart name none version fits same = let wrong : None ≡ Some version = sym none ∙ (ap commit_version (sym same) ∙ own_version version fits) in absurd cc

-- so is a checkpoint's
apart_checkpoint : (name : List ℕ) (own : ℕ) → checkpoint_version name ≡ Some own → (version : ℕ) → version ≤ greatest_version → commit_name version ≢ name
apart_checkpoint name own is version fits same = let wrong : None ≡ Some own = sym (commit_is_none version) ∙ (ap checkpoint_version same ∙ is) in absurd cc

module _ (objects : Objects) (sound : IsSound objects) where
  entries_fit : length sound.entries ≤ suc greatest_version
  entries_fit = omega (arith, HoldsFrom-fit objects sound.schema 0 sound.entries sound.holds)

  -- each commit that is counted stands
  pub commits_stand : (version : ℕ) → version < commit_count objects → IsSome (object_at objects (commit_name version))
  commits_stand version low = stands_at objects sound.schema 0 version sound.entries sound.holds (omega arith) (omega (arith, low, sound_count objects sound))

  -- and has a version that a commit can have
  pub count_fits : commit_count objects ≤ suc greatest_version
  count_fits = omega (arith, entries_fit, sound_count objects sound)

  -- what isn't a commit's leaves the count
  count_apart : (name bytes : List ℕ) → ((version : ℕ) → version ≤ greatest_version → commit_name version ≢ name) → commit_count (with_object objects name bytes) ≡ commit_count objects
  count_apart name bytes other = count_is (with_object objects name bytes) (commit_count objects) count_fits below newest
    where
      below : (version : ℕ) → version ≤ greatest_version → IsSome (object_at (with_object objects name bytes) (commit_name version)) → version < commit_count objects
      below version fits stands = stands_below objects version fits (sym (ap is_some (object_at-with_object_other objects name bytes (commit_name version) (other version fits))) ∙ stands)

      newest : (version : ℕ) → suc version ≡ commit_count objects → IsSome (object_at (with_object objects name bytes) (commit_name version))
      newest version is = still_stands objects name bytes (commit_name version) (commits_stand version (omega (arith, is)))

  -- what is put beside the commits leaves their count
  pub count_beside : (name bytes : List ℕ) → MayPutBeside objects name bytes → commit_count (with_object objects name bytes) ≡ commit_count objects
  count_beside name bytes (inl beside) = count_apart name bytes (apart name beside.no_commit)
  count_beside name bytes (inr checkpoint) = count_apart name bytes (apart_checkpoint name checkpoint.0 checkpoint.1)

  -- a commit that is created comes behind all others
  pub count_created : (version : ℕ) (bytes : List ℕ) → IsAdmissible objects version bytes → object_at objects (commit_name version) ≡ None → commit_count (with_object objects (commit_name version) bytes) ≡ suc version
  count_created version bytes new absent = count_is (with_object objects (commit_name version) bytes) (suc version) (omega (arith, new.fits)) below newest
    where
      low : commit_count objects ≤ version
      low = elim (cases_lt version (commit_count objects)) [
        | inl less ↦ let none : false ≡ true = rw absent at (commits_stand version less) in absurd cc
        | inr past ↦ past
      ]

      below : (other : ℕ) → other ≤ greatest_version → IsSome (object_at (with_object objects (commit_name version) bytes) (commit_name other)) → other < suc version
      below other fits stands =
          elim (cases_eq other version) [
            | inl here ↦ omega (arith, here)
            | inr away ↦
                let differ : commit_name other ≢ commit_name version = λ same. away (let one : Some other ≡ Some version = sym (own_version other fits) ∙ (ap commit_version same ∙ own_version version new.fits) in cc) in
                let less : other < commit_count objects = stands_below objects other fits (sym (ap is_some (object_at-with_object_other objects (commit_name version) bytes (commit_name other) differ)) ∙ stands) in
                omega (arith, less, low)
          ]

      newest : (other : ℕ) → suc other ≡ suc version → IsSome (object_at (with_object objects (commit_name version) bytes) (commit_name other))
      newest other is =
          let same : version ≡ other = omega (arith, is) in
          subst (λ (n : ℕ). IsSome (object_at (with_object objects (commit_name version) bytes) (commit_name n))) same (ap is_some (object_at-with_object_same objects (commit_name version) bytes))
