-- How many versions a log has where a walk over it ends.
use Rattle.std.proofs.Common.{◌≡◌, ℕ, suc, ◌<◌, ◌≤◌, List, ◌∷◌, Option, None, Some, IsSome, refl, sym, ◌∙◌, arith, inl, inr}
use Rattle.std.proofs.lemmas.Bool.{cases_lt}
use Rattle.delta_actions.specs.Action.{Action}
use Rattle.store_core.specs.Names.{commit_name, greatest_version}
use Rattle.store_core.specs.Objects.{Objects, names_of, object_at}
use Rattle.table_log.specs.Counts.{commit_count}
use Rattle.table_log.proofs.Callers.{count_is}
use Rattle.table_model.specs.Table.{creation}
use Rattle.table_store.specs.Schema.{Schema}
use Rattle.table_check.specs.Named.{least_named}
use Rattle.table_check.specs.Walked.{IsWalked}
use Rattle.table_check.proofs.WalkEnds.{told_commit}
use Rattle.table_check.proofs.WalkGaps.{none_first}

module _ (objects : Objects) (version : ℕ) (none : least_named version (names_of objects) ≡ None) where
  -- where no name tells of a version or a later one, no commit of one stands
  none_later : (later : ℕ) → later ≤ greatest_version → (found : Option (List ℕ)) → object_at objects (commit_name later) ≡ found → IsSome found → later < version
  none_later later fits None is some = absurd cc
  none_later later fits (Some bytes) is some =
      elim (cases_lt later version) [
        | inl low ↦ low
        | inr past ↦ let told = told_commit objects version later bytes fits is past in let wrong : None ≡ Some told.0 = sym none ∙ told.1 in absurd cc
      ]

  counted : version ≤ suc greatest_version → ((newest : ℕ) → suc newest ≡ version → IsSome (object_at objects (commit_name newest))) → commit_count objects ≡ version
  counted fits newest = count_is objects version fits (λ later few some. none_later later few (object_at objects (commit_name later)) refl some) newest

  -- Behind a walk that comes to such a version there are as many.
  pub walk_counted : (schema : Schema) (log : List (List Action)) → IsWalked objects schema version log → version ≤ suc greatest_version → commit_count objects ≡ version
  walk_counted schema log walked fits = counted fits (λ newest is. stands newest is (object_at objects (commit_name newest)) refl)
    where
      stands : (newest : ℕ) → suc newest ≡ version → (found : Option (List ℕ)) → object_at objects (commit_name newest) ≡ found → IsSome found
      stands newest is None absent = absurd (none_first objects schema 0 newest (creation ∷ walked.later) walked.stand (omega arith) (omega (arith, is, walked.at)) absent)
      stands newest is (Some bytes) there = refl

-- Where names tell no version there is none.
pub nothing_counted : (objects : Objects) → least_named 0 (names_of objects) ≡ None → commit_count objects ≡ 0
nothing_counted objects none = counted objects 0 none (omega arith) (λ newest is. absurd (omega (arith, is)))
