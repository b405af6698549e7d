-- Names that are visible in front of a version.
use Rattle.std.proofs.Common.{◌≡◌, ◌≤◌, ◌-◌, ◌^◌, ℕ, List, Bool, Option, Some, None, refl, ap, arith}
use Rattle.std.specs.Prelude.{if◌then◌else◌}
use Rattle.std.proofs.lemmas.Bool.{lt-ltb}
use Rattle.store_core.specs.Names.{greatest_version}
use Rattle.table_log.specs.Restoring.{checkpoint_version, version_below}
use Rattle.table_log.proofs.Callers.{checkpoint_named}

-- the version of each checkpoint is below the greatest number
pub below_all : (name : List ℕ) → version_below (2 ^ 64 - 1) (checkpoint_version name) ≡ checkpoint_version name
below_all name = by_found (checkpoint_version name) refl
  where
    by_found : (found : Option ℕ) → checkpoint_version name ≡ found → version_below (2 ^ 64 - 1) found ≡ found
    by_found None e = refl
    by_found (Some version) e =
        let small : version ≤ greatest_version = (checkpoint_named name version e).small in
        ap (λ (b : Bool). if b then Some version else None) (lt-ltb version (2 ^ 64 - 1) (omega (arith, small)))
