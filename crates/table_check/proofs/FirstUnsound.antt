-- An unsound store has a first unsound version.
use Rattle.std.proofs.Common.{ℕ, zero, suc}
use Rattle.store_core.specs.Names.{greatest_version}
use Rattle.log_laws.specs.Sound.{IsSoundStore}
use Rattle.store_core.specs.Objects.{Objects}
use Rattle.table_check.specs.Below.{IsFirstUnsound, IsSoundBelow}
use Rattle.table_check.proofs.WalkEnds.{whole_below}
use Rattle.table_check.proofs.WalkGaps.{zero_below}

module _ (objects : Objects) (none : (version : ℕ) → IsFirstUnsound objects version → ⊥) where
  -- where no version is the first unsound one, none can be unsound
  never_unsound : (version : ℕ) → (IsSoundBelow objects version → ⊥) → ⊥
  never_unsound zero broken = broken (zero_below objects)
  never_unsound (suc version) broken = never_unsound version (λ below. none version (below, broken))

  pub no_first : (IsSoundStore objects → ⊥) → ⊥
  no_first unsound = never_unsound (suc greatest_version) (λ below. unsound (whole_below objects below))
