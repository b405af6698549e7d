-- What a folder is behind calls that only look, and how often one failed.
use Rattle.std.specs.Prelude.{◌≡◌, ℕ, Result}
use Rattle.store_core.specs.Objects.{Objects}
use Rattle.table_folder.specs.Faults.{CountsLoad, IsNotLoaded}
use Rattle.table_folder.specs.declared.fault.LoadFault.{LoadFault}

-- A folder before and behind them, and what came of them. It is steady where it changes by these calls alone.
pub record OnlyLooks {F X : Type 0} (objects : F → Objects) (is_steady is_reliable : F → Type 0) (fault_count : F → ℕ) (old new : F) (result : Result X LoadFault) : Type 0 where
  pub untouched : is_steady old → objects new ≡ objects old
  pub steady : is_steady old → is_steady new
  pub faults : CountsLoad result (fault_count old) (fault_count new)
  pub never_fails : is_reliable old → IsNotLoaded result → ⊥
  pub stays_reliable : is_reliable old → is_reliable new
