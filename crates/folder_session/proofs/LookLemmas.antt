-- What a folder is behind calls that only look, of which one failed.
use Rattle.std.proofs.Common.{◌≡◌, ℕ, Result, Ok, Err, IsErrAnd, sym, subst}
use Rattle.table_folder.specs.Calls.{CountsFailure, IsFailed}
use Rattle.table_folder.specs.Faults.{CountsLoad, IsLoadFaultOf, IsNotLoaded}
use Rattle.table_folder.specs.declared.fault.FolderFault.{FolderFault}
use Rattle.table_folder.specs.declared.fault.FolderFault.TheVariants as folders
use Rattle.table_folder.specs.declared.fault.LoadFault.{LoadFault}
use Rattle.table_folder.specs.declared.fault.LoadFault.TheVariants as loads

-- a call's failure is counted as that of a load
pub counts_as_load : (X Y : Type 0) (fault : FolderFault) (result : Result X LoadFault) (count later : ℕ) → IsErrAnd result (λ e. IsLoadFaultOf fault e) → CountsFailure {X = Y} (Err fault) count later → CountsLoad result count later
counts_as_load X Y fault (Ok x) count later is counted = absurd is
counts_as_load X Y (folders.Failed name reason) (Err e) count later is counted = subst (λ (f : LoadFault). CountsLoad {X = X} (Err f) count later) (sym is) counted
counts_as_load X Y folders.Memory (Err e) count later is counted = subst (λ (f : LoadFault). CountsLoad {X = X} (Err f) count later) (sym is) counted

-- and where none fails, none is told
pub fails_as_load : (X Y : Type 0) (fault : FolderFault) (result : Result X LoadFault) → IsErrAnd result (λ e. IsLoadFaultOf fault e) → (IsFailed {X = Y} (Err fault) → ⊥) → IsNotLoaded result → ⊥
fails_as_load X Y fault (Ok x) is none not = not
fails_as_load X Y (folders.Failed name reason) (Err e) is none not = none tt
fails_as_load X Y folders.Memory (Err e) is none not = subst (λ (f : LoadFault). IsNotLoaded {X = X} (Err f)) is not

-- the same fault handed on
pub counts_handed_on : (X Y : Type 0) (fault : LoadFault) (result : Result X LoadFault) (first count later : ℕ) → IsErrAnd result (λ e. e ≡ fault) → count ≡ first → CountsLoad {X = Y} (Err fault) count later → CountsLoad result first later
counts_handed_on X Y fault (Ok x) first count later is from counted = absurd is
counts_handed_on X Y fault (Err e) first count later is from counted = by_fault fault is counted
  where
    by_fault : (f : LoadFault) → e ≡ f → CountsLoad {X = Y} (Err f) count later → CountsLoad {X = X} (Err e) first later
    by_fault (loads.NotLoaded name reason) is counted =
        subst (λ (n : ℕ). CountsLoad {X = X} (Err e) n later) from (subst (λ (f : LoadFault). CountsLoad {X = X} (Err f) count later) (sym is) counted)
    by_fault loads.Memory is counted =
        subst (λ (n : ℕ). CountsLoad {X = X} (Err e) n later) from (subst (λ (f : LoadFault). CountsLoad {X = X} (Err f) count later) (sym is) counted)

pub fails_handed_on : (X Y : Type 0) (fault : LoadFault) (result : Result X LoadFault) → IsErrAnd result (λ e. e ≡ fault) → (IsNotLoaded {X = Y} (Err fault) → ⊥) → IsNotLoaded result → ⊥
fails_handed_on X Y fault (Ok x) is none not = not
fails_handed_on X Y fault (Err e) is none not = by_fault fault is none
  where
    by_fault : (f : LoadFault) → e ≡ f → (IsNotLoaded {X = Y} (Err f) → ⊥) → ⊥
    by_fault (loads.NotLoaded name reason) is none = none tt
    by_fault loads.Memory is none = subst (λ (f : LoadFault). IsNotLoaded {X = X} (Err f)) is not

-- want of memory is no call's failure
pub counts_short : (X : Type 0) (result : Result X LoadFault) (count later : ℕ) → IsErrAnd result (λ e. e ≡ loads.Memory) → later ≡ count → CountsLoad result count later
counts_short X (Ok x) count later is same = same
counts_short X (Err e) count later is same = subst (λ (f : LoadFault). CountsLoad {X = X} (Err f) count later) (sym is) same

pub fails_short : (X : Type 0) (result : Result X LoadFault) → IsErrAnd result (λ e. e ≡ loads.Memory) → IsNotLoaded result → ⊥
fails_short X (Ok x) is not = not
fails_short X (Err e) is not = subst (λ (f : LoadFault). IsNotLoaded {X = X} (Err f)) is not
