-- Names that are neither a commit's nor a checkpoint's.
use Rattle.std.proofs.Common.{◌≡◌, ℕ, List, [], ◌∷◌, Option, None, Result, Ok, Err, IfNone, IfOk, IfSome, refl, subst, arith}
use Rattle.std.specs.List.{Contains, flat_map}
use Rattle.std.specs.declared.alloc.AllocError.{AllocError}
use Rattle.delta_checkpoint.specs.Names.{IsCheckpointName}
use Rattle.store_core.specs.Names.{commit_version}
use Rattle.store_core.specs.Objects.{Objects}
use Rattle.table_log.specs.Restoring.{checkpoint_version}
use Rattle.table_log.proofs.Callers.{version_found}
use Rattle.table_model.specs.Table.{Entry, FileName, lacks}
use Rattle.table_store.specs.Holds.{IsFreeIn}
use Rattle.log_book.specs.Making.{IsNameBeside}

pub version_is : (name : List ℕ) (r : Result (Option ℕ) AllocError) → IfOk r (λ o. IfSome o (λ v. IsCheckpointName v name)) → IfOk r (λ o. IfNone o ((v : ℕ) → IsCheckpointName v name → ⊥)) → IfOk r (λ o. o ≡ checkpoint_version name)
version_is name (Ok o) found only = version_found name o found only
version_is name (Err e) found only = tt

-- so far no entry of a table lacks anything
nothing_lacked : (entries : List Entry) → flat_map lacks entries ≡ []
nothing_lacked [] = refl
nothing_lacked (entry ∷ entries) = nothing_lacked entries

is_free : (objects : Objects) (name : List ℕ) → IsFreeIn objects name
is_free objects name schema entries holds path among is =
    let (place, within, found) = subst (λ (paths : List FileName). Contains paths path) (nothing_lacked entries) among in
    absurd (omega arith)

pub beside : (objects : Objects) (name : List ℕ) → commit_version name ≡ None → checkpoint_version name ≡ None → IsNameBeside objects name
beside objects name commit checkpoint = record { no_commit = commit; no_checkpoint = checkpoint; free = is_free objects name }
