-- What a commit or a checkpoint behind a gap says of objects.
use Rattle.std.proofs.Common.{◌≡◌, ◌<◌, ◌≤◌, ℕ, List, Contains, Option, None, Some, IsSome, leb, string_bytes, refl, sym, ap, subst, ◌∙◌, arith, inl, inr}
use Rattle.std.proofs.lemmas.Bool.{cases_Bool, leb-false, leb-true}
use Rattle.store_core.specs.Names.{commit_name, commit_version}
use Rattle.store_core.specs.ObjectLaws.{listed_iff_stands}
use Rattle.store_core.specs.Objects.{Objects, names_of, object_at}
use Rattle.store_core.proofs.Callers.{named, own_version}
use Rattle.table_check.specs.Named.{least_named}
use Rattle.table_check.proofs.NameLists.{least_low}
use Rattle.table_log.proofs.Callers.{checkpoint_named}
use Rattle.table_audit.specs.Reasons.{IsNamedBehindGap, IsReasonOf}
use Rattle.table_audit.specs.declared.reason.Reason.{Reason}
use Rattle.table_audit.specs.declared.reason.Reason.TheVariants.{CommitBehindGap, CheckpointBehindGap}

no_some : (found : Option (List ℕ)) → found ≡ None → IsSome found → ⊥
no_some None is some = absurd cc
no_some (Some bytes) is some = absurd cc

before : (m n : ℕ) → m ≤ n → (n ≡ m → ⊥) → m < n
before m n low other =
    elim (cases_Bool (leb n m)) [
      | inl back ↦ absurd (other (omega (arith, low, leb-true n m back)))
      | inr ahead ↦ omega (arith, leb-false n m ahead)
    ]

module _ (objects : Objects) where
  stands_at : (name : List ℕ) → Contains (names_of objects) name → IsSome (object_at objects name)
  stands_at name has = (listed_iff_stands objects name).0 has

  -- names that are no commit's of a version leave none there
  untold : (version : ℕ) → commit_version (commit_name version) ≡ Some version → ((name : List ℕ) → Contains (names_of objects) name → commit_version name ≡ Some version → ⊥)
      → (found : Option (List ℕ)) → object_at objects (commit_name version) ≡ found → found ≡ None
  untold version own none None is = refl
  untold version own none (Some bytes) is = absurd (none (commit_name version) ((listed_iff_stands objects (commit_name version)).1 (subst (λ (o : Option (List ℕ)). IsSome o) (sym is) refl)) own)

  pub gap_reason : (next version : ℕ) (reason : Reason) → object_at objects (commit_name next) ≡ None → least_named next (names_of objects) ≡ Some version → IsNamedBehindGap (names_of objects) version reason → IsReasonOf objects version reason
  gap_reason next version (CommitBehindGap at) none least is =
      let stands : IsSome (object_at objects (commit_name version)) =
      subst (λ (name : List ℕ). IsSome (object_at objects name)) (sym (named is.1.0 version is.1.2).0) (stands_at is.1.0 is.1.1) in
      let low : next ≤ version = least_low next (names_of objects) version least in
      let other : version ≡ next → ⊥ = λ same. no_some (object_at objects (commit_name version)) (ap (λ (v : ℕ). object_at objects (commit_name v)) same ∙ none) stands in
      (is.0, (next, before next version low other, none), stands)
  gap_reason next version (CheckpointBehindGap name) none least is =
      (is.1, stands_at (string_bytes name) is.0, untold version (own_version version (checkpoint_named (string_bytes name) version is.1).small) is.2 (object_at objects (commit_name version)) refl)
  gap_reason next version _ none least is = absurd is
