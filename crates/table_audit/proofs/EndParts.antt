-- What is told where a walk is over.
use Rattle.std.proofs.Common.{◌≡◌, ℕ, suc, ◌≤◌, List, ◌∷◌, None, Some, sym, subst, ◌∙◌, arith}
use Rattle.store_core.specs.Names.{commit_name, greatest_version}
use Rattle.delta_checkpoint.specs.Checkpoints.{IsCheckpoint}
use Rattle.schema_tree.specs.Schema.{tree_of}
use Rattle.store_core.specs.Objects.{Objects, names_of, object_at}
use Rattle.table_log.specs.Restoring.{IsSoundCheckpoint, checkpoint_version}
use Rattle.table_model.specs.Table.{creation}
use Rattle.table_check.specs.Below.{AreCheckpointsSoundBelow, IsFirstUnsound, IsSoundBelow}
use Rattle.table_check.specs.Walked.{IsWalked}
use Rattle.table_check.proofs.WalkCounts.{nothing_counted, walk_counted}
use Rattle.table_check.proofs.WalkEnds.{ends_below, ends_sound, front_below}
use Rattle.table_check.proofs.WalkGaps.{checkpoint_unsound, gap_unsound, nothing_below, nothing_sound, zero_below}
use Rattle.table_check.proofs.WalkLemmas.{checkpoint_walked}
use Rattle.table_audit.specs.Verdicts.{IsVerdictOf}
use Rattle.table_audit.specs.Walks.{IsEnd, IsWalk}
use Rattle.table_audit.specs.declared.verdict.Verdict.{Verdict}
use Rattle.table_audit.specs.declared.verdict.Verdict.TheVariants.{Sound, Unsound}
use Rattle.table_audit.specs.declared.walk.Walk.{Walk}
use Rattle.table_audit.proofs.ListParts.{none_past}
use Rattle.table_audit.proofs.GapParts.{gap_reason}

pub lesser_below : (objects : Objects) (version last : ℕ) → version ≤ last → AreCheckpointsSoundBelow objects last → AreCheckpointsSoundBelow objects version
lesser_below objects version last low below name at bytes told before there = below name at bytes told (omega (arith, low, before)) there

module _ (objects : Objects) (walk : Walk) (is : IsWalk objects walk) where
  -- What comes below the walk's next version is sound.
  pub sound_next : (version : ℕ) → version ≡ walk.next → AreCheckpointsSoundBelow objects version → IsSoundBelow objects version
  sound_next version same below = front_below objects (tree_of walk.schema) (creation ∷ is.walked.later) version is.walked.stand is.walked.lawful (omega (arith, is.walked.at, same)) below

  -- The walk's next version is the first unsound one, where it breaks the store.
  pub breaks_next : (version : ℕ) → version ≡ walk.next → AreCheckpointsSoundBelow objects version → (IsSoundBelow objects (suc version) → ⊥) → IsFirstUnsound objects version
  breaks_next version same below breaks = (sound_next version same below, breaks)

  -- So is the one before it.
  pub breaks_last : (version : ℕ) → walk.next ≡ suc version → AreCheckpointsSoundBelow objects version → (IsSoundBelow objects (suc version) → ⊥) → IsFirstUnsound objects version
  breaks_last version same below breaks = (
    front_below objects (tree_of walk.schema) (creation ∷ is.walked.later) version is.walked.stand is.walked.lawful (omega (arith, is.walked.at, same)) below,
    breaks,
  )

  -- Where no commit comes next the store is sound, and has the versions that were walked over; or it is unsound at the least version that names tell.
  pub over_at_end : (version last : ℕ) (verdict : Verdict) → version ≡ walk.next → version ≤ last → last ≤ greatest_version → AreCheckpointsSoundBelow objects last → object_at objects (commit_name version) ≡ None
      → IsEnd version (names_of objects) verdict → IsVerdictOf objects verdict
  over_at_end version last (Sound versions) same low fits below none end = (
    ends_sound objects version (tree_of walk.schema) (creation ∷ is.walked.later) is.walked.stand is.walked.lawful (omega (arith, is.walked.at, same)) (lesser_below objects version last low below) (omega (arith, low, fits)) end.0,
    walk_counted objects version end.0 (tree_of walk.schema) is.log (subst (λ (v : ℕ). IsWalked objects (tree_of walk.schema) v is.log) (sym same) is.walked) (omega (arith, low, fits)) ∙ sym end.1,
  )
  over_at_end version last (Unsound u) same low fits below none end = (
    (
      ends_below objects version (tree_of walk.schema) (creation ∷ is.walked.later) is.walked.stand is.walked.lawful (omega (arith, is.walked.at, same)) (lesser_below objects version last low below) u.version end.0,
      gap_unsound objects version u.version none end.0,
    ),
    gap_reason objects version u.version u.reason none end.0 end.1,
  )

  -- Where all versions were walked over the store is sound, and has all of them.
  pub whole_sound : walk.next ≡ suc greatest_version → AreCheckpointsSoundBelow objects (suc greatest_version) → IsVerdictOf objects (Sound walk.next)
  whole_sound all below = (
    ends_sound objects (suc greatest_version) (tree_of walk.schema) (creation ∷ is.walked.later) is.walked.stand is.walked.lawful (omega (arith, is.walked.at, all)) below (omega arith) (none_past (names_of objects)),
    walk_counted objects (suc greatest_version) (none_past (names_of objects)) (tree_of walk.schema) is.log (subst (λ (v : ℕ). IsWalked objects (tree_of walk.schema) v is.log) all is.walked) (omega arith) ∙ sym all,
  )

  -- ---- a checkpoint of the last version that was walked over

  module _ (version : ℕ) (last : walk.next ≡ suc version) where
    walked_to : IsWalked objects (tree_of walk.schema) (suc version) is.log
    walked_to = subst (λ (v : ℕ). IsWalked objects (tree_of walk.schema) v is.log) last is.walked

    pub checkpoint_sound : (bytes : List ℕ) → IsCheckpoint bytes version is.log → IsSoundCheckpoint objects version bytes
    checkpoint_sound bytes found = checkpoint_walked objects (tree_of walk.schema) version is.log bytes walked_to found

    pub checkpoint_breaks : (name bytes : List ℕ) → checkpoint_version name ≡ Some version → object_at objects name ≡ Some bytes → (IsCheckpoint bytes version is.log → ⊥) → IsSoundBelow objects (suc version) → ⊥
    checkpoint_breaks name bytes told there none = checkpoint_unsound objects (tree_of walk.schema) version is.log name bytes walked_to told there none

-- ---- a store without a first commit, or whose first commit is none

pub empty_judged : (objects : Objects) (verdict : Verdict) → object_at objects (commit_name 0) ≡ None → IsEnd 0 (names_of objects) verdict → IsVerdictOf objects verdict
empty_judged objects (Sound versions) none end = (nothing_sound objects end.0, nothing_counted objects end.0 ∙ sym end.1)
empty_judged objects (Unsound u) none end = ((nothing_below objects u.version end.0, gap_unsound objects 0 u.version none end.0), gap_reason objects 0 u.version u.reason none end.0 end.1)

pub first_judged : (objects : Objects) → (IsSoundBelow objects 1 → ⊥) → IsFirstUnsound objects 0
first_judged objects breaks = (zero_below objects, breaks)
