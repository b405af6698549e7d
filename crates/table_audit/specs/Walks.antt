-- What a walk over a log keeps, how it begins, and where it is.
use Rattle.std.specs.Prelude.{◌≡◌, ℕ, suc, List, Some, None}
use Rattle.delta_actions.specs.Action.{Action}
use Rattle.delta_replay.specs.Snapshots.{IsSnapshotOf}
use Rattle.schema_tree.specs.Schema.{tree_of}
use Rattle.store_core.specs.Objects.{Objects, names_of}
use Rattle.table_check.specs.Below.{IsSoundBelow}
use Rattle.table_check.specs.Named.{least_named}
use Rattle.table_check.specs.Walked.{IsWalked}
use Rattle.table_audit.specs.LargeFiles.{HasNoLargeBelow}
use Rattle.table_audit.specs.Reasons.{IsNamedBehindGap, IsReasonOf}
use Rattle.table_audit.specs.Verdicts.{IsVerdictOf, end_of}
use Rattle.table_audit.specs.declared.verdict.Verdict.{Verdict}
use Rattle.table_audit.specs.declared.verdict.Verdict.TheVariants.{Sound, Unsound}
use Rattle.table_audit.specs.declared.walk.Beginning.{Beginning}
use Rattle.table_audit.specs.declared.walk.Beginning.TheVariants.{Created, Wrong}
use Rattle.table_audit.specs.declared.walk.Reached.{Reached}
use Rattle.table_audit.specs.declared.walk.Reached.TheVariants.{Behind, Over}
use Rattle.table_audit.specs.declared.walk.Walk.{Walk}

-- The commits of the versions below the walk's next one were walked over, none of them has a file that is too large, and
-- the walk's snapshot is theirs.
pub record IsWalk (objects : Objects) (walk : Walk) : Type 0 where
  pub log : List (List Action)
  pub walked : IsWalked objects (tree_of walk.schema) walk.next log
  pub small : HasNoLargeBelow objects walk.next
  pub snapshot : IsSnapshotOf log walk.snapshot

-- These are all names that stand, and a walk was begun.
abbrev pub IsWalkOver : Objects → List (List ℕ) → Walk → Type 0
IsWalkOver objects names walk = (names ≡ names_of objects) × IsWalk objects walk

-- a walk begins behind the creation, or the first commit breaks the store, for this reason
abbrev pub BeginsWalk : Objects → Beginning → Type 0
BeginsWalk objects (Created walk) = IsWalk objects walk
BeginsWalk objects (Wrong reason) = (IsSoundBelow objects 1 → ⊥) × IsReasonOf objects 0 reason

-- the version that comes next is the second one
abbrev pub IsBehindFirst : Beginning → Type 0
IsBehindFirst (Created walk) = walk.next ≡ 1
IsBehindFirst (Wrong reason) = Unit {0}

-- how a walk ends in front of a version: names tell none from there on, or this is the least that they tell,
-- for this reason
abbrev pub IsEnd : (next : ℕ) → List (List ℕ) → Verdict → Type 0
IsEnd next names (Sound versions) = (least_named next names ≡ None) × (versions ≡ next)
IsEnd next names (Unsound unsound) = (least_named next names ≡ Some unsound.version) × IsNamedBehindGap names unsound.version unsound.reason

-- a walk goes on, or it is known what the store is
abbrev pub IsWalkOrVerdict : Objects → Walk → Reached → Type 0
IsWalkOrVerdict objects walk Behind = IsWalk objects walk
IsWalkOrVerdict objects walk (Over verdict) = IsVerdictOf objects verdict

-- where a verdict is known, no version below the one that it tells has a file that is too large
abbrev pub IsReadable : Objects → Reached → Type 0
IsReadable objects Behind = Unit {0}
IsReadable objects (Over verdict) = HasNoLargeBelow objects (end_of verdict)

-- a walk that goes on is behind a version
abbrev pub IsWalkBehind : (last : ℕ) → Walk → Reached → Type 0
IsWalkBehind last walk Behind = walk.next ≡ suc last
IsWalkBehind last walk (Over verdict) = Unit {0}

-- this is so of a walk that goes on
abbrev pub IfBehind : Type 0 → Reached → Type 0
IfBehind so Behind = so
IfBehind so (Over verdict) = Unit {0}
