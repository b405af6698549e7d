-- The lines that a commit's actions are printed as, and what bytes are next to the checkpoint of a version.
use Rattle.std.specs.Prelude.{ℕ, List}
use Rattle.std.specs.Cmp.Lexicographic.{slice_cmp}
use Rattle.std.specs.List.{AllByRecursion}
use Rattle.std.specs.List.Sorted.{IsSorted}
use Rattle.std.specs.Ordering.{nat_cmp}
use Rattle.delta_actions.specs.Action.{Action}
use Rattle.delta_actions.specs.Commit.{IsCommit}
use Rattle.delta_actions.specs.Printing.{IsPrintable}
use Rattle.delta_checkpoint.specs.Checkpoints.{IsCheckpoint}
use Rattle.table_check.specs.Lines.{AreLinesOf}
use Rattle.table_audit.specs.Reasons.{IsOtherCheckpoint, IsUnread}
use Rattle.table_audit.specs.declared.checkpoint.Found.{Found}
use Rattle.table_audit.specs.declared.checkpoint.Found.TheVariants.{Same, Other, Bad}

-- The bytes are a commit of actions, and these are their lines in the order of their bytes.
pub record HasLines (bytes : List ℕ) (lines : List (List ℕ)) : Type 0 where
  pub actions : List Action
  pub commit : IsCommit bytes actions
  pub printable : AllByRecursion IsPrintable actions
  pub are : AreLinesOf lines actions
  pub sorted : IsSorted (slice_cmp nat_cmp) lines

-- the lines of a checkpoint of a version and a log
abbrev pub AreOwnLines : (version : ℕ) → List (List Action) → List (List ℕ) → Type 0
AreOwnLines version log lines = (own : List ℕ) × HasLines own lines × IsCheckpoint own version log

-- what is found is told rightly
abbrev pub IsFoundRightly : Found → List ℕ → (version : ℕ) → List (List Action) → Type 0
IsFoundRightly Same bytes version log = IsCheckpoint bytes version log
IsFoundRightly Other bytes version log = IsOtherCheckpoint version log bytes
IsFoundRightly (Bad fault) bytes version log = IsUnread fault bytes × (IsCheckpoint bytes version log → ⊥)
