use Rattle.std.proofs.Common.{◌≡◌, ◌||◌, ℕ, List, take}
use Rattle.std.specs.BTreeSet.{contains_text}
use Rattle.std.specs.List.{list_any}
use Rattle.delta_actions.specs.Action.{views}
use Rattle.table_audit.specs.Beside.{adds}
use Rattle.table_audit.proofs.beside.add_files.Given as goal

-- the files of the actions that were seen are added
abbrev pub invariant-loop-action : goal.invariant-loop-action
invariant-loop-action l = (file : List ℕ) → contains_text l.files file ≡ (contains_text l.fn.files file || list_any (adds file) (views (take l.action-index l.actions)))
