use Rattle.std.proofs.Common.{◌≡◌, ◌≤◌, ℕ, List, Some}
use Rattle.store_core.specs.Objects.{object_at}
use Rattle.table_folder.specs.Traces.{FolderCall, Traced}
use Rattle.script_lines.specs.Lines.{Statement}
use Rattle.lake_words.specs.Asked.{work_view}
use Rattle.lake_command.specs.Again.{IsRunOf}
use Rattle.lake_command.specs.Failures.{IsCommitTaken}
use Rattle.lake_command.specs.Folders.{IsAskedBy, IsPutter}
use Rattle.lake_command.proofs.AgainLemmas.{HasRun}
use Rattle.lake_command.proofs.answering.run_again.Given as goal

abbrev pub invariant-loop-left : goal.invariant-loop-left
invariant-loop-left g l = record {
  taken : IsCommitTaken l.refused;
  some : 1 ≤ l.left;
  puts : (statement : Statement) × IsAskedBy (work_view l.command.job) (Some l.text) statement × IsPutter statement;
  runs : (statement : Statement) (calls : List FolderCall) → IsAskedBy (work_view l.command.job) (Some l.text) statement → IsRunOf l.command.use_checkpoints l.fn.tries statement l.fn.refused calls
      → HasRun (λ made. Traced g.F.Folder.makes l.fn.folder made l.folder) (work_view l.command.job) l.text l.command.use_checkpoints (g.F.Folder.fault_count l.fn.folder) l.fn.tries l.left calls l.refused;
  counts : g.F.Folder.fault_count l.folder ≡ g.F.Folder.fault_count l.fn.folder;
  steady : g.F.Folder.is_steady l.fn.folder → g.F.Folder.is_steady l.folder;
  kept : g.F.Folder.is_steady l.fn.folder → (name bytes : List ℕ) → object_at (g.F.Folder.objects l.fn.folder) name ≡ Some bytes
      → object_at (g.F.Folder.objects l.folder) name ≡ Some bytes;
}

abbrev pub decreases-loop-left : goal.decreases-loop-left
decreases-loop-left g l = l.left
