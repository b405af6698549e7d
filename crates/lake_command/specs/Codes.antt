-- The code of a failure that is told as a refusal.
use Rattle.std.specs.Prelude.{◌≡◌, ◌++◌, ℕ, List, Option, None, Some, codes}
use Rattle.table_folder.specs.declared.fault.SaveFault.TheVariants as saves
use Rattle.lake_command.specs.Failures.{failure_text}
use Rattle.lake_command.specs.declared.failure.Failure.{Failure}
use Rattle.lake_command.specs.declared.failure.Failure.TheVariants.{Misused, NotRead, BadLine, Miscounted, Memory, Loading, Saving}

-- the text of a failure tells it as a refusal with this code
abbrev pub TellsCode : Failure → (code : List ℕ) → Type 0
TellsCode failure code = (rest : List ℕ) × (failure_text failure ≡ codes "refused " ++ (code ++ (codes " " ++ rest)))

-- the code of a failure that is told as a refusal
abbrev pub code_in : Failure → Option (List ℕ)
code_in Misused = None
code_in NotRead = Some (codes "F3")
code_in (BadLine number flaw) = None
code_in (Miscounted rows found) = None
code_in Memory = Some (codes "S6")
code_in (Loading fault) = Some (codes "F1")
code_in (Saving saves.Lost) = Some (codes "St1")
code_in (Saving fault) = Some (codes "F2")
