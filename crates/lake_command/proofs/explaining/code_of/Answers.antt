use Rattle.std.proofs.Common.{rules, ◌≡◌, ◌++◌, codes, ℕ, List, Option, Some, refl, subst}
use Rattle.std.specs.Prelude.{IfSome, string_bytes}
use Rattle.table_folder.specs.declared.fault.LoadFault.{LoadFault}
use Rattle.table_folder.specs.declared.fault.LoadFault.TheVariants as loads
use Rattle.table_folder.specs.declared.fault.SaveFault.{SaveFault}
use Rattle.table_folder.specs.declared.fault.SaveFault.TheVariants as saves
use Rattle.lake_command.specs.Codes.{TellsCode, code_in}
use Rattle.lake_command.specs.declared.failure.Failure.{Failure}
use Rattle.lake_command.specs.declared.failure.Failure.TheVariants.{BadLine, Loading, Memory, Miscounted, Misused, NotRead, Saving}
use Rattle.lake_command.proofs.explaining.code_of.Goals as goal

load_told : (fault : LoadFault) → TellsCode (Loading fault) (codes "F1")
load_told (loads.NotLoaded name reason) = (codes "NotLoaded " ++ string_bytes name, refl)
load_told loads.Memory = (codes "NotLoaded -", refl)

save_stands : (fault : SaveFault) → IfSome (code_in (Saving fault)) (TellsCode (Saving fault))
save_stands (saves.NotSaved name reason) = (codes "NotSaved " ++ string_bytes name, refl)
save_stands saves.Lost = (codes "Lost", refl)
save_stands saves.Memory = (codes "NotSaved -", refl)

-- the code of a failure that has one is told in its text
code_stands : (failure : Failure) → IfSome (code_in failure) (TellsCode failure)
code_stands Misused = tt
code_stands NotRead = (codes "NotRead", refl)
code_stands (BadLine number flaw) = tt
code_stands (Miscounted rows found) = tt
code_stands Memory = (codes "Memory", refl)
code_stands (Loading fault) = load_told fault
code_stands (Saving fault) = save_stands fault

pub returns-in-NotRead-clause-told : goal.returns-in-NotRead-clause-told
returns-in-NotRead-clause-told c = rw c.in-NotRead.is (codes "NotRead", refl)

pub returns-in-Memory-clause-told : goal.returns-in-Memory-clause-told
returns-in-Memory-clause-told c = rw c.in-Memory.is (codes "Memory", refl)

pub returns-in-Loading-clause-told : goal.returns-in-Loading-clause-told
returns-in-Loading-clause-told c = rw c.in-Loading.is (load_told c.in-Loading.field-0)

pub returns-in-Saving-Lost-clause-told : goal.returns-in-Saving-Lost-clause-told
returns-in-Saving-Lost-clause-told c = let lost = rw c.in-Saving-Lost.is at c.in-Saving-Lost.field-0-is in rw (c.in-Saving-Lost.is, lost) (codes "Lost", refl)

pub returns-in-Saving-clause-told : goal.returns-in-Saving-clause-told
returns-in-Saving-clause-told c =
    let code : code_in c.args.failure.now ≡ Some (codes "F2") = search rules in
    subst (λ (found : Option (List ℕ)). IfSome found (TellsCode c.args.failure.now)) code (code_stands c.args.failure.now)
