-- How refusals are told, and the texts of those of a table's creation.
use Rattle.std.specs.Prelude.{ℕ, List, ◌++◌, codes}
use Rattle.schema_tree.specs.Fault.{fault_of}
use Rattle.schema_tree.specs.FaultTexts.{text_of}
use Rattle.commit_core.specs.Creating.{CreateRefusal, table_exists, bad_schema, bad_id, lost, too_large}
use Rattle.commit_core.specs.declared.fault.CreateFault.{CreateFault}
use Rattle.commit_core.specs.declared.fault.CreateFault.TheVariants as creating

-- why a table isn't created
abbrev pub create_refusal_text : CreateRefusal → List ℕ
create_refusal_text table_exists = codes "E1 TableExists"
create_refusal_text (bad_schema fault) = codes "E2 BadSchema " ++ text_of fault
create_refusal_text bad_id = codes "E3 BadId"
create_refusal_text lost = codes "E5 Lost"
create_refusal_text too_large = codes "E6 TooLarge"

-- the same of the code's faults
abbrev pub create_fault_text : CreateFault → List ℕ
create_fault_text creating.TableExists = create_refusal_text table_exists
create_fault_text (creating.BadSchema fault) = create_refusal_text (bad_schema (fault_of fault))
create_fault_text creating.BadId = create_refusal_text bad_id
create_fault_text creating.Memory = codes "E4 Memory"
create_fault_text creating.Lost = create_refusal_text lost
create_fault_text creating.TooLarge = create_refusal_text too_large

-- a fault's text, as it is told
abbrev pub refused : List ℕ → List ℕ
refused text = codes "refused " ++ text
