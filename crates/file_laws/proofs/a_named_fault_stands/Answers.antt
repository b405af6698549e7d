use Rattle.file_laws.proofs.Groups.{fault_stands}
use Rattle.file_laws.proofs.a_named_fault_stands.Goals as goal

pub returns : goal.returns
returns c = fault_stands
