use Rattle.file_laws.proofs.NoFaults.{no_fault_stands}
use Rattle.file_laws.proofs.no_fault_stands_in_a_file.Goals as goal

pub returns : goal.returns
returns c = no_fault_stands
