use Rattle.read_laws.proofs.KeptFiles.{kept_files}
use Rattle.read_laws.proofs.a_kept_table_has_its_files.Goals as goal

pub returns : goal.returns
returns c = λ objects schema entries kept first. kept_files objects schema entries kept first
