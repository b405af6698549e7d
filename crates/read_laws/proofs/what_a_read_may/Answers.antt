use Rattle.read_laws.proofs.ReaderLaws.{read_may}
use Rattle.read_laws.proofs.what_a_read_may.Goals as goal

pub returns : goal.returns
returns c = λ schema offset entries r begun is. read_may schema offset entries r is
