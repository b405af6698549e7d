use Rattle.lake_bytes.proofs.Signs.{written_again}
use Rattle.lake_bytes.proofs.laws.zigzag_is_read_again.Goals as goal

pub returns : goal.returns
returns c = written_again
