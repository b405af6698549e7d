use Rattle.lake_bytes.proofs.Signs.{one_signed_front}
use Rattle.lake_bytes.proofs.laws.one_signed_number_in_front.Goals as goal

pub returns : goal.returns
returns c = one_signed_front
