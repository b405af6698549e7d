use Rattle.lake_bytes.proofs.Groups.{one_front}
use Rattle.lake_bytes.proofs.laws.one_varint_in_front.Goals as goal

pub returns : goal.returns
returns c = one_front
