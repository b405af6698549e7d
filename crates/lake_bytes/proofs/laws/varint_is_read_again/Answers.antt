use Rattle.lake_bytes.specs.Varint.{varint_bytes}
use Rattle.lake_bytes.proofs.Groups.{SpellsNumber-varint_bytes}
use Rattle.lake_bytes.proofs.Varints.{varint_stands}
use Rattle.lake_bytes.proofs.laws.varint_is_read_again.Goals as goal

pub returns : goal.returns
returns c = λ n rest fits. varint_stands (varint_bytes n) rest n (SpellsNumber-varint_bytes n fits)
