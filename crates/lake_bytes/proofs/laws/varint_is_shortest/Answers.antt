use Rattle.lake_bytes.proofs.Groups.{SpellsNumber-varint_bytes, varint_bytes-shortest}
use Rattle.lake_bytes.proofs.laws.varint_is_shortest.Goals as goal

pub returns-clause-spells : goal.returns-clause-spells
returns-clause-spells c = SpellsNumber-varint_bytes

pub returns-clause-shortest : goal.returns-clause-shortest
returns-clause-shortest c = varint_bytes-shortest
