use Rattle.read_laws.proofs.KeptLaws.{kept_part}
use Rattle.read_laws.proofs.a_read_hands_out_a_part.Goals as goal

pub returns : goal.returns
returns c = λ objects schema entries max offset out kept begun says. kept_part objects schema entries max offset out kept says
