use Rattle.read_laws.proofs.KeptLaws.{sound_kept}
use Rattle.read_laws.proofs.a_sound_store_keeps_its_table.Goals as goal

pub returns : goal.returns
returns c = λ objects sound some limits. sound_kept objects sound some limits
