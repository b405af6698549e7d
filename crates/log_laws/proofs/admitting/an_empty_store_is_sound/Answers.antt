use Rattle.log_laws.proofs.Admits.{empty_sound}
use Rattle.log_laws.proofs.admitting.an_empty_store_is_sound.Goals as goal

pub returns : goal.returns
returns c = empty_sound
