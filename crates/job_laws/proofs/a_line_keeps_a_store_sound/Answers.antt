use Rattle.job_laws.proofs.SoundLines.{line_keeps_sound}
use Rattle.job_laws.proofs.a_line_keeps_a_store_sound.Goals as goal

pub returns : goal.returns
returns c = λ objects after statement are here sound put. line_keeps_sound objects after statement are here sound put
