use Rattle.table_store.proofs.SoundLemmas.{sound_commit}
use Rattle.table_store.proofs.holding.an_admissible_commit_keeps_a_store_sound.Goals as goal

pub returns : goal.returns
returns c = sound_commit
