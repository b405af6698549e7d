use Rattle.table_store.proofs.SoundLemmas.{sound_data_file}
use Rattle.table_store.proofs.holding.a_data_file_keeps_a_store_sound.Goals as goal

pub returns : goal.returns
returns c = sound_data_file
