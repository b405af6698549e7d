use Rattle.log_hub.proofs.StoreLogs.{log_at, log_has, log_long}
use Rattle.log_hub.proofs.laws.the_log_of_a_sound_store.Goals as goal

pub returns : goal.returns
returns c = record {
  count = λ objects sound. log_long objects sound;
  stands = λ objects version bytes sound h. log_has objects sound version bytes h;
  listed = λ objects version bytes sound fits h. log_at objects sound version bytes fits h;
}
