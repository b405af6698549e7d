use Rattle.log_hub.specs.Seats.{log_seen}
use Rattle.log_hub.proofs.Seeing.{got_in_front}
use Rattle.log_hub.proofs.Telling.{log_behind}
use Rattle.log_hub.proofs.laws.the_log_of_a_seat_only_grows.Goals as goal

pub returns : goal.returns
returns c = record {
  front = λ old new asked told e. log_behind old asked told new e;
  stays = λ old new asked told version bytes e h. got_in_front (log_seen old) (log_seen new) version bytes (log_behind old asked told new e) h;
}
