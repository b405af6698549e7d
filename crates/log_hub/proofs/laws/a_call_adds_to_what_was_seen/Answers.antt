use Rattle.log_hub.proofs.Seeing.{floor_extends, log_extends, map_extends, names_extends}
use Rattle.log_hub.proofs.laws.a_call_adds_to_what_was_seen.Goals as goal

pub returns : goal.returns
returns c = record {
  log = λ old new asked told e. log_extends old asked told new e;
  floor = λ old new asked told e. floor_extends old asked told new e;
  map = λ old new asked told e. map_extends old asked told new e;
  names = λ old new asked told e. names_extends old asked told new e;
}
