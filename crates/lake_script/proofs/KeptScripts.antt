-- What is known of single lines, put together.
use Rattle.store_core.specs.Objects.{Objects}
use Rattle.lake_script.specs.Scripts.{HoldsState, AnswersReads, ReadsOut}
use Rattle.lake_script.specs.Tables.{TableState, nothing, table}
use Rattle.lake_script.specs.Keeps.{Keeps}
use Rattle.lake_script.proofs.KeptAppend.{append_told}
use Rattle.lake_script.proofs.KeptCheckpoint.{checkpoint_told}
use Rattle.lake_script.proofs.KeptClose.{close_told}
use Rattle.lake_script.proofs.KeptCreate.{create_told}
use Rattle.lake_script.proofs.KeptHistory.{history_told, history_of_nothing}
use Rattle.lake_script.proofs.KeptHolds.{kept_holds}
use Rattle.lake_script.proofs.KeptRuns.{Given}
use Rattle.lake_script.proofs.KeptTail.{tail_told, tail_of_nothing}
use Rattle.lake_script.proofs.KeptTails.{hand_out_the_log, hand_out_all, are_answered}

pub lines_told : Given
lines_told = record {
  create_told = create_told;
  append_told = append_told;
  close_told = close_told;
  checkpoint_told = checkpoint_told;
  tail_told = tail_told;
  tail_of_nothing = tail_of_nothing;
  history_told = history_told;
  history_of_nothing = history_of_nothing;
}

-- the store that keeps a table holds it
pub kept_held : (objects : Objects) (state : TableState) → Keeps objects state → HoldsState objects state
kept_held objects nothing keeps = keeps
kept_held objects (table schema entries) keeps = (kept_holds objects schema entries keeps.0, keeps.0.lawful)

kept_answers : (objects : Objects) (state : TableState) → Keeps objects state → AnswersReads objects state
kept_answers objects nothing keeps = tt
kept_answers objects (table schema entries) keeps = are_answered objects schema entries keeps.0

-- and reads over it hand out its rows
pub kept_reads_out : (objects : Objects) (state : TableState) → Keeps objects state → ReadsOut objects state
kept_reads_out objects state keeps = record {
  answered = kept_answers objects state keeps;
  up_to = hand_out_the_log objects state keeps;
  all = hand_out_all objects state keeps;
}
