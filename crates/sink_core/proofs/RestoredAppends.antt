-- Where a log is read from a checkpoint, what an append or a close does and answers is what it does and answers over the whole log.
use Rattle.std.proofs.Common.{◌≡◌, ℕ, List, Bool, Option, false, Result, Ok, Err, refl, ap}
use Rattle.outcomes.specs.Results.{◌>>=◌, refused_as}
use Rattle.serde_json.specs.Events.{items_len}
use Rattle.serde_json.specs.Data.{Items}
use Rattle.store_core.specs.Objects.{Objects}
use Rattle.delta_actions.specs.Action.{Action}
use Rattle.delta_replay.specs.Keys.{Key, at}
use Rattle.table_log.specs.Counts.{commit_count}
use Rattle.table_log.specs.Restoring.{AreAlike, RestoresWell, replayed}
use Rattle.table_log.specs.Versions.{log_of}
use Rattle.table_log.proofs.Callers.{same_values, replayed_alike}
use Rattle.batch_core.specs.Requests.{SinkRequest, checked, close_behind, named, request_behind}
use Rattle.batch_core.specs.Refusals.{SinkRefusal, bad_log}
use Rattle.sink_core.specs.Appending.{AppendPlan, plan_answer, appended_by, request_of, append_plan, plan_of}
use Rattle.sink_core.specs.Closes.{close_answer, close_of, close_plan, stream_closed_by, closing_version}

-- behind logs that leave the same for each key the same is asked
pub request_same : (log other : List (List Action)) → ((key : Key) → at key log ≡ at key other) → (next : ℕ) (application : List ℕ) (number : ℕ) (items : Items)
    → request_behind next log application number items ≡ request_behind next other application number items
unfolding request_behind
request_same log other same next application number items =
    let values = same_values log other same in
    rw (values.written, values.numbers application, values.closed application) refl

pub close_same : (log other : List (List Action)) → ((key : Key) → at key log ≡ at key other) → (next : ℕ) (application : List ℕ) → close_behind next log application ≡ close_behind next other application
unfolding close_behind
close_same log other same next application =
    let values = same_values log other same in
    rw (values.written, values.closed application) refl

-- What is asked where the log is read alike, behind the same tests, by what asks the same behind logs that leave the same.
module _ (ask : List (List Action) → Result SinkRequest SinkRefusal) (same : (log other : List (List Action)) → ((key : Key) → at key log ≡ at key other) → ask log ≡ ask other) where
  behind_alike : (read whole : Result (List (List Action)) ℕ) → AreAlike read whole → (refused_as bad_log read >>= ask) ≡ (refused_as bad_log whole >>= ask)
  behind_alike (Ok log) (Ok other) alike = same log other alike
  behind_alike (Err version) (Err other) alike = ap (λ (v : ℕ). Err (bad_log v)) alike
  behind_alike (Ok log) (Err version) alike = absurd alike
  behind_alike (Err version) (Ok log) alike = absurd alike

  asked_alike : (fine : Result (Unit {0}) SinkRefusal) (read whole : Result (List (List Action)) ℕ) → AreAlike read whole → (fine >>= λ (x : Unit {0}). refused_as bad_log read >>= ask) ≡ (fine >>= λ (x : Unit {0}). refused_as bad_log whole >>= ask)
  asked_alike (Ok x) read whole alike = behind_alike read whole alike
  asked_alike (Err refusal) read whole alike = refl

module _ (use_checkpoints : Bool) (objects : Objects) (well : RestoresWell use_checkpoints objects) (application : List ℕ) where
  abbrev read_alike : AreAlike (replayed use_checkpoints objects) (log_of objects)
  read_alike = replayed_alike use_checkpoints objects well

  request_alike : (number : ℕ) (items : Items) → request_of use_checkpoints objects application number items ≡ request_of false objects application number items
  unfolding request_of
  request_alike number items =
      asked_alike (λ (commits : List (List Action)). request_behind (commit_count objects) commits application number items) (λ log other same. request_same log other same (commit_count objects) application number items)
      (checked application number (items_len items)) (replayed use_checkpoints objects) (log_of objects) read_alike

  -- what an append does
  pub append_plan_alike : (number at : ℕ) (items : Items) → append_plan use_checkpoints objects application number at items ≡ append_plan false objects application number at items
  append_plan_alike number at items = ap (λ (asked : Result SinkRequest SinkRefusal). asked >>= plan_of objects application number at) (request_alike number items)

  -- what it answers
  pub appended_alike : (number at : ℕ) (items : Items) → appended_by use_checkpoints objects application number at items ≡ appended_by false objects application number at items
  appended_alike number at items = ap (λ (plan : Result AppendPlan SinkRefusal). plan >>= plan_answer number) (append_plan_alike number at items)

  close_alike : close_of use_checkpoints objects application ≡ close_of false objects application
  unfolding close_of
  close_alike =
      asked_alike (λ (commits : List (List Action)). close_behind (commit_count objects) commits application) (λ log other same. close_same log other same (commit_count objects) application) (named application) (replayed use_checkpoints objects) (log_of objects) read_alike

  -- what a close does
  pub close_plan_alike : close_plan use_checkpoints objects application ≡ close_plan false objects application
  close_plan_alike = ap (λ (asked : Result SinkRequest SinkRefusal). asked >>= λ request. Ok (closing_version request)) close_alike

  -- what it answers
  pub closed_alike : stream_closed_by use_checkpoints objects application ≡ stream_closed_by false objects application
  closed_alike = ap (λ (plan : Result (Option ℕ) SinkRefusal). plan >>= close_answer) close_plan_alike
