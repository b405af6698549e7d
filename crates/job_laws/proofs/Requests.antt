-- What an append that puts a batch found in the log, and what the batch is.
use Rattle.std.proofs.Common.{◌≡◌, ℕ, ◌&&◌, Bool, true, false, not, List, length, Option, Result, Ok, Err, refl, sym, ap, subst, ◌∙◌}
use Rattle.std.specs.Prelude.{if◌then◌else◌}
use Rattle.outcomes.specs.Results.{◌>>=◌, refused_as, refused_if}
use Rattle.serde_json.specs.Events.{items_len}
use Rattle.serde_json.specs.Data.{Items}
use Rattle.schema_tree.specs.Tree.{Tree}
use Rattle.store_core.specs.Objects.{Objects, object_at}
use Rattle.delta_actions.specs.Action as actions
use Rattle.delta_actions.specs.Names.{data_file_name as plain_file_name}
use Rattle.delta_replay.specs.Closes.{is_closed}
use Rattle.delta_replay.specs.Keys.{last_number}
use Rattle.delta_replay.specs.Support.{writable}
use Rattle.parquet_file.specs.Writing.{written_file}
use Rattle.table_log.specs.Counts.{commit_count}
use Rattle.table_log.specs.Restoring.{replayed}
use Rattle.table_log.specs.Versions.{log_of}
use Rattle.commit_core.specs.Commits.{commit_text}
use Rattle.batch_core.specs.Committing.{batch_actions, batch_file_name}
use Rattle.batch_core.specs.Requests.{SinkRequest, checked, file_or_refusal, is_repeat, request_behind, unless_other_rows, where_same}
use Rattle.sink_core.specs.Appending.{EncodedBatch, batch_of, size_behind, put_plan, new_plan, puts, repeated_plan, request_of, append_plan, stands, plan_of}
use Rattle.batch_core.specs.Refusals.{SinkRefusal, bad_log}
use Rattle.batch_core.specs.RowsIn.{rows_from, takes_rows}
use Rattle.batch_core.proofs.Callers.{asked_parts, numbered_parts}

-- ---- steps that weren't refused

-- two steps that gave this: what the first gave, and that the second gives this of it
pub both_done : {A B E : Type 0} (first : Result A E) (next : A → Result B E) (y : B) → (first >>= next) ≡ Ok y → (x : A) × (first ≡ Ok x) × (next x ≡ Ok y)
both_done (Ok x) next y is = (x, refl, is)
both_done (Err why) next y is = absurd cc

-- what is done with a value
abbrev done : {A E : Type 0} → A → Result A E
done x = Ok x

-- what was given is this
pub given : {A E : Type 0} (x y : A) → done {E = E} x ≡ done y → x ≡ y
given x y is = cc

-- what was given isn't another refusal
pub told_done : {A E F : Type 0} (tell : E → F) (read : Result A E) (x : A) → refused_as tell read ≡ Ok x → read ≡ Ok x
told_done {A = A} {E = E} tell (Ok y) x is = let same : y ≡ x = cc in ap (done {A = A} {E = E}) same
told_done tell (Err why) x is = absurd cc

-- a test that refuses nothing is false
pub passed : {E : Type 0} (test : Bool) (why : E) (x : Unit {0}) → refused_if test why ≡ Ok x → test ≡ false
passed true why x is = absurd cc
passed false why x is = refl

-- ---- the request

-- A request that was taken: of a table that is written, with rows that it takes, for the next version, and with a number
-- that isn't below the last.
pub record IsTaken (next : ℕ) (commits : List (List actions.Action)) (application : List ℕ) (number : ℕ) (items : Items) (request : SinkRequest) : Type 0 where
  pub schema : writable commits ≡ Ok request.schema
  pub supported : takes_rows request.schema ≡ Ok tt
  pub rows : rows_from 0 request.schema items ≡ Ok request.rows
  repeats : is_repeat number (last_number application commits) ≡ Ok request.repeats
  goes_on : (not request.repeats && is_closed application commits) ≡ false
  pub version : request.version ≡ next

-- the request behind the commits of a log
pub taken : (next : ℕ) (commits : List (List actions.Action)) (application : List ℕ) (number : ℕ) (items : Items) (request : SinkRequest) → request_behind next commits application number items ≡ Ok request → IsTaken next commits application number items request
taken next commits application number items request is =
    let parts = asked_parts next commits application number items request is in
    let numbers = numbered_parts commits application number request.repeats parts.1 in
    record { schema = parts.0.written; supported = parts.0.takes; rows = parts.0.spelled; repeats = numbers.0; goes_on = numbers.1; version = parts.2 }

-- ---- the batch

-- a batch that a request asks for
pub record IsRequestOfBatch (request : SinkRequest) (application : List ℕ) (number : ℕ) (batch : EncodedBatch) : Type 0 where
  pub version : batch.version ≡ request.version
  schema : batch.schema ≡ request.schema
  name : batch.name ≡ plain_file_name application number

module _ (found : Option (List ℕ)) (request : SinkRequest) (application : List ℕ) (number at : ℕ) where
  -- the batch with this file
  abbrev made : List ℕ → EncodedBatch
  made file = record {
    version = request.version;
    schema = request.schema;
    rows = request.rows;
    name = batch_file_name application number;
    file = file;
    commit = commit_text (batch_actions application number at (size_behind file found) (length request.rows));
  }

  abbrev with_bytes : List ℕ → Result EncodedBatch SinkRefusal
  with_bytes file = Ok (made file)

  -- the batch of a request is one that it asks for
  pub batch_asked : (batch : EncodedBatch) → batch_of found request application number at ≡ Ok batch → IsRequestOfBatch request application number batch
  unfolding batch_of batch_file_name
  batch_asked batch is =
      let a = both_done (file_or_refusal (written_file request.schema request.rows)) with_bytes batch is in
      let same : made a.0 ≡ batch = given {E = SinkRefusal} (made a.0) batch a.2 in
      subst (IsRequestOfBatch request application number) same (record { version = refl; schema = refl; name = refl })

-- ---- the step

-- A batch that is put: the commits of the log, and what was found in them.
pub record PutsBatch (objects : Objects) (application : List ℕ) (number : ℕ) (batch : EncodedBatch) : Type 0 where
  pub commits : List (List actions.Action)
  pub log : log_of objects ≡ Ok commits
  pub schema : writable commits ≡ Ok batch.schema
  pub new : is_repeat number (last_number application commits) ≡ Ok false
  pub goes_on : is_closed application commits ≡ false
  pub version : batch.version ≡ commit_count objects
  pub name : batch.name ≡ plain_file_name application number
  pub fits : (fine : Unit {0}) × (unless_other_rows batch.schema batch.rows batch.name (object_at objects batch.name) ≡ Ok fine)

-- a step puts one batch
pub put_is : (batch other : EncodedBatch) → puts batch ≡ puts other → batch ≡ other
put_is batch other is = cc

module _ (objects : Objects) (application : List ℕ) (number at : ℕ) (batch : EncodedBatch) where
  -- what a request asked that puts a batch: its number is new, and its batch fits
  record NewPlan (request : SinkRequest) : Type 0 where
    new : request.repeats ≡ false
    asked : IsRequestOfBatch request application number batch
    fits : (fine : Unit {0}) × (unless_other_rows batch.schema batch.rows batch.name (object_at objects batch.name) ≡ Ok fine)

  by_repeats : (request : SinkRequest) (repeats : Bool) → request.repeats ≡ repeats
      → (if repeats then repeated_plan objects request application number else new_plan objects request application number at) ≡ Ok (puts batch) → NewPlan request
  by_repeats request true again is =
      let a = both_done (where_same request.schema request.rows (batch_file_name application number) (object_at objects (batch_file_name application number))) (λ same. Ok stands) (puts batch) is in
      let no : stands ≡ puts batch = given {E = SinkRefusal} stands (puts batch) a.2 in
      absurd cc
  by_repeats request false new is =
      let there = object_at objects (batch_file_name application number) in
      let a = both_done (batch_of there request application number at) (put_plan objects) (puts batch) is in
      let b = both_done (unless_other_rows a.0.schema a.0.rows a.0.name (object_at objects a.0.name)) (λ fits. Ok (puts a.0)) (puts batch) a.2 in
      let same : a.0 ≡ batch = put_is a.0 batch (given {E = SinkRefusal} (puts a.0) (puts batch) b.2) in
      record {
        new = new;
        asked = subst (IsRequestOfBatch request application number) same (batch_asked there request application number at a.0 a.1);
        fits = (b.0, subst (λ (found : EncodedBatch). unless_other_rows found.schema found.rows found.name (object_at objects found.name) ≡ Ok b.0) same b.1);
      }

  -- what is done for a request
  new_plan_of : (request : SinkRequest) → plan_of objects application number at request ≡ Ok (puts batch) → NewPlan request
  new_plan_of request is = by_repeats request request.repeats refl is

  -- the parts of what was found
  joined : (commits : List (List actions.Action)) (items : Items) (request : SinkRequest) → log_of objects ≡ Ok commits → IsTaken (commit_count objects) commits application number items request → NewPlan request → PutsBatch objects application number batch
  joined commits items request log is step = record {
    commits = commits;
    log = log;
    schema = is.schema ∙ ap (λ (t : Tree). Ok t) (sym step.asked.schema);
    new = is.repeats ∙ ap (λ (b : Bool). Ok b) step.new;
    goes_on = rw step.new at is.goes_on;
    version = step.asked.version ∙ is.version;
    name = step.asked.name;
    fits = step.fits;
  }

  -- An append that puts a batch.
  pub puts_batch : (items : Items) → append_plan false objects application number at items ≡ Ok (puts batch) → PutsBatch objects application number batch
  unfolding request_of
  puts_batch items is =
      let a = both_done (request_of false objects application number items) (plan_of objects application number at) (puts batch) is in
      let b = both_done (checked application number (items_len items)) (λ fine. refused_as bad_log (replayed false objects) >>= λ commits. request_behind (commit_count objects) commits application number items) a.0 a.1 in
      let c = both_done (refused_as bad_log (replayed false objects)) (λ commits. request_behind (commit_count objects) commits application number items) a.0 b.2 in
      joined c.0 items a.0 (told_done bad_log (replayed false objects) c.0 c.1) (taken (commit_count objects) c.0 application number items a.0 c.2) (new_plan_of a.0 a.2)
