-- What a line puts leaves each checkpoint one of the log's commits.
use Rattle.std.proofs.Common.{◌≡◌, inl, inr, ℕ, List, Option, None, Some, Bool, true, false, Result, Ok, Err, refl, sym, ap, subst, ◌∙◌, if◌then◌else◌}
use Rattle.outcomes.specs.Results.{◌>>=◌}
use Rattle.store_core.specs.Objects.{Objects, object_at, with_object}
use Rattle.store_core.specs.Names.{commit_name}
use Rattle.table_log.specs.Restoring.{AreCheckpointsSound, checkpoint_version}
use Rattle.commit_core.specs.Creating as creations
use Rattle.commit_core.specs.Creating.{with_creation, creation_from}
use Rattle.batch_core.specs.Committing.{batch_file_name}
use Rattle.batch_core.specs.Requests.{SinkRequest, unless_other_rows, where_same}
use Rattle.sink_core.specs.Appending.{EncodedBatch, AppendPlan, puts, stands, batch_of, put_plan, is_past, new_plan, repeated_plan, request_of, append_plan, plan_of, with_append, with_commit, with_file, with_file_alone, MayAppend}
use Rattle.sink_core.specs.Closes.{close_plan, close_text, with_close_commit}
use Rattle.batch_core.specs.Refusals.{SinkRefusal}
use Rattle.lake_script.specs.Growth.{MayPut}
use Rattle.script_lines.specs.Lines.{append, checkpoint, close, Statement, create, task, foreign}
use Rattle.snapshot_core.proofs.Callers.{put_sound}
use Rattle.table_log.proofs.Callers.{commit_is_none, data_file_is_none, sound_beside}
use Rattle.lake_script.proofs.KeptNames.{same_file_name}

-- a creation
created_sound : (every : Bool) (objects : Objects) (commit : Result (List ℕ) creations.CreateRefusal) → AreCheckpointsSound every objects → AreCheckpointsSound every (with_creation objects commit)
created_sound every objects (Ok bytes) sound = sound_beside objects (commit_name 0) bytes every (commit_is_none 0) sound
created_sound every objects (Err refusal) sound = sound

-- ---- an append puts its batch's file under the batch's own name

-- a step that puts a batch has that name
abbrev HasName : List ℕ → Result AppendPlan SinkRefusal → Type 0
HasName name (Ok (puts batch)) = batch.name ≡ name
HasName name (Ok stands) = Unit {0}
HasName name (Err refusal) = Unit {0}

fitted : (name : List ℕ) (batch : EncodedBatch) (fits : Result (Unit {0}) SinkRefusal) → batch.name ≡ name → HasName name (fits >>= λ fine. Ok (puts batch))
fitted name batch (Ok fine) is = is
fitted name batch (Err refusal) is = tt

by_batch : (objects : Objects) (name : List ℕ) (made : Result EncodedBatch SinkRefusal) → ((batch : EncodedBatch) → made ≡ Ok batch → batch.name ≡ name) → HasName name (made >>= put_plan objects)
by_batch objects name (Ok batch) all = fitted name batch (unless_other_rows batch.schema batch.rows batch.name _) (all batch refl)
by_batch objects name (Err refusal) all = tt

made_named : (name : List ℕ) (file : Result (List ℕ) SinkRefusal) (make : List ℕ → EncodedBatch) → ((bytes : List ℕ) → (make bytes).name ≡ name) → (batch : EncodedBatch) → (file >>= λ bytes. Ok (make bytes)) ≡ Ok batch → batch.name ≡ name
made_named name (Err refusal) make all batch is = cc
made_named name (Ok bytes) make all batch is = let same : make bytes ≡ batch = cc in ap (λ b. b.name) (sym same) ∙ all bytes

batch_named : (found : Option (List ℕ)) (request : SinkRequest) (application : List ℕ) (number at : ℕ) (batch : EncodedBatch) → batch_of found request application number at ≡ Ok batch → batch.name ≡ batch_file_name application number
unfolding batch_of
batch_named found request application number at batch is = made_named (batch_file_name application number) _ _ (λ bytes. refl) batch is

repeated_named : (name : List ℕ) (same : Result (Unit {0}) SinkRefusal) → HasName name (same >>= λ fine. Ok stands)
repeated_named name (Ok fine) = tt
repeated_named name (Err refusal) = tt

chosen : (name : List ℕ) (repeats : Bool) (one other : Result AppendPlan SinkRefusal) → HasName name one → HasName name other → HasName name (if repeats then one else other)
chosen name true one other is was = is
chosen name false one other is was = was

append_plan_by : (objects : Objects) (application : List ℕ) (number at : ℕ) (request : Result SinkRequest SinkRefusal) → HasName (batch_file_name application number) (request >>= plan_of objects application number at)
append_plan_by objects application number at (Ok request) =
    chosen (batch_file_name application number) request.repeats (repeated_plan objects request application number) (new_plan objects request application number at)
    (repeated_named _ (where_same request.schema request.rows (batch_file_name application number) _))
    (by_batch objects (batch_file_name application number) (batch_of (object_at objects (batch_file_name application number)) request application number at) (batch_named (object_at objects (batch_file_name application number)) request application number at))
append_plan_by objects application number at (Err refusal) = tt

no_checkpoint : (application : List ℕ) (number : ℕ) (name : List ℕ) → name ≡ batch_file_name application number → checkpoint_version name ≡ None
no_checkpoint application number name is = ap checkpoint_version (is ∙ same_file_name application number) ∙ data_file_is_none application number

file_sound : (every : Bool) (objects : Objects) (application : List ℕ) (number : ℕ) (step : Result AppendPlan SinkRefusal) → HasName (batch_file_name application number) step → AreCheckpointsSound every objects → AreCheckpointsSound every (with_file_alone objects step)
file_sound every objects application number (Ok (puts batch)) named sound = sound_beside objects batch.name batch.file every (no_checkpoint application number batch.name named) sound
file_sound every objects application number (Ok stands) named sound = sound
file_sound every objects application number (Err refusal) named sound = sound

-- the commit of a batch, which is put where one may have its version
commit_sound : (every : Bool) (objects : Objects) (batch : EncodedBatch) → AreCheckpointsSound every objects → AreCheckpointsSound every (with_commit objects batch)
commit_sound every objects batch sound = by_version (is_past batch.version)
  where
    by_version : (past : Bool) → AreCheckpointsSound every (if past then objects else with_object objects (commit_name batch.version) batch.commit)
    by_version true = sound
    by_version false = sound_beside objects (commit_name batch.version) batch.commit every (commit_is_none batch.version) sound

append_sound : (every : Bool) (objects : Objects) (application : List ℕ) (number : ℕ) (step : Result AppendPlan SinkRefusal) → HasName (batch_file_name application number) step → AreCheckpointsSound every objects → AreCheckpointsSound every (with_append objects step)
append_sound every objects application number (Ok (puts batch)) named sound =
    commit_sound every (with_file objects batch) batch (sound_beside objects batch.name batch.file every (no_checkpoint application number batch.name named) sound)
append_sound every objects application number (Ok stands) named sound = sound
append_sound every objects application number (Err refusal) named sound = sound

by_append : (every : Bool) (old new : Objects) (application : List ℕ) (number at : ℕ) (step : Result AppendPlan SinkRefusal) → HasName (batch_file_name application number) step → MayAppend application number at step old new → AreCheckpointsSound every old → AreCheckpointsSound every new
by_append every old new application number at step named (inl same) sound = subst (AreCheckpointsSound every) (sym same) sound
by_append every old new application number at step named (inr (well, inl alone)) sound = subst (AreCheckpointsSound every) (sym alone) (file_sound every old application number step named sound)
by_append every old new application number at step named (inr (well, inr whole)) sound = subst (AreCheckpointsSound every) (sym whole) (append_sound every old application number step named sound)

-- the commit that closes a stream, which is put where one may have its version
close_sound : (every : Bool) (objects : Objects) (application : List ℕ) (at : ℕ) (plan : Result (Option ℕ) SinkRefusal) → AreCheckpointsSound every objects → AreCheckpointsSound every (with_close_commit objects application at plan)
close_sound every objects application at (Ok (Some version)) sound = by_version (is_past version)
  where
    by_version : (past : Bool) → AreCheckpointsSound every (if past then objects else with_object objects (commit_name version) (close_text application at))
    by_version true = sound
    by_version false = sound_beside objects (commit_name version) (close_text application at) every (commit_is_none version) sound
close_sound every objects application at (Ok None) sound = sound
close_sound every objects application at (Err refusal) sound = sound

-- what a line asks for
pub puts_sound : (every : Bool) (old : Objects) (statement : Statement) (new : Objects) → MayPut old statement new → AreCheckpointsSound every old → AreCheckpointsSound every new
puts_sound every old (create id at schema) new (inl same) sound = subst (AreCheckpointsSound every) (sym same) sound
puts_sound every old (create id at schema) new (inr (printed, put)) sound = subst (AreCheckpointsSound every) (sym put.1) (created_sound every old (creation_from id at schema printed) sound)
puts_sound every old (task (append application number at items)) new put sound =
    by_append every old new application number at (append_plan false old application number at items) (append_plan_by old application number at (request_of false old application number items)) put.1 sound
puts_sound every old (task (close application at)) new (text, inl same) sound = subst (AreCheckpointsSound every) (sym same) sound
puts_sound every old (task (close application at)) new (text, inr put) sound = subst (AreCheckpointsSound every) (sym put.1) (close_sound every old application at (close_plan false old application) sound)
puts_sound every old (task checkpoint) new (inl same) sound = subst (AreCheckpointsSound every) (sym same) sound
puts_sound every old (task checkpoint) new (inr (version, put)) sound = subst (AreCheckpointsSound every) (sym put.put) (put_sound every old version put.name put.bytes put.puts sound)
puts_sound every old (foreign version action) new (inl same) sound = subst (AreCheckpointsSound every) (sym same) sound
puts_sound every old (foreign version action) new (inr put) sound = subst (AreCheckpointsSound every) (sym put) (sound_beside old (commit_name version) _ every (commit_is_none version) sound)
puts_sound every old _ new same sound = subst (AreCheckpointsSound every) (sym same) sound
