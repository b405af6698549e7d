-- What lines are told of the log over the objects that are loaded is what they are told over all objects.
use Rattle.std.proofs.Common.{◌≡◌, ◌∙◌, ℕ, Bool, true, false, List, Option, Result, Ok, Err, cond, refl, sym, ap}
use Rattle.std.specs.Prelude.{None, Some}
use Rattle.outcomes.specs.Results.{◌>>=◌, or_refusal, refused_as}
use Rattle.serde_json.specs.Events.{items_len}
use Rattle.serde_json.specs.Data.{Items}
use Rattle.store_core.specs.Objects.{Objects, object_at}
use Rattle.delta_actions.specs.Action.{Action}
use Rattle.delta_actions.specs.Names.{data_file_name as plain_file_name}
use Rattle.delta_replay.specs.Support.{checkpointable, readable}
use Rattle.table_log.specs.Counts.{commit_count}
use Rattle.store_core.specs.Names.{commit_name}
use Rattle.table_log.specs.Restoring.{replayed}
use Rattle.log_reading.specs.InForce.{SchemaText}
use Rattle.table_model.specs.declared.reading.Offset.{Offset}
use Rattle.table_folder.specs.Loads.{is_loaded, loaded}
use Rattle.commit_core.specs.Creating.{creation_from, created_by, unless_there}
use Rattle.commit_core.specs.Histories.{history_in, history_of}
use Rattle.snapshot_core.specs.Faults as faults
use Rattle.sink_core.specs.Appending as appends
use Rattle.batch_core.specs.Committing.{batch_file_name}
use Rattle.sink_core.specs.Closes.{close_answer, close_of, close_plan, stream_closed_by, closing_version}
use Rattle.batch_core.specs.Requests.{SinkRequest, checked, close_behind, named, request_behind, unless_other_rows, where_same}
use Rattle.sink_core.specs.Appending.{EncodedBatch, AppendPlan, appended_by, plan_answer, batch_of, put_plan, puts, request_of, append_plan, stands, plan_of}
use Rattle.batch_core.specs.Refusals.{SinkRefusal, bad_log}
use Rattle.log_offsets.specs.Offsets.{offset_of}
use Rattle.lake_script.specs.Tailing as tails
use Rattle.lake_script.specs.Tailing.{bad_offset, handed_by, schema_at, versions_at}
use Rattle.lake_script.specs.TailTexts.{handed_text, tailed}
use Rattle.job_laws.specs.Looking.{IsReadFrom}
use Rattle.job_laws.proofs.Loaded.{commit_loaded, loaded_at}
use Rattle.job_laws.proofs.LoadedItems.{AddsLoaded, handed_alike, schema_alike, versions_alike}
use Rattle.job_laws.proofs.SameLogs.{same_count, same_replayed, same_versions}

-- ---- steps of which one may be refused

-- what follows is the same where it is so of each value that is handed on
pub same_after : {A B E : Type 0} (r : Result A E) (f g : A → Result B E) → ((a : A) → r ≡ Ok a → f a ≡ g a) → (r >>= f) ≡ (r >>= g)
same_after (Ok a) f g same = same a refl
same_after (Err e) f g same = refl

-- ---- creations

-- what a creation makes is told alike
pub same_created : (files : List (List ℕ)) (objects : Objects) (id : List ℕ) (at : ℕ) (schema printed : List ℕ) → created_by (loaded files objects) id at schema printed ≡ created_by objects id at schema printed
same_created files objects id at schema printed =
    ap (λ (found : Option (List ℕ)). unless_there found (creation_from id at schema printed)) (loaded_at files objects (commit_name 0) (commit_loaded files 0))

-- ---- appends

-- the name of a batch's file
file_named : (application : List ℕ) (number : ℕ) → batch_file_name application number ≡ plain_file_name application number
unfolding batch_file_name
file_named application number = refl

-- what is asked of a table
pub same_request : (files : List (List ℕ)) (objects : Objects) (application : List ℕ) (number : ℕ) (items : Items) → request_of false (loaded files objects) application number items ≡ request_of false objects application number items
unfolding request_of
same_request files objects application number items =
    ap (λ (log : Result (List (List Action)) ℕ). checked application number (items_len items) >>= λ fine. refused_as bad_log log >>= λ commits. request_behind (commit_count (loaded files objects)) commits application number items) (same_replayed files objects)
    ∙ ap (λ (next : ℕ). checked application number (items_len items) >>= λ fine. refused_as bad_log (replayed false objects) >>= λ commits. request_behind next commits application number items) (same_count files objects)

-- what is asked of the table by a close
same_close : (files : List (List ℕ)) (objects : Objects) (application : List ℕ) → close_of false (loaded files objects) application ≡ close_of false objects application
unfolding close_of
same_close files objects application =
    ap (λ (log : Result (List (List Action)) ℕ). named application >>= λ fine. refused_as bad_log log >>= λ commits. close_behind (commit_count (loaded files objects)) commits application) (same_replayed files objects)
    ∙ ap (λ (next : ℕ). named application >>= λ fine. refused_as bad_log (replayed false objects) >>= λ commits. close_behind next commits application) (same_count files objects)

-- what a close does
pub same_close_plan : (files : List (List ℕ)) (objects : Objects) (application : List ℕ) → close_plan false (loaded files objects) application ≡ close_plan false objects application
same_close_plan files objects application = ap (λ (request : Result SinkRequest SinkRefusal). request >>= λ r. Ok (closing_version r)) (same_close files objects application)

-- and what it answers
pub same_closed : (files : List (List ℕ)) (objects : Objects) (application : List ℕ) → stream_closed_by false (loaded files objects) application ≡ stream_closed_by false objects application
same_closed files objects application = ap (λ (plan : Result (Option ℕ) SinkRefusal). plan >>= close_answer) (same_close_plan files objects application)

-- a batch that is made in steps has its name
made_named : (name : List ℕ) (file : Result (List ℕ) SinkRefusal) (make : List ℕ → EncodedBatch) → ((bytes : List ℕ) → (make bytes).name ≡ name) → (batch : EncodedBatch) → (file >>= λ bytes. Ok (make bytes)) ≡ Ok batch → batch.name ≡ name
made_named name (Err refusal) make all batch is = cc
made_named name (Ok bytes) make all batch is = let same : make bytes ≡ batch = cc in ap (λ b. b.name) (sym same) ∙ all bytes

-- a batch is put under the name of its file
batch_named : (found : Option (List ℕ)) (request : SinkRequest) (application : List ℕ) (number at : ℕ) (batch : EncodedBatch) → batch_of found request application number at ≡ Ok batch → batch.name ≡ batch_file_name application number
unfolding batch_of
batch_named found request application number at batch is = made_named (batch_file_name application number) _ _ (λ bytes. refl) batch is

-- what is done for a request, which looks at the batch's file alone
module _ (files : List (List ℕ)) (objects : Objects) (application : List ℕ) (number at : ℕ) (own : is_loaded files (plain_file_name application number) ≡ true) where
  -- the file stands as it did
  same_file : object_at (loaded files objects) (batch_file_name application number) ≡ object_at objects (batch_file_name application number)
  same_file = loaded_at files objects (batch_file_name application number) (ap (is_loaded files) (file_named application number) ∙ own)

  -- a batch fits as it did
  same_put_plan : (batch : EncodedBatch) → batch.name ≡ batch_file_name application number → put_plan (loaded files objects) batch ≡ put_plan objects batch
  same_put_plan batch is =
      ap (λ (found : Option (List ℕ)). unless_other_rows batch.schema batch.rows batch.name found >>= λ fits. Ok (puts batch))
      (ap (object_at (loaded files objects)) is ∙ same_file ∙ ap (object_at objects) (sym is))

  same_plan : (request : SinkRequest) → plan_of (loaded files objects) application number at request ≡ plan_of objects application number at request
  same_plan request = by_case request.repeats
    where
      by_case : (repeats : Bool) → cond repeats (appends.repeated_plan (loaded files objects) request application number) (appends.new_plan (loaded files objects) request application number at)
          ≡ cond repeats (appends.repeated_plan objects request application number) (appends.new_plan objects request application number at)
      by_case true = ap (λ (found : Option (List ℕ)). where_same request.schema request.rows (batch_file_name application number) found >>= λ same. Ok stands) same_file
      by_case false =
          let there = object_at objects (batch_file_name application number) in
          ap (λ (found : Option (List ℕ)). batch_of found request application number at >>= put_plan (loaded files objects)) same_file
          ∙ same_after (batch_of there request application number at) (put_plan (loaded files objects)) (put_plan objects) (λ batch is. same_put_plan batch (batch_named there request application number at batch is))

-- what an append does
pub same_append_plan : (files : List (List ℕ)) (objects : Objects) (application : List ℕ) (number at : ℕ) (items : Items) → is_loaded files (plain_file_name application number) ≡ true
    → append_plan false (loaded files objects) application number at items ≡ append_plan false objects application number at items
same_append_plan files objects application number at items own =
    ap (λ (request : Result SinkRequest SinkRefusal). request >>= plan_of (loaded files objects) application number at) (same_request files objects application number items)
    ∙ same_after (request_of false objects application number items) (plan_of (loaded files objects) application number at) (plan_of objects application number at) (λ request is. same_plan files objects application number at own request)

-- what an append answers
pub same_appended : (files : List (List ℕ)) (objects : Objects) (application : List ℕ) (number at : ℕ) (items : Items) → is_loaded files (plain_file_name application number) ≡ true
    → appended_by false (loaded files objects) application number at items ≡ appended_by false objects application number at items
same_appended files objects application number at items own =
    ap (λ (step : Result AppendPlan SinkRefusal). step >>= plan_answer number) (same_append_plan files objects application number at items own)

-- ---- checkpoints, snapshots and the versions of a log

-- the commits of which a checkpoint may be put
pub same_checked : (files : List (List ℕ)) (objects : Objects) → faults.checked_for_checkpoint false (loaded files objects) ≡ faults.checked_for_checkpoint false objects
same_checked files objects =
    ap (λ (log : Result (List (List Action)) ℕ). refused_as faults.bad_log log >>= λ commits. refused_as faults.unsupported (checkpointable commits) >>= λ fine. Ok commits) (same_replayed files objects)

-- the commits of a log whose table is read
pub same_readable : (files : List (List ℕ)) (objects : Objects) → faults.readable_log false (loaded files objects) ≡ faults.readable_log false objects
same_readable files objects =
    ap (λ (log : Result (List (List Action)) ℕ). refused_as faults.bad_log log >>= λ commits. refused_as faults.unsupported (readable commits) >>= λ schema. Ok commits) (same_replayed files objects)

-- what is told of its versions
pub same_history : (files : List (List ℕ)) (objects : Objects) → history_of (loaded files objects) ≡ history_of objects
same_history files objects = ap history_in (same_versions files objects)

-- ---- reads from an offset on

-- a text that is an offset spells its place
place_told : (offset : List ℕ) (place : Offset) → or_refusal (offset_of offset) bad_offset ≡ Ok place → offset_of offset ≡ Some place
place_told offset place is = by_case (offset_of offset) is
  where
    by_case : (found : Option Offset) → or_refusal found bad_offset ≡ Ok place → found ≡ Some place
    by_case None e = absurd cc
    by_case (Some other) e = cc

-- the files that a read from a place on meets are loaded, where those are that a read from its offset on looks at
adds_loaded : (files : List (List ℕ)) (objects : Objects) (offset : List ℕ) (place : Offset) → offset_of offset ≡ Some place → ((name : List ℕ) → IsReadFrom objects offset name → is_loaded files name ≡ true) → AddsLoaded objects place files
adds_loaded files objects offset place read all = record { each = λ version name has from small. all name (record { place = place; read = read; version = version; from = from; small = small; added = has }) }

-- what a read is told from a place on
abbrev tailed_from : Objects → (max : ℕ) → Offset → Result (List ℕ) tails.ReadRefusal
tailed_from objects max place = schema_at false objects place >>= λ told. handed_by objects told (versions_at false objects place) max place >>= λ handed. Ok (handed_text told.schema handed)

same_from : (files : List (List ℕ)) (objects : Objects) (max : ℕ) (place : Offset) → AddsLoaded objects place files → tailed_from (loaded files objects) max place ≡ tailed_from objects max place
same_from files objects max place adds =
    let handed : (told : SchemaText) → handed_by (loaded files objects) told (versions_at false objects place) max place ≡ handed_by objects told (versions_at false objects place) max place = λ told. handed_alike files objects told max place adds in
    (λ i. schema_alike files objects place i >>= λ told. handed_by (loaded files objects) told (versions_alike files objects place i) max place >>= λ handed. Ok (handed_text told.schema handed))
    ∙ (λ i. schema_at false objects place >>= λ told. handed told i >>= λ handed. Ok (handed_text told.schema handed))

-- what a read is told
pub same_tailed : (files : List (List ℕ)) (objects : Objects) (max : ℕ) (offset : List ℕ) → ((name : List ℕ) → IsReadFrom objects offset name → is_loaded files name ≡ true) → tailed false (loaded files objects) max offset ≡ tailed false objects max offset
unfolding tailed
same_tailed files objects max offset all =
    same_after (or_refusal (offset_of offset) bad_offset) (tailed_from (loaded files objects) max) (tailed_from objects max)
    (λ place is. let read = place_told offset place is in same_from files objects max place (adds_loaded files objects offset place read all))
