-- What an append puts: a file under its batch's own name.
use Rattle.std.proofs.Common.{◌≡◌, ℕ, Bool, true, false, List, Option, Result, Ok, Err, refl, subst, if◌then◌else◌}
use Rattle.serde_json.specs.Data.{Items}
use Rattle.outcomes.specs.Results.{◌>>=◌}
use Rattle.store_core.specs.Objects.{Objects, object_at}
use Rattle.delta_actions.specs.Names.{data_file_name as plain_file_name}
use Rattle.batch_core.specs.Committing.{batch_file_name}
use Rattle.batch_core.specs.Requests.{SinkRequest, unless_other_rows, where_same}
use Rattle.sink_core.specs.Appending.{EncodedBatch, AppendPlan, puts, stands, batch_of, put_plan, new_plan, repeated_plan, request_of, append_plan, plan_of}
use Rattle.batch_core.specs.Refusals.{SinkRefusal}

-- the name of a batch's file
file_named : (application : List ℕ) (number : ℕ) → batch_file_name application number ≡ plain_file_name application number
unfolding batch_file_name
file_named application number = refl

-- A batch's file has the batch's own name.
pub record IsOwn (application : List ℕ) (number : ℕ) (batch : EncodedBatch) : Type 0 where
  pub name : batch.name ≡ plain_file_name application number

-- what is put is the batch's own
abbrev pub PutsOwn : (application : List ℕ) (number : ℕ) → Result AppendPlan SinkRefusal → Type 0
PutsOwn application number (Ok (puts batch)) = IsOwn application number batch
PutsOwn application number (Ok stands) = Unit {0}
PutsOwn application number (Err refusal) = Unit {0}

-- a step that puts a batch of its own, or is refused
fitted : (application : List ℕ) (number : ℕ) (batch : EncodedBatch) (fits : Result (Unit {0}) SinkRefusal) → IsOwn application number batch → PutsOwn application number (fits >>= λ fine. Ok (puts batch))
fitted application number batch (Ok fine) own = own
fitted application number batch (Err refusal) own = tt

-- a step that finds its batch
found_again : (application : List ℕ) (number : ℕ) (same : Result (Unit {0}) SinkRefusal) → PutsOwn application number (same >>= λ fine. Ok stands)
found_again application number (Ok fine) = tt
found_again application number (Err refusal) = tt

-- a batch that is made, and fits
by_batch : (objects : Objects) (application : List ℕ) (number : ℕ) (made : Result EncodedBatch SinkRefusal) → ((batch : EncodedBatch) → made ≡ Ok batch → IsOwn application number batch) → PutsOwn application number (made >>= put_plan objects)
by_batch objects application number (Ok batch) all = fitted application number batch (unless_other_rows batch.schema batch.rows batch.name (object_at objects batch.name)) (all batch refl)
by_batch objects application number (Err refusal) all = tt

-- what holds of each batch that is made in steps holds of the one that was
of_made : (P : EncodedBatch → Type 0) (file : Result (List ℕ) SinkRefusal) (make : List ℕ → EncodedBatch) → ((bytes : List ℕ) → P (make bytes)) → (batch : EncodedBatch) → (file >>= λ bytes. Ok (make bytes)) ≡ Ok batch → P batch
of_made P (Err refusal) make all batch is = cc
of_made P (Ok bytes) make all batch is = let same : make bytes ≡ batch = cc in subst P same (all bytes)

-- a batch that a request asks for is its own
pub batch_own : (found : Option (List ℕ)) (request : SinkRequest) (application : List ℕ) (number at : ℕ) (batch : EncodedBatch) → batch_of found request application number at ≡ Ok batch → IsOwn application number batch
unfolding batch_of
batch_own found request application number at batch is = of_made (IsOwn application number) _ _ (λ bytes. record { name = file_named application number }) batch is

-- whichever is chosen
chosen : (application : List ℕ) (number : ℕ) (repeats : Bool) (one other : Result AppendPlan SinkRefusal) → PutsOwn application number one → PutsOwn application number other → PutsOwn application number (if repeats then one else other)
chosen application number true one other is was = is
chosen application number false one other is was = was

step_own : (objects : Objects) (application : List ℕ) (number at : ℕ) (request : SinkRequest) → PutsOwn application number (plan_of objects application number at request)
step_own objects application number at request =
    chosen application number request.repeats (repeated_plan objects request application number) (new_plan objects request application number at)
    (found_again application number (where_same request.schema request.rows (batch_file_name application number) (object_at objects (batch_file_name application number))))
    (by_batch objects application number (batch_of (object_at objects (batch_file_name application number)) request application number at) (batch_own (object_at objects (batch_file_name application number)) request application number at))

-- what an append puts is its own
pub own_append_plan : (use_checkpoints : Bool) (objects : Objects) (application : List ℕ) (number at : ℕ) (items : Items) → PutsOwn application number (append_plan use_checkpoints objects application number at items)
own_append_plan use_checkpoints objects application number at items = by_request (request_of use_checkpoints objects application number items)
  where
    by_request : (request : Result SinkRequest SinkRefusal) → PutsOwn application number (request >>= plan_of objects application number at)
    by_request (Ok request) = step_own objects application number at request
    by_request (Err refusal) = tt
