-- An append that stands is told so when it is handed in again, and puts nothing.
use Rattle.std.proofs.Common.{◌≡◌, ◌∙◌, ℕ, Bool, true, false, List, Result, Ok, refl, sym, ap, subst}
use Rattle.std.specs.Prelude.{if◌then◌else◌}
use Rattle.outcomes.specs.Results.{◌>>=◌, refused_if}
use Rattle.serde_json.specs.Data.{Items}
use Rattle.store_core.specs.Objects.{Objects, object_at}
use Rattle.batch_core.specs.Committing.{batch_file_name}
use Rattle.batch_core.specs.Requests.{SinkRequest, unless_other_rows, where_same}
use Rattle.sink_core.specs.Appending.{EncodedBatch, IsWellMade, PutsWell, AppendPlan, plan_answer, appended_by, batch_of, put_plan, is_past, new_plan, puts, repeated_plan, request_of, append_plan, stands, plan_of, with_append}
use Rattle.batch_core.specs.Refusals.{SinkRefusal, too_large}
use Rattle.sink_core.specs.declared.sink_state.SinkOutcome.TheVariants.{Already, Committed}
use Rattle.job_laws.proofs.AppendedFile.{appended_same}
use Rattle.job_laws.proofs.AppendedLog.{appended_request}
use Rattle.job_laws.proofs.Requests.{both_done, given, passed, put_is}

module _ (objects : Objects) (application : List ℕ) (number at : ℕ) (items : Items) where
  -- A new number's batch is put: its request, and the batch that fits.
  pub record IsNew (batch : EncodedBatch) : Type 0 where
    pub request : SinkRequest
    pub asked : request_of false objects application number items ≡ Ok request
    pub new : request.repeats ≡ false
    pub made : batch_of (object_at objects (batch_file_name application number)) request application number at ≡ Ok batch
    pub fits : put_plan objects batch ≡ Ok (puts batch)

  -- a batch that fits is the one that is put
  fits_is : (found batch : EncodedBatch) → put_plan objects found ≡ Ok (puts batch) → found ≡ batch
  fits_is found batch is =
      let a = both_done (unless_other_rows found.schema found.rows found.name (object_at objects found.name)) (λ fits. Ok (puts found)) (puts batch) is in
      put_is found batch (given {E = SinkRefusal} (puts found) (puts batch) a.2)

  by_repeats : (request : SinkRequest) (batch : EncodedBatch) → request_of false objects application number items ≡ Ok request → (repeats : Bool) → request.repeats ≡ repeats
      → (if repeats then repeated_plan objects request application number else new_plan objects request application number at) ≡ Ok (puts batch) → IsNew batch
  by_repeats request batch asked true again is =
      let a = both_done (where_same request.schema request.rows (batch_file_name application number) (object_at objects (batch_file_name application number))) (λ same. Ok stands) (puts batch) is in
      let no : stands ≡ puts batch = given {E = SinkRefusal} stands (puts batch) a.2 in
      absurd cc
  by_repeats request batch asked false new is =
      let a = both_done (batch_of (object_at objects (batch_file_name application number)) request application number at) (put_plan objects) (puts batch) is in
      let same : a.0 ≡ batch = fits_is a.0 batch a.2 in
      record {
        request = request;
        asked = asked;
        new = new;
        made = a.1 ∙ ap (λ (b : EncodedBatch). Ok b) same;
        fits = subst (λ (b : EncodedBatch). put_plan objects b ≡ Ok (puts batch)) same a.2;
      }

  -- what is told as committed is put, and a commit may have its version
  step_put : (version : ℕ) (step : AppendPlan) → append_plan false objects application number at items ≡ Ok step → plan_answer number step ≡ Ok (Committed version)
      → (batch : EncodedBatch) × (append_plan false objects application number at items ≡ Ok (puts batch)) × IsNew batch × (is_past batch.version ≡ false)
  step_put version stands is told = absurd cc
  step_put version (puts batch) is told =
      let a = both_done (request_of false objects application number items) (plan_of objects application number at) (puts batch) is in
      let b = both_done (refused_if (is_past batch.version) too_large) (λ small. Ok (Committed batch.version)) (Committed version) told in
      (batch, is, by_repeats a.0 batch a.1 a.0.repeats refl a.2, passed (is_past batch.version) too_large b.0 b.1)

  pub committed_put : (version : ℕ) → appended_by false objects application number at items ≡ Ok (Committed version)
      → (batch : EncodedBatch) × (append_plan false objects application number at items ≡ Ok (puts batch)) × IsNew batch × (is_past batch.version ≡ false)
  committed_put version is =
      let a = both_done (append_plan false objects application number at items) (plan_answer number) (Committed version) is in
      step_put version a.0 a.1 a.2

  -- behind the puts of a batch its append is known: it stands
  batch_again : (later : ℕ) (batch : EncodedBatch) → IsNew batch → is_past batch.version ≡ false → IsWellMade application number at batch → append_plan false (with_append objects (Ok (puts batch))) application number later items ≡ Ok stands
  batch_again later batch is small well =
      let behind = with_append objects (Ok (puts batch)) in
      let a = appended_request objects application number at items (object_at objects (batch_file_name application number)) is.request batch is.asked is.new is.made small well in
      let again : SinkRequest = record { version = a.0; schema = is.request.schema; rows = is.request.rows; repeats = true } in
      ap (λ (r : Result SinkRequest SinkRefusal). r >>= plan_of behind application number later) a.1
      ∙ appended_same objects application number at (object_at objects (batch_file_name application number)) is.request again batch is.made well is.fits refl refl

  pub append_plan_again : (later version : ℕ) → PutsWell application number at (append_plan false objects application number at items) → appended_by false objects application number at items ≡ Ok (Committed version)
      → append_plan false (with_append objects (append_plan false objects application number at items)) application number later items ≡ Ok stands
  append_plan_again later version well told =
      let a = committed_put version told in
      subst (λ (step : Result AppendPlan SinkRefusal). append_plan false (with_append objects step) application number later items ≡ Ok stands) (sym a.1)
      (batch_again later a.0 a.2 a.3 (subst (PutsWell application number at) a.1 well))

  pub told_again : (later version : ℕ) → PutsWell application number at (append_plan false objects application number at items) → appended_by false objects application number at items ≡ Ok (Committed version)
      → appended_by false (with_append objects (append_plan false objects application number at items)) application number later items ≡ Ok (Already number)
  told_again later version well told =
      ap (λ (step : Result AppendPlan SinkRefusal). step >>= plan_answer number) (append_plan_again later version well told)
