-- An append whose data file alone was saved is told the same when it is handed in again.
use Rattle.std.proofs.Common.{◌≡◌, ◌∙◌, ℕ, Bool, true, false, List, [], Option, Some, Result, Ok, refl, sym, ap, subst}
use Rattle.std.specs.Prelude.{if◌then◌else◌, unwrap_or}
use Rattle.outcomes.specs.Results.{◌>>=◌}
use Rattle.serde_json.specs.Data.{Items}
use Rattle.store_core.specs.Objects.{Objects, IsInOrder, object_at, with_object}
use Rattle.store_core.specs.ObjectLaws.{IsInOrder-with_object, object_at-with_object_other, object_at-with_object_same, same_objects}
use Rattle.delta_actions.specs.Names.{data_file_name as plain_file_name}
use Rattle.table_folder.specs.Loads.{is_loaded, is_of_log, loaded}
use Rattle.batch_core.specs.Committing.{batch_file_name}
use Rattle.batch_core.specs.Requests.{SinkRequest}
use Rattle.sink_core.specs.Appending.{EncodedBatch, IsWellMade, PutsWell, AppendPlan, plan_answer, appended_by, batch_of, put_plan, new_plan, puts, repeated_plan, request_of, append_plan, plan_of, with_file, with_file_alone}
use Rattle.batch_core.specs.Refusals.{SinkRefusal}
use Rattle.sink_core.specs.declared.sink_state.SinkOutcome.TheVariants.{Committed}
use Rattle.job_laws.proofs.Added.{two_names}
use Rattle.job_laws.proofs.AppendedAgain.{IsNew, committed_put}
use Rattle.job_laws.proofs.AppendedFile.{file_fits, file_named_so, made_beside}
use Rattle.job_laws.proofs.Loaded.{loaded_at, loaded_in_order, loaded_not}
use Rattle.job_laws.proofs.OwnSteps.{batch_own}
use Rattle.job_laws.proofs.SameReads.{same_request}

-- a data file is none of the log
data_file_outside : (application : List ℕ) (number : ℕ) → is_loaded [] (plain_file_name application number) ≡ false
unfolding is_of_log
data_file_outside application number = refl

-- a put under a name that isn't loaded isn't seen
put_outside : (files : List (List ℕ)) (objects : Objects) (name bytes : List ℕ) → IsInOrder objects → is_loaded files name ≡ false → loaded files (with_object objects name bytes) ≡ loaded files objects
put_outside files objects name bytes order not =
    same_objects (loaded files (with_object objects name bytes)) (loaded files objects)
    (loaded_in_order files (with_object objects name bytes) (IsInOrder-with_object objects name bytes order)) (loaded_in_order files objects order)
    (λ other. by_case other (is_loaded files other) refl)
  where
    by_case : (other : List ℕ) (b : Bool) → is_loaded files other ≡ b → object_at (loaded files (with_object objects name bytes)) other ≡ object_at (loaded files objects) other
    by_case other true e =
        loaded_at files (with_object objects name bytes) other e
        ∙ object_at-with_object_other objects name bytes other (λ same. two_names files other name e not (sym same))
        ∙ sym (loaded_at files objects other e)
    by_case other false e = loaded_not files (with_object objects name bytes) other e ∙ sym (loaded_not files objects other e)

-- so what is asked of the table is asked as before
request_beside : (objects : Objects) (name bytes application : List ℕ) (number : ℕ) (items : Items) → IsInOrder objects → is_loaded [] name ≡ false
    → request_of false (with_object objects name bytes) application number items ≡ request_of false objects application number items
request_beside objects name bytes application number items order not =
    sym (same_request [] (with_object objects name bytes) application number items)
    ∙ ap (λ (o : Objects). request_of false o application number items) (put_outside [] objects name bytes order not)
    ∙ same_request [] objects application number items

module _ (objects : Objects) (application : List ℕ) (number at version : ℕ) (items : Items) (order : IsInOrder objects) where
  -- it is made as before once its file stands
  made_there : (batch : EncodedBatch) → (is : IsNew objects application number at items batch) → batch_of (object_at (with_file objects batch) (batch_file_name application number)) is.request application number at ≡ Ok batch
  made_there batch is =
      let name = batch_file_name application number in
      let before = object_at objects name in
      let own : batch.name ≡ name = file_named_so before is.request application number at batch is.made in
      let there : object_at (with_file objects batch) name ≡ Some (unwrap_or before batch.file) =
      subst (λ (n : List ℕ). object_at (with_file objects batch) n ≡ Some (unwrap_or (object_at objects n) batch.file)) own (object_at-with_object_same objects batch.name batch.file) in
      ap (λ (found : Option (List ℕ)). batch_of found is.request application number at) there ∙ made_beside before is.request application number at batch is.made

  -- the batch is put again
  again : (batch : EncodedBatch) → IsNew objects application number at items batch → IsWellMade application number at batch → batch.name ≡ plain_file_name application number
      → append_plan false (with_file objects batch) application number at items ≡ Ok (puts batch)
  again batch is well named =
      let beside = with_file objects batch in
      let outside : is_loaded [] batch.name ≡ false = ap (is_loaded []) named ∙ data_file_outside application number in
      ap (λ (r : Result SinkRequest SinkRefusal). r >>= plan_of beside application number at) (request_beside objects batch.name batch.file application number items order outside ∙ is.asked)
      ∙ ap (λ (repeats : Bool). if repeats then repeated_plan beside is.request application number else new_plan beside is.request application number at) is.new
      ∙ ap (λ (b : Result EncodedBatch SinkRefusal). b >>= put_plan beside) (made_there batch is)
      ∙ file_fits objects batch application number at well is.fits

  pub told_alone : PutsWell application number at (append_plan false objects application number at items) → appended_by false objects application number at items ≡ Ok (Committed version)
      → appended_by false (with_file_alone objects (append_plan false objects application number at items)) application number at items ≡ Ok (Committed version)
  told_alone well told =
      let a = committed_put objects application number at items version told in
      let batch = a.0 in
      let was = subst (PutsWell application number at) a.1 well in
      let named = batch_named batch a.2 in
      let first : plan_answer number (puts batch) ≡ Ok (Committed version) = ap (λ (s : Result AppendPlan SinkRefusal). s >>= plan_answer number) (sym a.1) ∙ told in
      subst (λ (s : Result AppendPlan SinkRefusal). appended_by false (with_file_alone objects s) application number at items ≡ Ok (Committed version)) (sym a.1)
      (ap (λ (s : Result AppendPlan SinkRefusal). s >>= plan_answer number) (again batch a.2 was named) ∙ first)
    where
      batch_named : (batch : EncodedBatch) → IsNew objects application number at items batch → batch.name ≡ plain_file_name application number
      batch_named batch is = (batch_own (object_at objects (batch_file_name application number)) is.request application number at batch is.made).name
