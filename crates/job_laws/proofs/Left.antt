-- What a line leaves over the files that are loaded is what is loaded of what it leaves over all objects.
use Rattle.std.proofs.Common.{◌≡◌, ◌∙◌, ◌++◌, ℕ, Bool, true, false, codes, List, Option, None, Some, Result, Ok, Err, inl, inr, refl, sym, ap, subst}
use Rattle.std.specs.Prelude.{if◌then◌else◌, nat_lt, length}
use Rattle.uuid.specs.Text.{hyphenated_text, lower}
use Rattle.outcomes.specs.Results.{◌>>=◌, refused_as, refused_if}
use Rattle.store_core.specs.Objects.{Objects, IsInOrder, with_object}
use Rattle.delta_actions.specs.Action.{MetaDataAction}
use Rattle.store_core.specs.Names.{commit_name, twenty_digits}
use Rattle.delta_actions.specs.Names.{data_file_name}
use Rattle.delta_checkpoint.specs.Names.{checkpoint_id, name_with}
use Rattle.delta_replay.specs.Support.{meta_data_of_log}
use Rattle.table_folder.specs.Loads.{is_loaded, loaded}
use Rattle.commit_core.specs.Creating as creations
use Rattle.commit_core.specs.Creating.{creation_from, with_creation}
use Rattle.snapshot_core.specs.Faults.{checked_for_checkpoint}
use Rattle.snapshot_core.specs.Taking.{most_checkpoint_bytes}
use Rattle.sink_core.specs.Appending.{EncodedBatch, AppendPlan, puts, stands, is_past, append_plan, with_append, with_commit, with_file, with_file_alone}
use Rattle.sink_core.specs.Closes.{close_plan, close_text, with_close_commit}
use Rattle.batch_core.specs.Refusals.{SinkRefusal}
use Rattle.lake_script.specs.Checkpoints.{Checkpoint, NotPut, by_log, too_large, checkpoint_by_bytes, checkpoint_for, newest_version, with_checkpoint}
use Rattle.script_lines.specs.Lines.{append, checkpoint, close, Statement, create, task, foreign}
use Rattle.lake_script.specs.Runs.{Executes, MayLeave}
use Rattle.lake_script.specs.Told.{left_by_statement}
use Rattle.job_laws.specs.Looking.{LooksWithin}
use Rattle.job_laws.specs.Saved.{with_added}
use Rattle.job_laws.proofs.Added.{IsAlike, added_alike, alike_before, alike_put}
use Rattle.job_laws.proofs.Loaded.{commit_loaded, log_loaded}
use Rattle.job_laws.proofs.OwnSteps.{PutsOwn, own_append_plan}
use Rattle.job_laws.proofs.SameReads.{same_append_plan, same_close_plan}
use Rattle.job_laws.proofs.SameReplies.{same_checkpoint, same_printed, same_reply}
use Rattle.outcomes.specs.Lines.{with_newline}

-- ---- creations

-- a creation
pub created_alike : (files : List (List ℕ)) (objects : Objects) (commit : Result (List ℕ) creations.CreateRefusal) → IsInOrder objects → IsAlike files objects (with_creation (loaded files objects) commit) (with_creation objects commit)
created_alike files objects (Ok bytes) order = alike_put files objects (loaded files objects) objects (commit_name 0) bytes (commit_loaded files 0) (alike_before files objects order)
created_alike files objects (Err refusal) order = alike_before files objects order

-- ---- appends

-- the file of a batch
pub file_alike : (files : List (List ℕ)) (objects : Objects) (application : List ℕ) (number : ℕ) (step : Result AppendPlan SinkRefusal) → IsInOrder objects → is_loaded files (data_file_name application number) ≡ true → PutsOwn application number step
    → IsAlike files objects (with_file_alone (loaded files objects) step) (with_file_alone objects step)
file_alike files objects application number (Ok (puts batch)) order is own =
    alike_put files objects (loaded files objects) objects batch.name batch.file (ap (is_loaded files) own.name ∙ is) (alike_before files objects order)
file_alike files objects application number (Ok stands) order is own = alike_before files objects order
file_alike files objects application number (Err refusal) order is own = alike_before files objects order

-- its commit, which is put where one may have its version
commit_alike : (files : List (List ℕ)) (objects one other : Objects) (batch : EncodedBatch) → IsAlike files objects one other → IsAlike files objects (with_commit one batch) (with_commit other batch)
commit_alike files objects one other batch alike = by_version (is_past batch.version)
  where
    by_version : (past : Bool)
        → IsAlike files objects (if past then one else with_object one (commit_name batch.version) batch.commit) (if past then other else with_object other (commit_name batch.version) batch.commit)
    by_version true = alike
    by_version false = alike_put files objects one other (commit_name batch.version) batch.commit (commit_loaded files batch.version) alike

-- the file, and the commit
pub append_alike : (files : List (List ℕ)) (objects : Objects) (application : List ℕ) (number : ℕ) (step : Result AppendPlan SinkRefusal) → IsInOrder objects → is_loaded files (data_file_name application number) ≡ true → PutsOwn application number step
    → IsAlike files objects (with_append (loaded files objects) step) (with_append objects step)
append_alike files objects application number (Ok (puts batch)) order is own =
    commit_alike files objects (with_file (loaded files objects) batch) (with_file objects batch) batch (file_alike files objects application number (Ok (puts batch)) order is own)
append_alike files objects application number (Ok stands) order is own = alike_before files objects order
append_alike files objects application number (Err refusal) order is own = alike_before files objects order

-- ---- closes

-- its commit, which is put where one may have its version
pub close_alike : (files : List (List ℕ)) (objects : Objects) (application : List ℕ) (at : ℕ) (step : Result (Option ℕ) SinkRefusal) → IsInOrder objects → IsAlike files objects (with_close_commit (loaded files objects) application at step) (with_close_commit objects application at step)
close_alike files objects application at (Ok (Some version)) order = by_version (is_past version)
  where
    by_version : (past : Bool)
        → IsAlike files objects (if past then loaded files objects else with_object (loaded files objects) (commit_name version) (close_text application at)) (if past then objects else with_object objects (commit_name version) (close_text application at))
    by_version true = alike_before files objects order
    by_version false = alike_put files objects (loaded files objects) objects (commit_name version) (close_text application at) (commit_loaded files version) (alike_before files objects order)
close_alike files objects application at (Ok None) order = alike_before files objects order
close_alike files objects application at (Err refusal) order = alike_before files objects order

-- ---- checkpoints

-- a name in the log's folder with a checkpoint's version is loaded, whatever the version
named_loaded : (files : List (List ℕ)) (version : ℕ) (id : List ℕ) → is_loaded files (name_with version id) ≡ true
named_loaded files version id = log_loaded files (twenty_digits version ++ (codes ".checkpoint." ++ (id ++ codes ".json")))

-- the name of what is put is loaded
abbrev PutsLoaded : (files : List (List ℕ)) → Result Checkpoint NotPut → Type 0
PutsLoaded files (Ok c) = is_loaded files c.name ≡ true
PutsLoaded files (Err why) = Unit {0}

-- so it is behind a step that may be refused
loaded_behind : {A : Type 0} (files : List (List ℕ)) (r : Result A NotPut) (f : A → Result Checkpoint NotPut) → ((a : A) → PutsLoaded files (f a)) → PutsLoaded files (r >>= f)
loaded_behind files (Ok a) f all = all a
loaded_behind files (Err why) f all = tt

of_version : (files : List (List ℕ)) (version : ℕ) (meta_data : Option MetaDataAction) → PutsLoaded files (checkpoint_for version meta_data)
of_version files version None = tt
of_version files version (Some m) = named_loaded files version (hyphenated_text lower (checkpoint_id version m.id))

puts_loaded : (files : List (List ℕ)) (objects : Objects) (bytes : List ℕ) → PutsLoaded files (checkpoint_by_bytes objects bytes)
puts_loaded files objects bytes =
    loaded_behind files (refused_as by_log (checked_for_checkpoint false objects)) _ (λ commits. loaded_behind files (refused_if (nat_lt most_checkpoint_bytes (length bytes)) too_large) _ (λ fits. of_version files (newest_version objects) (meta_data_of_log commits)))

checkpoint_alike : (files : List (List ℕ)) (objects : Objects) (bytes : List ℕ) (made : Result Checkpoint NotPut) → IsInOrder objects → PutsLoaded files made → IsAlike files objects (with_checkpoint (loaded files objects) bytes made) (with_checkpoint objects bytes made)
checkpoint_alike files objects bytes (Ok c) order is = alike_put files objects (loaded files objects) objects c.name bytes is (alike_before files objects order)
checkpoint_alike files objects bytes (Err why) order is = alike_before files objects order

-- ---- what a line leaves

left_alike : (objects : Objects) (statement : Statement) (files : List (List ℕ)) (printed : List ℕ) → IsInOrder objects → LooksWithin objects statement files → IsAlike files objects (left_by_statement (loaded files objects) statement printed) (left_by_statement objects statement printed)
left_alike objects (create id at schema) files printed order within = created_alike files objects (creation_from id at schema printed) order
left_alike objects (task (append application number at rows)) files printed order within =
    subst (λ (step : Result AppendPlan SinkRefusal). IsAlike files objects (with_append (loaded files objects) step) (with_append objects (append_plan false objects application number at rows)))
    (sym (same_append_plan files objects application number at rows (within (data_file_name application number) refl)))
    (append_alike files objects application number (append_plan false objects application number at rows) order (within (data_file_name application number) refl) (own_append_plan false objects application number at rows))
left_alike objects (task (close application at)) files printed order within =
    subst (λ (step : Result (Option ℕ) SinkRefusal). IsAlike files objects (with_close_commit (loaded files objects) application at step) (with_close_commit objects application at (close_plan false objects application)))
    (sym (same_close_plan files objects application)) (close_alike files objects application at (close_plan false objects application) order)
left_alike objects (task checkpoint) files printed order within =
    subst (λ (made : Result Checkpoint NotPut). IsAlike files objects (with_checkpoint (loaded files objects) printed made) (with_checkpoint objects printed (checkpoint_by_bytes objects printed)))
    (sym (same_checkpoint files objects printed))
    (checkpoint_alike files objects printed (checkpoint_by_bytes objects printed) order (puts_loaded files objects printed))
left_alike objects (foreign version action) files printed order within =
    alike_put files objects (loaded files objects) objects (commit_name version) (with_newline action) (commit_loaded files version) (alike_before files objects order)
left_alike objects _ files printed order within = alike_before files objects order

-- what a line leaves is loaded of what it leaves over all objects
pub left_loaded : (objects : Objects) (statement : Statement) (files : List (List ℕ)) (printed : List ℕ) → IsInOrder objects → LooksWithin objects statement files → left_by_statement (loaded files objects) statement printed ≡ loaded files (left_by_statement objects statement printed)
left_loaded objects statement files printed order within = (left_alike objects statement files printed order within).is

-- where nothing was put, nothing is added
none_added : (files : List (List ℕ)) (objects after : Objects) → IsInOrder objects → after ≡ loaded files objects → with_added (loaded files objects) after objects ≡ objects
none_added files objects after order same =
    ap (λ (o : Objects). with_added (loaded files objects) o objects) same ∙ added_alike files objects (loaded files objects) objects order (alike_before files objects order)

-- what a line leaves whose growth was refused
may_leave : (objects after : Objects) (statement : Statement) (files : List (List ℕ)) → IsInOrder objects → LooksWithin objects statement files → MayLeave (loaded files objects) statement after → MayLeave objects statement (with_added (loaded files objects) after objects)
may_leave objects after (task (append application number at rows)) files order within (inl same) = inl (none_added files objects after order same)
may_leave objects after (task (append application number at rows)) files order within (inr alone) =
    inr (ap (λ (o : Objects). with_added (loaded files objects) o objects)
    (alone ∙ ap (with_file_alone (loaded files objects)) (same_append_plan files objects application number at rows (within (data_file_name application number) refl)))
    ∙ added_alike files objects (with_file_alone (loaded files objects) (append_plan false objects application number at rows)) (with_file_alone objects (append_plan false objects application number at rows)) order
    (file_alike files objects application number (append_plan false objects application number at rows) order (within (data_file_name application number) refl) (own_append_plan false objects application number at rows)))
may_leave objects after _ files order within same = none_added files objects after order same

-- what a line is executed over the files that are loaded is executed over all objects
pub executed : (objects after : Objects) (statement : Statement) (files : List (List ℕ)) (reply : List ℕ) → IsInOrder objects → LooksWithin objects statement files → Executes (loaded files objects) statement reply after
    → Executes objects statement reply (with_added (loaded files objects) after objects)
executed objects after statement files reply order within (inl has) =
    inl (
      has.0,
      same_printed objects statement files has.0 within has.1,
      has.2 ∙ same_reply objects statement files has.0 within,
      ap (λ (o : Objects). with_added (loaded files objects) o objects) has.3
          ∙ added_alike files objects (left_by_statement (loaded files objects) statement has.0) (left_by_statement objects statement has.0) order (left_alike objects statement files has.0 order within),
    )
executed objects after statement files reply order within (inr short) = inr (short.0, may_leave objects after statement files order within short.1)
