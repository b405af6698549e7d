-- Whatever front of what a line put over the files that are loaded is saved beside all objects, the line may have put it.
use Rattle.std.proofs.Common.{◌≡◌, ◌⊎◌, inl, inr, ◌∙◌, ℕ, List, Bool, true, false, if◌then◌else◌, Option, None, Some, Result, Ok, Err, refl, sym, ap, subst}
use Rattle.std.proofs.lemmas.Bool.{ltb-false}
use Rattle.store_core.specs.Objects.{Objects, IsInOrder, names_of, with_object}
use Rattle.store_core.proofs.Callers.{name_of_commit}
use Rattle.store_core.specs.Names.{commit_name, greatest_version}
use Rattle.delta_actions.specs.Names.{data_file_name}
use Rattle.table_folder.specs.Copies.{HasSavedFront, to_save}
use Rattle.table_folder.specs.Kinds.{is_data}
use Rattle.table_folder.specs.Loads.{is_loaded, loaded}
use Rattle.commit_core.specs.Creating as creations
use Rattle.commit_core.specs.Creating.{IsPut, creation_from}
use Rattle.snapshot_core.specs.Taking.{HasPut, PutsCheckpoint}
use Rattle.sink_core.specs.Appending.{EncodedBatch, IsWellMade, MayAppend, AppendPlan, is_past, puts, stands, append_plan, with_append, with_file}
use Rattle.sink_core.specs.Closes.{MayClose, close_plan, close_text, with_close_commit}
use Rattle.batch_core.specs.Refusals.{SinkRefusal}
use Rattle.lake_script.specs.Growth.{MayPut, MayPutCheckpoint}
use Rattle.script_lines.specs.Lines.{append, checkpoint, close, Statement, create, task, foreign}
use Rattle.job_laws.specs.Looking.{LooksWithin}
use Rattle.job_laws.proofs.Loaded.{checkpoint_loaded, commit_loaded}
use Rattle.job_laws.proofs.NameKinds.{file_is_data}
use Rattle.job_laws.proofs.OwnSteps.{IsOwn, PutsOwn, own_append_plan}
use Rattle.job_laws.proofs.SameLogs.{same_count, same_replayed}
use Rattle.job_laws.proofs.SameReads.{same_append_plan, same_close_plan}
use Rattle.job_laws.proofs.SavedPuts.{none_saved, one_saved, two_saved}
use Rattle.outcomes.specs.Lines.{with_newline}

-- a front of what was put over the files that are loaded was saved beside all objects
abbrev IsSaved : (files : List (List ℕ)) → (objects after new : Objects) → Type 0
IsSaved files objects after new = HasSavedFront after (to_save (names_of (loaded files objects)) (names_of after)) objects new

-- ---- creations

commit_saved : (files : List (List ℕ)) (objects after new : Objects) (at : ℕ) (schema : List ℕ) (commit : Result (List ℕ) creations.CreateRefusal) → IsInOrder objects → IsPut at schema commit (loaded files objects) after → IsSaved files objects after new
    → (new ≡ objects) ⊎ IsPut at schema commit objects new
commit_saved files objects after new at schema (Ok bytes) order put front = by_case (one_saved files objects after new (commit_name 0) bytes order (commit_loaded files 0) put.1 front)
  where
    by_case : (new ≡ objects) ⊎ (new ≡ with_object objects (commit_name 0) bytes) → (new ≡ objects) ⊎ IsPut at schema (Ok bytes) objects new
    by_case (inl same) = inl same
    by_case (inr is) = inr (put.0, is)
commit_saved files objects after new at schema (Err refusal) order put front = inl (none_saved files objects after new put.1 front)

creation_saved : (files : List (List ℕ)) (objects after new : Objects) (id : List ℕ) (at : ℕ) (schema printed : List ℕ) → IsInOrder objects → IsPut at schema (creation_from id at schema printed) (loaded files objects) after → IsSaved files objects after new
    → MayPut objects (create id at schema) new
creation_saved files objects after new id at schema printed order put front = by_case (commit_saved files objects after new at schema (creation_from id at schema printed) order put front)
  where
    by_case : (new ≡ objects) ⊎ IsPut at schema (creation_from id at schema printed) objects new → MayPut objects (create id at schema) new
    by_case (inl same) = inl same
    by_case (inr is) = inr (printed, is)

-- ---- appends

module _ (files : List (List ℕ)) (objects after new : Objects) (application : List ℕ) (number at : ℕ) (order : IsInOrder objects) (own_file : is_loaded files (data_file_name application number) ≡ true) (front : IsSaved files objects after new) where
  -- a batch's file alone
  file_saved : (batch : EncodedBatch) → IsOwn application number batch → IsWellMade application number at batch → after ≡ with_file (loaded files objects) batch → MayAppend application number at (Ok (puts batch)) objects new
  file_saved batch own well alone =
      by_case (one_saved files objects after new batch.name batch.file order (ap (is_loaded files) own.name ∙ own_file) alone front)
    where
      by_case : (new ≡ objects) ⊎ (new ≡ with_object objects batch.name batch.file) → MayAppend application number at (Ok (puts batch)) objects new
      by_case (inl same) = inl same
      by_case (inr put) = inr (well, inl put)

  -- its file and its commit, whose version a commit may have
  both_saved : (batch : EncodedBatch) → IsOwn application number batch → IsWellMade application number at batch → is_past batch.version ≡ false
      → after ≡ with_object (with_file (loaded files objects) batch) (commit_name batch.version) batch.commit → MayAppend application number at (Ok (puts batch)) objects new
  both_saved batch own well small whole =
      by_case (two_saved files objects after batch.name batch.file (commit_name batch.version) batch.commit order (ap (is_loaded files) own.name ∙ own_file) (commit_loaded files batch.version)
      (ap is_data own.name ∙ file_is_data application number) (name_of_commit batch.version (ltb-false greatest_version batch.version small)) whole new front)
    where
      whole_is : with_append objects (Ok (puts batch)) ≡ with_object (with_file objects batch) (commit_name batch.version) batch.commit
      whole_is = rw small refl

      by_case : (new ≡ objects) ⊎ ((new ≡ with_object objects batch.name batch.file) ⊎ (new ≡ with_object (with_object objects batch.name batch.file) (commit_name batch.version) batch.commit))
          → MayAppend application number at (Ok (puts batch)) objects new
      by_case (inl same) = inl same
      by_case (inr (inl put)) = inr (well, inl put)
      by_case (inr (inr both)) = inr (well, inr (both ∙ sym whole_is))

  append_saved : (step : Result AppendPlan SinkRefusal) → PutsOwn application number step → MayAppend application number at step (loaded files objects) after → MayAppend application number at step objects new
  append_saved step own (inl same) = inl (none_saved files objects after new same front)
  append_saved (Ok (puts batch)) own (inr (well, inl alone)) = file_saved batch own well alone
  append_saved (Ok (puts batch)) own (inr (well, inr whole)) = by_version (is_past batch.version) refl whole
    where
      by_version : (past : Bool) → is_past batch.version ≡ past
          → after ≡ (if past then with_file (loaded files objects) batch else with_object (with_file (loaded files objects) batch) (commit_name batch.version) batch.commit)
          → MayAppend application number at (Ok (puts batch)) objects new
      by_version true is alone = file_saved batch own well alone
      by_version false is both = both_saved batch own well is both
  append_saved (Ok stands) own (inr (well, inl same)) = inl (none_saved files objects after new same front)
  append_saved (Ok stands) own (inr (well, inr same)) = inl (none_saved files objects after new same front)
  append_saved (Err refusal) own (inr (well, inl same)) = inl (none_saved files objects after new same front)
  append_saved (Err refusal) own (inr (well, inr same)) = inl (none_saved files objects after new same front)

-- ---- closes

module _ (files : List (List ℕ)) (objects after new : Objects) (application : List ℕ) (at : ℕ) (order : IsInOrder objects) (front : IsSaved files objects after new) where
  close_saved : (step : Result (Option ℕ) SinkRefusal) → MayClose application at step (loaded files objects) after → MayClose application at step objects new
  close_saved step (inl same) = inl (none_saved files objects after new same front)
  close_saved (Ok (Some version)) (inr (well, whole)) = by_version (is_past version) refl whole
    where
      by_version : (past : Bool) → is_past version ≡ past → after ≡ (if past then loaded files objects else with_object (loaded files objects) (commit_name version) (close_text application at)) → MayClose application at (Ok (Some version)) objects new
      by_version true is same = inl (none_saved files objects after new same front)
      by_version false is put = by_case (one_saved files objects after new (commit_name version) (close_text application at) order (commit_loaded files version) put front)
        where
          whole_is : with_close_commit objects application at (Ok (Some version)) ≡ with_object objects (commit_name version) (close_text application at)
          whole_is = rw is refl

          by_case : (new ≡ objects) ⊎ (new ≡ with_object objects (commit_name version) (close_text application at)) → MayClose application at (Ok (Some version)) objects new
          by_case (inl same) = inl same
          by_case (inr put_all) = inr (well, put_all ∙ sym whole_is)
  close_saved (Ok None) (inr (well, same)) = inl (none_saved files objects after new same front)
  close_saved (Err refusal) (inr (well, same)) = inl (none_saved files objects after new same front)

-- ---- checkpoints

-- what is put over the files that are loaded is put over all objects
pub puts_too : (files : List (List ℕ)) (objects : Objects) (version : ℕ) (name bytes : List ℕ) → PutsCheckpoint false (loaded files objects) version name bytes → PutsCheckpoint false objects version name bytes
puts_too files objects version name bytes p = record {
  commits = p.commits;
  read = sym (same_replayed files objects) ∙ p.read;
  supported = p.supported;
  id = p.id;
  of_table = p.of_table;
  checkpoint = record { newest = p.checkpoint.newest ∙ same_count files objects; checkpoint = p.checkpoint.checkpoint; ordered = p.checkpoint.ordered };
  fits = p.fits;
  named = p.named;
  found = p.found;
}

checkpoint_saved : (files : List (List ℕ)) (objects after new : Objects) (version : ℕ) → IsInOrder objects → HasPut false version (loaded files objects) after → IsSaved files objects after new → MayPutCheckpoint objects new
checkpoint_saved files objects after new version order put front =
    by_case (one_saved files objects after new put.name put.bytes order (checkpoint_loaded files version put.name put.puts.found) put.put front)
  where
    by_case : (new ≡ objects) ⊎ (new ≡ with_object objects put.name put.bytes) → MayPutCheckpoint objects new
    by_case (inl same) = inl same
    by_case (inr is) = inr (version, record { name = put.name; bytes = put.bytes; puts = puts_too files objects version put.name put.bytes put.puts; put = is })

-- ---- what a line may put

pub saved : (objects after new : Objects) (statement : Statement) (files : List (List ℕ)) → IsInOrder objects → LooksWithin objects statement files → MayPut (loaded files objects) statement after → IsSaved files objects after new → MayPut objects statement new
saved objects after new (create id at schema) files order within (inl same) front = inl (none_saved files objects after new same front)
saved objects after new (create id at schema) files order within (inr (printed, put)) front = creation_saved files objects after new id at schema printed order put front
saved objects after new (task (append application number at items)) files order within put front = (
  put.0,
  append_saved files objects after new application number at order (within (data_file_name application number) refl) front (append_plan false objects application number at items) (own_append_plan false objects application number at items)
      (subst (λ (step : Result AppendPlan SinkRefusal). MayAppend application number at step (loaded files objects) after) (same_append_plan files objects application number at items (within (data_file_name application number) refl)) put.1),
)
saved objects after new (task (close application at)) files order within put front = (
  put.0,
  close_saved files objects after new application at order front (close_plan false objects application)
      (subst (λ (step : Result (Option ℕ) SinkRefusal). MayClose application at step (loaded files objects) after) (same_close_plan files objects application) put.1),
)
saved objects after new (task checkpoint) files order within (inl same) front = inl (none_saved files objects after new same front)
saved objects after new (task checkpoint) files order within (inr (version, put)) front = checkpoint_saved files objects after new version order put front
saved objects after new (foreign version action) files order within (inl same) front = inl (none_saved files objects after new same front)
saved objects after new (foreign version action) files order within (inr put) front = one_saved files objects after new (commit_name version) (with_newline action) order (commit_loaded files version) put front
saved objects after new _ files order within same front = none_saved files objects after new same front
