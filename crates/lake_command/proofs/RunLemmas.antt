-- A run of a line: its job can begin, and what came of it where memory ran out, where it wasn't saved or the folder
-- couldn't be read.
use Rattle.std.proofs.Common.{◌≡◌, ◌≤◌, ◌++◌, ◌∙◌, ℕ, Bool, List, [], Option, Some, IfSome, Result, Ok, Err, refl, sym, subst}
use Rattle.std.specs.Prelude.{IsErrAnd, bytes_eq, string_bytes}
use Rattle.std.proofs.lemmas.Cmp.{nat_list_eq_equiv}
use Rattle.std.proofs.lemmas.Map.Views.{Contains-from_any, list_any-from_Contains}
use Rattle.std.proofs.lemmas.Slice.Eq.{bytes_eq-Decides}
use Rattle.store_core.specs.Objects.{Objects, names_of}
use Rattle.table_folder.specs.Copies.{to_save}
use Rattle.table_folder.specs.Faults.{SaveFailsAmong}
use Rattle.table_folder.specs.Traces.{FolderCall, MakeNone, Saves, Traced}
use Rattle.table_folder.specs.declared.fault.LoadFault.{LoadFault}
use Rattle.table_folder.specs.declared.fault.SaveFault.{SaveFault}
use Rattle.table_folder.specs.declared.fault.SaveFault.TheVariants as saves
use Rattle.table_folder.proofs.Callers.{list_any-to_save, traced_on}
use Rattle.table_jobs.specs.Jobs.{IsValidJob, Job}
use Rattle.script_lines.specs.Lines.{Statement, task}
use Rattle.lake_script.specs.LineJobs.{job_of_line}
use Rattle.lake_script.specs.ReplyView.{reply_text}
use Rattle.lake_script.specs.Runs.{IsWantOfMemory}
use Rattle.lake_script.specs.declared.reply.LineReply.{LineReply}
use Rattle.lake_script.proofs.Callers.{valid_task}
use Rattle.lake_command.specs.Again.{IsRunOf, IsUnsaved, RanLine, short, told, unread, unsaved}
use Rattle.lake_command.specs.Folders.{IsTextLine}
use Rattle.lake_command.specs.declared.failure.Failure.{Failure}
use Rattle.lake_command.specs.declared.failure.Failure.TheVariants.{Loading, Saving}
use Rattle.lake_command.proofs.AgainLemmas.{fails_with}

-- ---- its job

line_valid : (use_checkpoints : Bool) (tries : ℕ) (statement : Statement) → 1 ≤ tries → IsTextLine statement → IfSome (job_of_line use_checkpoints tries statement) IsValidJob
line_valid use_checkpoints tries (task job) some text = valid_task use_checkpoints tries job some text
line_valid use_checkpoints tries _ some text = tt

-- The job of a line whose application's id is text, and which tries a version at least, can begin.
pub valid_line : (use_checkpoints : Bool) (tries : ℕ) (statement : Statement) (job : Job) → 1 ≤ tries → IsTextLine statement → job_of_line use_checkpoints tries statement ≡ Some job → IsValidJob job
valid_line use_checkpoints tries statement job some text is = subst (λ (found : Option Job). IfSome found IsValidJob) is (line_valid use_checkpoints tries statement some text)

-- ---- where nothing was run

-- its reply tells so, and there is nothing to save
pub short_run : (use_checkpoints : Bool) (tries : ℕ) (statement : Statement) (reply : LineReply) → IsWantOfMemory statement (reply_text reply) → IsRunOf use_checkpoints tries statement (Ok reply) []
short_run use_checkpoints tries statement reply want = told reply [] [] [] (short want refl) refl

-- ---- where it wasn't saved, or not run

-- what isn't saved of what a run put was put by it
unsaved_among : (fault : SaveFault) (added : Objects) → SaveFailsAmong {X = Unit {0}} (to_save [] (names_of added)) (Err fault) → IsUnsaved fault added
unsaved_among (saves.NotSaved name reason) added among =
    Contains-from_any {eq = bytes_eq} (λ x y same. (bytes_eq-Decides x y).0 same) (string_bytes name) (names_of added)
    (sym (list_any-to_save [] (names_of added) (string_bytes name)) ∙ list_any-from_Contains nat_list_eq_equiv (string_bytes name) (to_save [] (names_of added)) among)
unsaved_among saves.Lost added among = tt
unsaved_among saves.Memory added among = tt

module _ {F : Type 0} (makes : F → FolderCall → F → Type 0) (use_checkpoints : Bool) (tries : ℕ) (statement : Statement) (old mid new : F) where
  -- what was put was saved
  pub saved_run : (reply : LineReply) (added : Objects) → (calls : List FolderCall) × Traced makes old calls mid × RanLine use_checkpoints tries statement reply added calls
      → (calls : List FolderCall) × Traced makes mid calls new × Saves added (to_save [] (names_of added)) (Ok tt) calls
      → (calls : List FolderCall) × Traced makes old calls new × IsRunOf use_checkpoints tries statement (Ok reply) calls
  saved_run reply added run saved = (run.0 ++ saved.0, traced_on makes old mid new run.0 saved.0 run.1 saved.1, told reply added run.0 saved.0 run.2 saved.2)

  -- or it wasn't
  pub unsaved_run : (result : Result LineReply Failure) (reply : LineReply) (added : Objects) (fault : SaveFault) → IsErrAnd result (λ failure. failure ≡ Saving fault)
      → (calls : List FolderCall) × Traced makes old calls mid × RanLine use_checkpoints tries statement reply added calls → SaveFailsAmong {X = Unit {0}} (to_save [] (names_of added)) (Err fault)
      → (calls : List FolderCall) × Traced makes mid calls new × Saves added (to_save [] (names_of added)) (Err fault) calls
      → (calls : List FolderCall) × Traced makes old calls new × IsRunOf use_checkpoints tries statement result calls
  unsaved_run result reply added fault is run among saved = (
    run.0 ++ saved.0,
    traced_on makes old mid new run.0 saved.0 run.1 saved.1,
    subst (λ (r : Result LineReply Failure). IsRunOf use_checkpoints tries statement r (run.0 ++ saved.0)) (sym (fails_with result (Saving fault) is)) (unsaved reply added fault run.0 saved.0 run.2 (unsaved_among fault added among) saved.2),
  )

-- or the folder couldn't be read
pub unread_run : {F : Type 0} → (makes : F → FolderCall → F → Type 0) (use_checkpoints : Bool) (tries : ℕ) (statement : Statement) (old new : F) (result : Result LineReply Failure) (fault : LoadFault) → IsErrAnd result (λ failure. failure ≡ Loading fault)
    → (calls : List FolderCall) × Traced makes old calls new × MakeNone calls → (calls : List FolderCall) × Traced makes old calls new × IsRunOf use_checkpoints tries statement result calls
unread_run makes use_checkpoints tries statement old new result fault is looked =
    (looked.0, looked.1, subst (λ (r : Result LineReply Failure). IsRunOf use_checkpoints tries statement r looked.0) (sym (fails_with result (Loading fault) is)) (unread fault looked.0 looked.2))
