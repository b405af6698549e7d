-- What a job is told and leaves in a folder, by what a line of a script is told and leaves.
use Rattle.std.proofs.Common.{◌≡◌, inl, inr, ℕ, Bool, true, false, List, [], ◌∷◌, Bor, Option, Some, IfSome, Result, Ok, Err, IfOk, IfErr, sym, refl, ap, subst, ◌∙◌, map}
use Rattle.std.specs.Prelude.{IsErrAnd, is_some}
use Rattle.json_text.specs.Rows.{text_data}
use Rattle.store_core.specs.Objects.{AreBytes, IsInOrder, Objects}
use Rattle.table_log.specs.Restoring.{RestoresWell}
use Rattle.table_log.proofs.Callers.{well_sound}
use Rattle.lake_script.specs.SoundStores.{IsSoundStore}
use Rattle.table_folder.specs.Faults.{CountsLoad, CountsSave}
use Rattle.table_folder.specs.Loads.{loaded}
use Rattle.table_folder.specs.declared.fault.LoadFault.{LoadFault}
use Rattle.table_folder.specs.declared.fault.LoadFault.TheVariants as loads
use Rattle.table_folder.specs.declared.fault.SaveFault.{SaveFault}
use Rattle.table_folder.specs.declared.fault.SaveFault.TheVariants as saves
use Rattle.json_lines.specs.Rows.{input_lines, json_object_in_line}
use Rattle.script_lines.specs.Lines.{Statement, asks, history, look}
use Rattle.lake_script.specs.ReplyView.{reply_text}
use Rattle.lake_script.specs.Runs.{Executes}
use Rattle.lake_script.specs.Told.{IsPutHere}
use Rattle.lake_script.specs.declared.reply.LineReply.{LineReply}
use Rattle.job_laws.proofs.Callers.{executed as line_executed, line_keeps_sound_bytes, restores}
use Rattle.lake_words.specs.Asked.{Work}
use Rattle.lake_words.specs.Asked as words
use Rattle.lake_command.specs.Failures.{CountsFolderFault, FailureComesOfACall, IsOfFolder, Leaves, NamesPut}
use Rattle.lake_command.specs.Folders.{AreLineRows, IsJobAnswer, IsAskedBy, JobMayLeave, LineMayLeave, line_view}
use Rattle.lake_command.specs.declared.job_line.JobLine.{JobLine}
use Rattle.lake_command.specs.declared.failure.Failure.{Failure}
use Rattle.lake_command.specs.declared.failure.Failure.TheVariants.{Loading, Saving}

-- ---- a history

-- it leaves the objects as they are
leaves_alone : (old after : Objects) (reply : List ℕ) → Executes old (look history) reply after → Executes old (look history) reply old
leaves_alone old after reply (inl has) = inl (has.0, has.1, has.2, refl)
leaves_alone old after reply (inr short) = inr (short.0, refl)

-- over the log alone it is told what it is told over all objects
pub history_told : (old start end : Objects) (reply : List ℕ) → IsInOrder old → start ≡ loaded [] old → Executes start (look history) reply end → Executes old (look history) reply old
history_told old start end reply order is executed =
    leaves_alone old _ reply (line_executed old end (look history) [] reply order (λ name none. absurd none) (subst (λ (o : Objects). Executes o (look history) reply end) is executed))

-- the log's checkpoints are sound where the folder's are
pub log_well : (use_checkpoints : Bool) (old start : Objects) → start ≡ loaded [] old → RestoresWell use_checkpoints old → RestoresWell use_checkpoints start
log_well use_checkpoints old start is well = subst (RestoresWell use_checkpoints) (sym is) (restores old [] use_checkpoints well)

-- ---- what isn't saved

-- a call that gave this fault failed so
pub fails_as : {X : Type 0} (result : Result X Failure) (fault : SaveFault) → IsErrAnd result (λ failure. failure ≡ Saving fault) → result ≡ Err (Saving fault)
fails_as (Ok x) fault is = absurd is
fails_as (Err failure) fault is = ap Err is

-- its name isn't taken: a call of the folder failed
alone_of_fault : (X : Type 0) (fault : SaveFault) (steady : Type 0) (old : Objects) (statement : Statement) (before after : ℕ) → steady → NamesPut (Saving fault) statement old → CountsSave {X = Unit {0}} steady old (Err fault) before after
    → FailureComesOfACall {X = X} (Err (Saving fault)) before after
alone_of_fault X (saves.NotSaved name reason) steady old statement before after on names (inl risen) = risen
alone_of_fault X (saves.NotSaved name reason) steady old statement before after on names (inr taken) = let both : true ≡ false = sym (taken.2 on) ∙ ap is_some names.absent in cc
alone_of_fault X saves.Lost steady old statement before after on names counts = tt
alone_of_fault X saves.Memory steady old statement before after on names counts = tt

-- the same where the folder was as it was until then
pub saved_alone : {X : Type 0} (result : Result X Failure) (fault : SaveFault) (steady : Type 0) (held old : Objects) (statement : Statement) (before mid after : ℕ) → result ≡ Err (Saving fault) → held ≡ old → mid ≡ before → steady
    → IfErr result (λ failure. NamesPut failure statement old) → CountsSave {X = Unit {0}} steady held (Err fault) mid after → FailureComesOfACall result before after
saved_alone {X} result fault steady held old statement before mid after is same level on names counts =
    subst (λ (r : Result X Failure). FailureComesOfACall r before after) (sym is)
    (alone_of_fault X fault steady old statement before after on (subst (λ (r : Result X Failure). IfErr r (λ failure. NamesPut failure statement old)) is names)
    (subst (λ n. CountsSave {X = Unit {0}} steady old (Err fault) n after) level (subst (λ o. CountsSave {X = Unit {0}} steady o (Err fault) mid after) same counts)))

-- how often a call of the folder failed, where it can't be read
pub loaded_counts : {X : Type 0} (Y : Type 0) (result : Result X Failure) (fault : LoadFault) (before after : ℕ) → result ≡ Err (Loading fault) → CountsLoad {X = Y} (Err fault) before after → CountsFolderFault result before after
loaded_counts {X} Y result fault before after is counts = subst (λ (r : Result X Failure). CountsFolderFault r before after) (sym is) (by_fault fault counts)
  where
    by_fault : (f : LoadFault) → CountsLoad {X = Y} (Err f) before after → CountsFolderFault {X = X} (Err (Loading f)) before after
    by_fault (loads.NotLoaded name reason) risen = risen
    by_fault loads.Memory same = same

-- how often a call of the folder failed, where what was put isn't saved
pub saved_counts : {X : Type 0} (result : Result X Failure) (fault : SaveFault) (is_steady : Type 0) (held : Objects) (before mid after : ℕ) → result ≡ Err (Saving fault) → mid ≡ before → CountsSave {X = Unit {0}} is_steady held (Err fault) mid after
    → CountsFolderFault result before after
saved_counts {X} result fault is_steady held before mid after is level counts =
    subst (λ (r : Result X Failure). CountsFolderFault r before after) (sym is)
    (subst (λ (n : ℕ). CountsFolderFault {X = X} (Err (Saving fault)) n after) level (by_fault fault counts))
  where
    by_fault : (f : SaveFault) → CountsSave {X = Unit {0}} is_steady held (Err f) mid after → CountsFolderFault {X = X} (Err (Saving f)) mid after
    by_fault (saves.NotSaved name reason) (inl risen) = inl risen
    by_fault (saves.NotSaved name reason) (inr taken) = inr (taken.0, taken.1)
    by_fault saves.Lost same = same
    by_fault saves.Memory same = same

-- ---- what a job leaves

-- what a line leaves, for the job that it was asked for
pub may_leave : (work : Work) (text : Option (List ℕ)) (statement : Statement) (old new : Objects) → IsAskedBy work text statement → LineMayLeave old statement new → JobMayLeave work text old new
may_leave work text statement old new asked (inl same) = inl same
may_leave work text statement old new asked (inr put) = inr (statement, asked, put)

-- a failure of the folder, for the job whose line was asked for
pub left_for_job : (failure : Failure) (work : Work) (text : Option (List ℕ)) (statement : Statement) (old new : Objects) → IsAskedBy work text statement → IsOfFolder failure old new → LineMayLeave old statement new
    → NamesPut failure statement old → Leaves failure work text old new
left_for_job (Loading fault) work text statement old new asked same put names = same
left_for_job (Saving (saves.NotSaved name reason)) work text statement old new asked of put names = (may_leave work text statement old new asked put, (statement, asked, names))
left_for_job (Saving saves.Lost) work text statement old new asked of put names = may_leave work text statement old new asked put
left_for_job (Saving saves.Memory) work text statement old new asked of put names = may_leave work text statement old new asked put
left_for_job _ work text statement old new asked none put names = absurd none

-- the same where a call gave a reply or failed
pub replies_to_job : (result : Result LineReply Failure) (work : Work) (text : Option (List ℕ)) (statement : Statement) (old new : Objects) → IsAskedBy work text statement → IfOk result (λ reply. Executes old statement (reply_text reply) new) → IfOk result (λ reply. IsJobAnswer work text old (reply_text reply) new)
replies_to_job (Ok reply) work text statement old new asked executed = inr (statement, asked, executed)
replies_to_job (Err failure) work text statement old new asked executed = tt

pub fails_for_job : (result : Result LineReply Failure) (work : Work) (text : Option (List ℕ)) (statement : Statement) (old new : Objects) → IsAskedBy work text statement → IfErr result (λ failure. IsOfFolder failure old new) → LineMayLeave old statement new
    → IfErr result (λ failure. NamesPut failure statement old) → IfErr result (λ failure. Leaves failure work text old new)
fails_for_job (Ok reply) work text statement old new asked of put names = tt
fails_for_job (Err failure) work text statement old new asked of put names = left_for_job failure work text statement old new asked of put names

-- no job puts another tool's commit
put_here : (work : Work) (text : Option (List ℕ)) (statement : Statement) → IsAskedBy work text statement → IsPutHere (asks statement)
put_here (words.create id schema at) text statement is = rw is tt
put_here (words.append application number at tries rows) text statement is = rw is.4 tt
put_here (words.close application at tries) text statement is = rw is tt
put_here (words.load workers at tries) text statement is = absurd is
put_here (words.tail max offset) text statement is = rw is tt
put_here words.snapshot text statement is = rw is tt
put_here words.checkpoint text statement is = rw is tt
put_here words.history text statement is = rw is tt

-- so a sound table stays sound
pub stays_sound : (work : Work) (text : Option (List ℕ)) (statement : Statement) (old new : Objects) → AreBytes old → IsAskedBy work text statement → IsSoundStore old → LineMayLeave old statement new → IsSoundStore new
stays_sound work text statement old new are asked sound (inl same) = subst IsSoundStore (sym same) sound
stays_sound work text statement old new are asked sound (inr put) = line_keeps_sound_bytes old new statement are (put_here work text statement asked) sound put

-- the checkpoints of a sound table are
pub sound_restores : (use_checkpoints : Bool) (objects : Objects) → IsSoundStore objects → RestoresWell use_checkpoints objects
sound_restores use_checkpoints objects sound = λ used. well_sound true objects sound.checkpoints

-- ---- failures, and rows of an input

-- what is asked by a line that was found
pub found_asked : (found : Option JobLine) (line : JobLine) (work : Work) (text : Option (List ℕ)) → found ≡ Some line → IfSome found (λ l. IsAskedBy work text (line_view l)) → IsAskedBy work text (line_view line)
found_asked found line work text is asked = subst (λ f. IfSome f (λ l. IsAskedBy work text (line_view l))) is asked

-- the rows that were read are those of the input
pub rows_are : (text : List ℕ) (objects : List (Bor (List ℕ))) → map json_object_in_line (input_lines text) ≡ map (λ object. Some (text_data object.now)) objects → AreLineRows text (map (λ object. text_data object.now) objects)
rows_are text objects read = read ∙ some_views objects
  where
    some_views : (values : List (Bor (List ℕ))) → map (λ value. Some (text_data value.now)) values ≡ map (λ row. Some row) (map (λ object. text_data object.now) values)
    some_views [] = refl
    some_views (v ∷ vs) = ap (λ rest. Some (text_data v.now) ∷ rest) (some_views vs)
