use Rattle.std.proofs.Common.{◌≡◌, [], inl, Some, Result, IfErr, ap, refl, sym, subst, ◌∙◌}
use Rattle.store_core.specs.Memory.{IsInOrder-stored, stored_objects}
use Rattle.store_core.specs.Objects.{Objects, names_of, object_at}
use Rattle.table_folder.specs.Copies.{HasSavedFront, to_save, with_copies}
use Rattle.table_jobs.specs.Sessions.{end_view}
use Rattle.table_jobs.specs.Views.{job_view}
use Rattle.folder_session.specs.Beside.{with_beside}
use Rattle.lake_script.specs.LineJobs.{job_of_line}
use Rattle.lake_script.specs.ReplyView.{reply_text}
use Rattle.lake_script.specs.Runs.{Executes}
use Rattle.lake_script.specs.declared.reply.LineReply.{LineReply}
use Rattle.lake_script.proofs.Callers.{job_grows, job_told, unrun_told}
use Rattle.folder_session.specs.declared.beside.Beside.{Beside}
use Rattle.table_jobs.specs.declared.job_session.JobEnd.{JobEnd}
use Rattle.lake_command.specs.Again.{ran}
use Rattle.lake_command.specs.Failures.{IsOfFolder, NamesPut}
use Rattle.lake_command.specs.Folders.{line_view}
use Rattle.lake_command.specs.declared.failure.Failure.{Failure}
use Rattle.lake_command.specs.declared.failure.Failure.TheVariants.{Loading}
use Rattle.lake_command.proofs.AgainLemmas.{fails_with}
use Rattle.lake_command.proofs.BesideLemmas.{line_left, named_beside, saved_beside}
use Rattle.lake_command.proofs.FolderLemmas.{fails_as, loaded_counts, saved_alone, saved_counts}
use Rattle.lake_command.proofs.RunLemmas.{saved_run, short_run, unread_run, unsaved_run, valid_line}
use Rattle.lake_command.proofs.saving.execute_beside.Goals as goal

-- ---- memory ran out

pub returns-in_default-clause-told : goal.returns-in_default-clause-told
returns-in_default-clause-told g c = λ steady restores. unrun_told (g.F.Folder.objects c.args.folder.now) (line_view c.args.line) (reply_text c.no_room_for-no_room.result) c.no_room_for-no_room.ensures

pub returns-in_default-clause-puts : goal.returns-in_default-clause-puts
returns-in_default-clause-puts g c = λ steady restores. inl refl

pub returns-in_default-clause-ran : goal.returns-in_default-clause-ran
returns-in_default-clause-ran g c = ([], refl, short_run c.args.use_checkpoints c.args.tries (line_view c.args.line) c.no_room_for-no_room.result c.no_room_for-no_room.ensures)

-- ---- its job was run

pub returns-clause-told : goal.returns-clause-told
returns-clause-told g c = λ steady restores.
    let found : job_of_line c.args.use_checkpoints c.args.tries (line_view c.args.line) ≡ Some (job_view c.in-Ok-Some.job) = sym (rw c.in-Ok-Some.field-0-is at c.in-Ok-Some.ensures.job) in
    let old : Objects = g.F.Folder.objects c.args.folder.now in
    let new : Objects = g.F.Folder.objects c.save.new.folder in
    let added = stored_objects c.in_ok-outcome.field-0.added in
    let kept : g.F.Folder.objects c.run.new.folder ≡ old = c.in_ok-outcome.ensures.over.untouched steady in
    let saved : new ≡ with_copies added old (to_save [] (names_of added)) = subst (λ (o : Objects). new ≡ with_copies added o (to_save [] (names_of added))) kept (c.in_ok-save.ensures.done (c.in_ok-outcome.ensures.over.steady steady)).saved in
    let executed = job_told c.args.use_checkpoints c.args.tries old (with_beside old added) restores (line_view c.args.line) (job_view c.in-Ok-Some.job) (end_view c.in_ok-outcome.field-0.outcome) (reply_text c.reply_of-reply.result)
    found (c.in_ok-outcome.ensures.done steady) c.reply_of-reply.ensures.told in
    subst (λ (o : Objects). Executes old (line_view c.args.line) (reply_text c.reply_of-reply.result) o) (sym (saved ∙ saved_beside old added (g.met.F.Folder.in_order c.args.folder.now))) executed

pub returns-clause-puts : goal.returns-clause-puts
returns-clause-puts g c = λ steady restores.
    let found : job_of_line c.args.use_checkpoints c.args.tries (line_view c.args.line) ≡ Some (job_view c.in-Ok-Some.job) = sym (rw c.in-Ok-Some.field-0-is at c.in-Ok-Some.ensures.job) in
    let old : Objects = g.F.Folder.objects c.args.folder.now in
    let added = stored_objects c.in_ok-outcome.field-0.added in
    let end = end_view c.in_ok-outcome.field-0.outcome in
    let valid = valid_line c.args.use_checkpoints c.args.tries (line_view c.args.line) (job_view c.in-Ok-Some.job) c.requires.tries c.job_of_line-found.ensures.text found in
    let grows = job_grows c.args.use_checkpoints c.args.tries old (with_beside old added) restores (line_view c.args.line) (job_view c.in-Ok-Some.job) end valid found (c.in_ok-outcome.ensures.done steady) in
    let new : Objects = g.F.Folder.objects c.save.new.folder in
    let front = subst (λ (o : Objects). HasSavedFront added (to_save [] (names_of added)) o new) (c.in_ok-outcome.ensures.over.untouched steady) (c.in_ok-save.ensures.done (c.in_ok-outcome.ensures.over.steady steady)).front in
    line_left old added new (line_view c.args.line) c.requires.puts (g.met.F.Folder.in_order c.args.folder.now) (IsInOrder-stored c.in_ok-outcome.field-0.added)
    (c.in_ok-outcome.ensures.apart steady) grows front

pub returns-in_err-save-clause-puts : goal.returns-in_err-save-clause-puts
returns-in_err-save-clause-puts g c = λ steady restores.
    let found : job_of_line c.args.use_checkpoints c.args.tries (line_view c.args.line) ≡ Some (job_view c.in-Ok-Some.job) = sym (rw c.in-Ok-Some.field-0-is at c.in-Ok-Some.ensures.job) in
    let old : Objects = g.F.Folder.objects c.args.folder.now in
    let added = stored_objects c.in_ok-outcome.field-0.added in
    let end = end_view c.in_ok-outcome.field-0.outcome in
    let valid = valid_line c.args.use_checkpoints c.args.tries (line_view c.args.line) (job_view c.in-Ok-Some.job) c.requires.tries c.job_of_line-found.ensures.text found in
    let grows = job_grows c.args.use_checkpoints c.args.tries old (with_beside old added) restores (line_view c.args.line) (job_view c.in-Ok-Some.job) end valid found (c.in_ok-outcome.ensures.done steady) in
    let new : Objects = g.F.Folder.objects c.save.new.folder in
    let front = subst (λ (o : Objects). HasSavedFront added (to_save [] (names_of added)) o new) (c.in_ok-outcome.ensures.over.untouched steady) (c.in_err-save.ensures.done (c.in_ok-outcome.ensures.over.steady steady)).front in
    line_left old added new (line_view c.args.line) c.requires.puts (g.met.F.Folder.in_order c.args.folder.now) (IsInOrder-stored c.in_ok-outcome.field-0.added)
    (c.in_ok-outcome.ensures.apart steady) grows front

pub returns-in_err-save-clause-named : goal.returns-in_err-save-clause-named
returns-in_err-save-clause-named g c = λ steady restores.
    let found : job_of_line c.args.use_checkpoints c.args.tries (line_view c.args.line) ≡ Some (job_view c.in-Ok-Some.job) = sym (rw c.in-Ok-Some.field-0-is at c.in-Ok-Some.ensures.job) in
    let old : Objects = g.F.Folder.objects c.args.folder.now in
    let added = stored_objects c.in_ok-outcome.field-0.added in
    let end = end_view c.in_ok-outcome.field-0.outcome in
    let valid = valid_line c.args.use_checkpoints c.args.tries (line_view c.args.line) (job_view c.in-Ok-Some.job) c.requires.tries c.job_of_line-found.ensures.text found in
    let grows = job_grows c.args.use_checkpoints c.args.tries old (with_beside old added) restores (line_view c.args.line) (job_view c.in-Ok-Some.job) end valid found (c.in_ok-outcome.ensures.done steady) in
    let statement = line_view c.args.line in
    subst (λ (r : Result LineReply Failure). IfErr r (λ failure. NamesPut failure statement old)) (sym (fails_as c.from_residual-in_err-save.result c.in_err-save.field-0.0 c.from_residual-in_err-save.ensures.1))
    (named_beside c.in_err-save.field-0.0 old added statement (c.in_ok-outcome.ensures.apart steady) grows c.in_err-save.ensures.over.named)

pub returns-in_err-save-clause-alone : goal.returns-in_err-save-clause-alone
returns-in_err-save-clause-alone g c = λ steady restores.
    saved_alone c.from_residual-in_err-save.result c.in_err-save.field-0.0 _ _ (g.F.Folder.objects c.args.folder.now) (line_view c.args.line) _ _ _
    (fails_as c.from_residual-in_err-save.result c.in_err-save.field-0.0 c.from_residual-in_err-save.ensures.1)
    (c.in_ok-outcome.ensures.over.untouched steady) c.in_ok-outcome.ensures.over.faults (c.in_ok-outcome.ensures.over.steady steady)
    (returns-in_err-save-clause-named g c steady restores) c.in_err-save.ensures.over.faults

pub returns-clause-kept : goal.returns-clause-kept
returns-clause-kept g c = λ steady name bytes stands.
    let unchanged : g.F.Folder.objects c.run.new.folder ≡ g.F.Folder.objects c.args.folder.now = c.in_ok-outcome.ensures.over.untouched steady in
    (c.in_ok-save.ensures.done (c.in_ok-outcome.ensures.over.steady steady)).kept name bytes (ap (λ (o : Objects). object_at o name) unchanged ∙ stands)

pub returns-in_err-save-clause-kept : goal.returns-in_err-save-clause-kept
returns-in_err-save-clause-kept g c = λ steady name bytes stands.
    let unchanged : g.F.Folder.objects c.run.new.folder ≡ g.F.Folder.objects c.args.folder.now = c.in_ok-outcome.ensures.over.untouched steady in
    (c.in_err-save.ensures.done (c.in_ok-outcome.ensures.over.steady steady)).kept name bytes (ap (λ (o : Objects). object_at o name) unchanged ∙ stands)

-- ---- the folder can't be read

pub returns-in_err-outcome-clause-puts : goal.returns-in_err-outcome-clause-puts
returns-in_err-outcome-clause-puts g c = λ steady restores. inl (c.in_err-outcome.ensures.over.untouched steady)

pub returns-in_err-outcome-clause-failed : goal.returns-in_err-outcome-clause-failed
returns-in_err-outcome-clause-failed g c = λ steady.
    subst (λ (r : Result LineReply Failure). IfErr r (λ failure. IsOfFolder failure (g.F.Folder.objects c.args.folder.now) (g.F.Folder.objects c.run.new.folder))) (sym (fails_with c.from_residual.result (Loading c.in_err-outcome.field-0.0) c.from_residual.ensures.1))
    (c.in_err-outcome.ensures.over.untouched steady)

pub returns-in_err-outcome-clause-faults : goal.returns-in_err-outcome-clause-faults
returns-in_err-outcome-clause-faults g c =
    loaded_counts (Beside JobEnd) c.from_residual.result c.in_err-outcome.field-0.0 _ _ (fails_with c.from_residual.result (Loading c.in_err-outcome.field-0.0) c.from_residual.ensures.1) c.in_err-outcome.ensures.over.faults

pub returns-in_err-outcome-clause-kept : goal.returns-in_err-outcome-clause-kept
returns-in_err-outcome-clause-kept g c = λ steady name bytes stands. ap (λ (o : Objects). object_at o name) (c.in_err-outcome.ensures.over.untouched steady) ∙ stands

pub returns-in_err-outcome-clause-steady : goal.returns-in_err-outcome-clause-steady
returns-in_err-outcome-clause-steady g c = λ steady. c.in_err-outcome.ensures.over.steady steady

-- ---- the folder stays steady, and counts its faults

pub returns-clause-steady : goal.returns-clause-steady
returns-clause-steady g c = λ steady. c.in_ok-save.ensures.steady (c.in_ok-outcome.ensures.over.steady steady)

pub returns-in_err-save-clause-steady : goal.returns-in_err-save-clause-steady
returns-in_err-save-clause-steady g c = λ steady. c.in_err-save.ensures.steady (c.in_ok-outcome.ensures.over.steady steady)

pub returns-clause-faults : goal.returns-clause-faults
returns-clause-faults g c = c.in_ok-save.ensures.over.faults ∙ c.in_ok-outcome.ensures.over.faults

pub returns-in_err-save-clause-faults : goal.returns-in_err-save-clause-faults
returns-in_err-save-clause-faults g c =
    saved_counts c.from_residual-in_err-save.result c.in_err-save.field-0.0 _ _ _ _ _ (fails_as c.from_residual-in_err-save.result c.in_err-save.field-0.0 c.from_residual-in_err-save.ensures.1)
    c.in_ok-outcome.ensures.over.faults c.in_err-save.ensures.over.faults

-- ---- over any folder

pub returns-in_err-outcome-clause-ran : goal.returns-in_err-outcome-clause-ran
returns-in_err-outcome-clause-ran g c =
    unread_run g.F.Folder.makes c.args.use_checkpoints c.args.tries (line_view c.args.line) c.args.folder.now c.run.new.folder c.from_residual.result c.in_err-outcome.field-0.0 c.from_residual.ensures.1 c.in_err-outcome.ensures.driven

pub returns-in_err-save-clause-ran : goal.returns-in_err-save-clause-ran
returns-in_err-save-clause-ran g c =
    let found : job_of_line c.args.use_checkpoints c.args.tries (line_view c.args.line) ≡ Some (job_view c.in-Ok-Some.job) = sym (rw c.in-Ok-Some.field-0-is at c.in-Ok-Some.ensures.job) in
    let run = c.in_ok-outcome.ensures.driven in
    unsaved_run g.F.Folder.makes c.args.use_checkpoints c.args.tries (line_view c.args.line) c.args.folder.now c.run.new.folder c.save.new.folder c.from_residual-in_err-save.result c.reply_of-reply.result (stored_objects c.in_ok-outcome.field-0.added) c.in_err-save.field-0.0
    c.from_residual-in_err-save.ensures.1 (run.0, run.1, ran (job_view c.in-Ok-Some.job) (end_view c.in_ok-outcome.field-0.outcome) run.0 found run.2 c.reply_of-reply.ensures.told) c.in_err-save.ensures.over.named c.in_err-save.ensures.called

pub returns-clause-ran : goal.returns-clause-ran
returns-clause-ran g c =
    let found : job_of_line c.args.use_checkpoints c.args.tries (line_view c.args.line) ≡ Some (job_view c.in-Ok-Some.job) = sym (rw c.in-Ok-Some.field-0-is at c.in-Ok-Some.ensures.job) in
    let run = c.in_ok-outcome.ensures.driven in
    saved_run g.F.Folder.makes c.args.use_checkpoints c.args.tries (line_view c.args.line) c.args.folder.now c.run.new.folder c.save.new.folder c.reply_of-reply.result (stored_objects c.in_ok-outcome.field-0.added)
    (run.0, run.1, ran (job_view c.in-Ok-Some.job) (end_view c.in_ok-outcome.field-0.outcome) run.0 found run.2 c.reply_of-reply.ensures.told) c.in_ok-save.ensures.called
