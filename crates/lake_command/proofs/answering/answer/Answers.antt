use Rattle.std.proofs.Common.{◌∙◌, ◌++◌, Some, ap, inl, refl, sym, subst, ℕ, List, Ok}
use Rattle.lake_script.specs.Streams.{read_failed, unread}
use Rattle.table_folder.specs.Traces.{Traced}
use Rattle.table_folder.proofs.Callers.{traced_on}
use Rattle.lake_words.specs.Asked.{work_view}
use Rattle.lake_command.specs.Again.{ComesOfRuns, not_there, runs}
use Rattle.lake_command.specs.Failures.{CountsFolderFault}
use Rattle.lake_command.specs.Folders.{IsInputOf, line_view}
use Rattle.lake_command.proofs.AgainLemmas.{fails_with, folder_caused, input_causes, input_told, run_once, taken_puts, taken_risen}
use Rattle.lake_command.proofs.AnswerLemmas.{found_rows, keeps_all, later_rows, ran_by_input, refused_by_input, refused_over, taken_rose}
use Rattle.lake_command.proofs.CountLemmas.{later_count}
use Rattle.lake_command.proofs.FolderLemmas.{fails_for_job, found_asked, may_leave, replies_to_job, sound_restores, stays_sound}
use Rattle.lake_command.proofs.answering.answer.Goals as goal

-- ---- the words or the input are refused

pub returns-in_err-text-clause-over : goal.returns-in_err-text-clause-over
returns-in_err-text-clause-over g c = λ steady restores.
    let is = fails_with c.from_residual.result c.in_err-text.field-0.0 c.from_residual.ensures.1 in
    refused_over c.from_residual.result c.in_err-text.field-0.0 (work_view c.args.command.job) (unread g.R.Read.remaining c.args.input.now) (read_failed c.text_for.new.input) (g.F.Folder.objects c.args.folder.now) (g.F.Folder.fault_count c.args.folder.now)
    is c.in_err-text.ensures.failed

pub returns-in_err-text-clause-by_input : goal.returns-in_err-text-clause-by_input
returns-in_err-text-clause-by_input g c =
    let is = fails_with c.from_residual.result c.in_err-text.field-0.0 c.from_residual.ensures.1 in
    refused_by_input c.from_residual.result c.in_err-text.field-0.0 (work_view c.args.command.job) (unread g.R.Read.remaining c.args.input.now) (read_failed c.text_for.new.input) c.args.folder.now c.args.input.now c.text_for.new.input _
    is c.in_err-text.ensures.failed c.in_err-text.ensures.input_untouched (λ later. let no = c.in_err-text.ensures.not_yet later in cc)

pub returns-in_err-line-clause-over : goal.returns-in_err-line-clause-over
returns-in_err-line-clause-over g c = λ steady restores.
    let work = work_view c.args.command.job in
    let known = unread g.R.Read.remaining c.args.input.now in
    let is = subst (λ (bytes : List ℕ). IsInputOf work known bytes) (sym c.deref.ensures.value) c.in_ok-text.ensures.read in
    let failed = fails_with c.from_residual-in_err-line.result c.in_err-line.field-0.0 c.from_residual-in_err-line.ensures.1 in
    refused_over c.from_residual-in_err-line.result c.in_err-line.field-0.0 work known (read_failed c.text_for.new.input) (g.F.Folder.objects c.args.folder.now) (g.F.Folder.fault_count c.args.folder.now)
    failed (c.in_err-line.ensures.failed known (read_failed c.text_for.new.input) is)

pub returns-in_err-line-clause-by_input : goal.returns-in_err-line-clause-by_input
returns-in_err-line-clause-by_input g c =
    let work = work_view c.args.command.job in
    let known = unread g.R.Read.remaining c.args.input.now in
    let is = subst (λ (bytes : List ℕ). IsInputOf work known bytes) (sym c.deref.ensures.value) c.in_ok-text.ensures.read in
    let failed = fails_with c.from_residual-in_err-line.result c.in_err-line.field-0.0 c.from_residual-in_err-line.ensures.1 in
    refused_by_input c.from_residual-in_err-line.result c.in_err-line.field-0.0 work known (read_failed c.text_for.new.input) c.args.folder.now c.args.input.now c.text_for.new.input _
    failed (c.in_err-line.ensures.failed known (read_failed c.text_for.new.input) is) c.in_ok-text.ensures.input_untouched (λ later. let no = c.in_err-line.ensures.not_yet later in cc)

pub returns-in_err-line-clause-caused : goal.returns-in_err-line-clause-caused
returns-in_err-line-clause-caused g c =
    let work = work_view c.args.command.job in
    let known = unread g.R.Read.remaining c.args.input.now in
    let is = subst (λ (bytes : List ℕ). IsInputOf work known bytes) (sym c.deref.ensures.value) c.in_ok-text.ensures.read in
    input_causes c.from_residual-in_err-line.result c.in_err-line.field-0.0 work known _ (g.F.Folder.fault_count c.args.folder.now) (fails_with c.from_residual-in_err-line.result c.in_err-line.field-0.0 c.from_residual-in_err-line.ensures.1) (c.in_err-line.ensures.failed known (read_failed c.text_for.new.input) is)
    c.in_ok-text.ensures.broken c.in_ok-text.ensures.too_long

pub returns-in_err-text-clause-keeps : goal.returns-in_err-text-clause-keeps
returns-in_err-text-clause-keeps g c = λ steady. keeps_all (g.F.Folder.is_steady c.args.folder.now) (g.F.Folder.objects c.args.folder.now) steady

pub returns-in_err-line-clause-keeps : goal.returns-in_err-line-clause-keeps
returns-in_err-line-clause-keeps g c = λ steady. keeps_all (g.F.Folder.is_steady c.args.folder.now) (g.F.Folder.objects c.args.folder.now) steady

-- ---- it isn't there yet

pub returns-in_default-clause-over : goal.returns-in_default-clause-over
returns-in_default-clause-over g c = λ steady restores.
    let later = c.in_ok-line.ensures.later (ap Ok c.in_default.is) in
    record {
      told = inl (later, refl, refl);
      failed = tt;
      alone = tt;
      puts = inl refl;
    }

pub returns-in_default-clause-by_input : goal.returns-in_default-clause-by_input
returns-in_default-clause-by_input g c =
    let work = work_view c.args.command.job in
    let known = unread g.R.Read.remaining c.args.input.now in
    let later = c.in_ok-line.ensures.later (ap Ok c.in_default.is) in
    record {
      first = tt;
      counted = λ other. absurd (later_count work known later other);
      input_untouched = c.in_ok-text.ensures.input_untouched;
      later = λ is. (refl, refl);
      rows = later_rows work known _ later;
    }

pub returns-in_default-clause-keeps : goal.returns-in_default-clause-keeps
returns-in_default-clause-keeps g c = λ steady. keeps_all (g.F.Folder.is_steady c.args.folder.now) (g.F.Folder.objects c.args.folder.now) steady

-- ---- its line was run

pub returns-clause-over : goal.returns-clause-over
returns-clause-over g c = λ steady restores.
    let work = work_view c.args.command.job in
    let known = unread g.R.Read.remaining c.args.input.now in
    let is = subst (λ (bytes : List ℕ). IsInputOf work known bytes) (sym c.deref.ensures.value) c.in_ok-text.ensures.read in
    let line = line_view c.in-Some.line in
    let asked = found_asked c.in_ok-line.field-0 c.in-Some.line work known c.in-Some.is (c.in_ok-line.ensures.asked known is) in
    record {
      told = replies_to_job c.execute_in-outcome.result work known line _ _ asked (c.execute_in-outcome.ensures.told steady restores);
      failed = fails_for_job c.execute_in-outcome.result work known line _ _ asked (c.execute_in-outcome.ensures.failed steady) (c.execute_in-outcome.ensures.puts steady restores) (c.execute_in-outcome.ensures.named steady restores);
      alone = c.execute_in-outcome.ensures.alone steady restores;
      puts = may_leave work known line _ _ asked (c.execute_in-outcome.ensures.puts steady restores);
    }

pub returns-clause-keeps : goal.returns-clause-keeps
returns-clause-keeps g c = λ steady.
    let work = work_view c.args.command.job in
    let known = unread g.R.Read.remaining c.args.input.now in
    let is = subst (λ (bytes : List ℕ). IsInputOf work known bytes) (sym c.deref.ensures.value) c.in_ok-text.ensures.read in
    let asked = found_asked c.in_ok-line.field-0 c.in-Some.line work known c.in-Some.is (c.in_ok-line.ensures.asked known is) in
    record {
      sound = λ bytes sound. stays_sound work known (line_view c.in-Some.line) _ _ bytes asked sound (c.execute_in-outcome.ensures.puts steady (sound_restores c.args.command.use_checkpoints _ sound));
      kept = c.execute_in-outcome.ensures.kept steady;
      steady = c.execute_in-outcome.ensures.steady steady;
    }

pub returns-clause-by_input : goal.returns-clause-by_input
returns-clause-by_input g c =
    let work = work_view c.args.command.job in
    let known = unread g.R.Read.remaining c.args.input.now in
    let is = subst (λ (bytes : List ℕ). IsInputOf work known bytes) (sym c.deref.ensures.value) c.in_ok-text.ensures.read in
    let asked = found_asked c.in_ok-line.field-0 c.in-Some.line work known c.in-Some.is (c.in_ok-line.ensures.asked known is) in
    ran_by_input c.execute_in-outcome.result work known _ (line_view c.in-Some.line) c.args.folder.now _ c.args.input.now _ c.count_rows.result asked c.execute_in-outcome.ensures.caused c.in_ok-text.ensures.input_untouched
    (found_rows c.in_ok-line.field-0 c.in-Some.line work known c.count_rows.result c.in-Some.is c.count_rows.ensures (c.in_ok-line.ensures.rows known is))

-- ---- it was run again

pub returns-then-is_lost_race-clause-over : goal.returns-then-is_lost_race-clause-over
returns-then-is_lost_race-clause-over g c = λ steady restores.
    let taken = c.is_lost_race.ensures.taken c.if-is_lost_race.true in
    absurd (c.is_lost_race.ensures.none c.if-is_lost_race.true (taken_rose c.execute_in-outcome.result _ _ _ _ c.faults-before.ensures c.faults.ensures taken (c.execute_in-outcome.ensures.alone steady restores)))

pub returns-then-is_lost_race-clause-keeps : goal.returns-then-is_lost_race-clause-keeps
returns-then-is_lost_race-clause-keeps g c = λ steady.
    let taken = c.is_lost_race.ensures.taken c.if-is_lost_race.true in
    record {
      sound = λ bytes sound. absurd (c.is_lost_race.ensures.none c.if-is_lost_race.true (taken_rose c.execute_in-outcome.result _ _ _ _ c.faults-before.ensures c.faults.ensures taken (c.execute_in-outcome.ensures.alone steady (sound_restores c.args.command.use_checkpoints _ sound))));
      kept = λ name bytes stands. c.run_again.ensures.kept (c.execute_in-outcome.ensures.steady steady) name bytes (c.execute_in-outcome.ensures.kept steady name bytes stands);
      steady = c.run_again.ensures.steady (c.execute_in-outcome.ensures.steady steady);
    }

pub returns-then-is_lost_race-clause-by_input : goal.returns-then-is_lost_race-clause-by_input
returns-then-is_lost_race-clause-by_input g c =
    let work = work_view c.args.command.job in
    let known = unread g.R.Read.remaining c.args.input.now in
    let is = subst (λ (bytes : List ℕ). IsInputOf work known bytes) (sym c.deref.ensures.value) c.in_ok-text.ensures.read in
    let asked = found_asked c.in_ok-line.field-0 c.in-Some.line work known c.in-Some.is (c.in_ok-line.ensures.asked known is) in
    ran_by_input c.run_again.result work known _ (line_view c.in-Some.line) c.args.folder.now _ c.args.input.now _ c.count_rows.result asked c.run_again.ensures.caused c.in_ok-text.ensures.input_untouched
    (found_rows c.in_ok-line.field-0 c.in-Some.line work known c.count_rows.result c.in-Some.is c.count_rows.ensures (c.in_ok-line.ensures.rows known is))

-- ---- what it comes of

pub returns-clause-caused : goal.returns-clause-caused
returns-clause-caused g c =
    let work = work_view c.args.command.job in
    let known = unread g.R.Read.remaining c.args.input.now in
    let is = subst (λ (bytes : List ℕ). IsInputOf work known bytes) (sym c.deref.ensures.value) c.in_ok-text.ensures.read in
    folder_caused c.execute_in-outcome.result work known _ (line_view c.in-Some.line) _ _ (found_asked c.in_ok-line.field-0 c.in-Some.line _ _ c.in-Some.is (c.in_ok-line.ensures.asked known is)) c.execute_in-outcome.ensures.caused
    c.in_ok-text.ensures.broken c.in_ok-text.ensures.too_long c.execute_in-outcome.ensures.faults

pub returns-then-is_lost_race-clause-caused : goal.returns-then-is_lost_race-clause-caused
returns-then-is_lost_race-clause-caused g c =
    let work = work_view c.args.command.job in
    let known = unread g.R.Read.remaining c.args.input.now in
    let is = subst (λ (bytes : List ℕ). IsInputOf work known bytes) (sym c.deref.ensures.value) c.in_ok-text.ensures.read in
    let level = sym c.faults.ensures ∙ c.is_lost_race.ensures.same c.if-is_lost_race.true ∙ c.faults-before.ensures in
    folder_caused c.run_again.result work known _ (line_view c.in-Some.line) _ _ (found_asked c.in_ok-line.field-0 c.in-Some.line _ _ c.in-Some.is (c.in_ok-line.ensures.asked known is)) c.run_again.ensures.caused
    c.in_ok-text.ensures.broken c.in_ok-text.ensures.too_long
    (subst (λ (n : ℕ). CountsFolderFault c.run_again.result n (g.F.Folder.fault_count c.run_again.new.folder)) level c.run_again.ensures.faults)

pub returns-in_err-text-clause-runs : goal.returns-in_err-text-clause-runs
returns-in_err-text-clause-runs g c =
    input_told (λ calls. Traced g.F.Folder.makes c.args.folder.now calls c.args.folder.now) c.from_residual.result c.in_err-text.field-0.0 (work_view c.args.command.job) (unread g.R.Read.remaining c.args.input.now) (read_failed c.text_for.new.input) c.args.command.use_checkpoints _ _
    (fails_with c.from_residual.result c.in_err-text.field-0.0 c.from_residual.ensures.1) c.in_err-text.ensures.failed

pub returns-in_err-line-clause-runs : goal.returns-in_err-line-clause-runs
returns-in_err-line-clause-runs g c =
    let work = work_view c.args.command.job in
    let known = unread g.R.Read.remaining c.args.input.now in
    let is = subst (λ (bytes : List ℕ). IsInputOf work known bytes) (sym c.deref.ensures.value) c.in_ok-text.ensures.read in
    input_told (λ calls. Traced g.F.Folder.makes c.args.folder.now calls c.args.folder.now) c.from_residual-in_err-line.result c.in_err-line.field-0.0 work known (read_failed c.text_for.new.input) c.args.command.use_checkpoints _ _
    (fails_with c.from_residual-in_err-line.result c.in_err-line.field-0.0 c.from_residual-in_err-line.ensures.1) (c.in_err-line.ensures.failed known (read_failed c.text_for.new.input) is)

pub returns-in_default-clause-runs : goal.returns-in_default-clause-runs
returns-in_default-clause-runs g c = not_there _ (c.in_ok-line.ensures.later (ap Ok c.in_default.is)) refl

pub run_again-requires-clause-puts : goal.run_again-requires-clause-puts
run_again-requires-clause-puts g c =
    let text = c.deref-then-is_lost_race.result.now in
    let same = c.deref.ensures.value ∙ sym c.deref-then-is_lost_race.ensures.value in (
      line_view c.in-Some.line,
      found_asked c.in_ok-line.field-0 c.in-Some.line (work_view c.args.command.job) (Some text) c.in-Some.is (c.in_ok-line.ensures.asked (Some text) (λ reads. same)),
      taken_puts c.execute_in-outcome.result (line_view c.in-Some.line) c.execute_in-outcome.ensures.read (c.is_lost_race.ensures.taken c.if-is_lost_race.true),
    )

pub returns-then-is_lost_race-clause-runs : goal.returns-then-is_lost_race-clause-runs
returns-then-is_lost_race-clause-runs g c =
    let work = work_view c.args.command.job in
    let known = unread g.R.Read.remaining c.args.input.now in
    let text = c.deref-then-is_lost_race.result.now in
    let line = line_view c.in-Some.line in
    let same = c.deref.ensures.value ∙ sym c.deref-then-is_lost_race.ensures.value in
    let is = subst (λ (bytes : List ℕ). IsInputOf work known bytes) (sym c.deref-then-is_lost_race.ensures.value) c.in_ok-text.ensures.read in
    let asked = found_asked c.in_ok-line.field-0 c.in-Some.line work (Some text) c.in-Some.is (c.in_ok-line.ensures.asked (Some text) (λ reads. same)) in
    let puts = taken_puts c.execute_in-outcome.result line c.execute_in-outcome.ensures.read (c.is_lost_race.ensures.taken c.if-is_lost_race.true) in
    let one = c.execute_in-outcome.ensures.ran puts in
    let more = c.run_again.ensures.runs line one.0 asked one.2 in
    let level = sym c.faults.ensures ∙ c.is_lost_race.ensures.same c.if-is_lost_race.true ∙ c.faults-before.ensures in
    let faults = g.F.Folder.fault_count c.run_again.new.folder in
    let comes = subst (λ (n : ℕ). ComesOfRuns work text c.args.command.use_checkpoints n faults c.tries_of-tries.result c.run_again.result (one.0 ++ more.0)) level more.2 in
    runs text c.run_again.result (one.0 ++ more.0) is (traced_on g.F.Folder.makes c.args.folder.now c.execute_in-outcome.new.folder c.run_again.new.folder one.0 more.0 one.1 more.1)
    (subst (λ (n : ℕ). ComesOfRuns work text c.args.command.use_checkpoints (g.F.Folder.fault_count c.args.folder.now) faults n c.run_again.result (one.0 ++ more.0)) c.tries_of-tries.ensures.same comes)

pub returns-clause-runs : goal.returns-clause-runs
returns-clause-runs g c =
    let work = work_view c.args.command.job in
    let known = unread g.R.Read.remaining c.args.input.now in
    let text = c.deref.result.now in
    let is = subst (λ (bytes : List ℕ). IsInputOf work known bytes) (sym c.deref.ensures.value) c.in_ok-text.ensures.read in
    let asked = found_asked c.in_ok-line.field-0 c.in-Some.line work (Some text) c.in-Some.is (c.in_ok-line.ensures.asked (Some text) (λ reads. refl)) in
    run_once g.F.Folder.makes work known text (read_failed c.text_for.new.input) c.args.command.use_checkpoints _ _ c.tries_of-tries.result (line_view c.in-Some.line) c.execute_in-outcome.result c.args.folder.now c.execute_in-outcome.new.folder
    c.tries_of-tries.ensures.same is asked c.execute_in-outcome.ensures.ran c.execute_in-outcome.ensures.read c.execute_in-outcome.ensures.looked
    (taken_risen c.execute_in-outcome.result _ _ _ _ _ c.faults-before.ensures c.faults.ensures refl c.execute_in-outcome.ensures.faults (c.is_lost_race.ensures.failed c.if-is_lost_race.false))
