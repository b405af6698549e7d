use Rattle.std.proofs.Common.{◌≡◌, ◌∙◌, [], Some, arith, refl, sym}
use Rattle.std.proofs.lemmas.Bool.{false≢true}
use Rattle.table_folder.specs.Traces.{Traced}
use Rattle.lake_words.specs.Asked.{work_view}
use Rattle.lake_command.specs.Folders.{line_view}
use Rattle.lake_command.proofs.AgainLemmas.{first_run, left_counts, more_run, puts_still, refused_last, refused_unread, short_behind, short_level, short_unread, taken_by_folder, taken_is_loaded, taken_risen, told_last, unread_makes_none, unread_risen}
use Rattle.lake_command.proofs.FolderLemmas.{found_asked}
use Rattle.lake_command.proofs.answering.run_again.Goals as goal

pub returns-then-is_unloaded-clause-caused : goal.returns-then-is_unloaded-clause-caused
returns-then-is_unloaded-clause-caused g c = taken_by_folder c.loop-left.refused c.loop-left.invariant.taken

pub returns-then-has_no_room-clause-faults : goal.returns-then-has_no_room-clause-faults
returns-then-has_no_room-clause-faults g c =
    short_level c.execute_in-outcome.result _ _ _ c.loop-left.invariant.counts (c.has_no_room.ensures.0 c.if-has_no_room.true) c.execute_in-outcome.ensures.faults

pub returns-then-is_unloaded-clause-faults : goal.returns-then-is_unloaded-clause-faults
returns-then-is_unloaded-clause-faults g c =
    left_counts c.loop-left.refused c.execute_in-outcome.result _ _ _ c.loop-left.invariant.taken c.loop-left.invariant.counts
    (c.is_unloaded.ensures.0 c.if-is_unloaded.true) c.execute_in-outcome.ensures.faults

pub returns-then-has_no_room-clause-kept : goal.returns-then-has_no_room-clause-kept
returns-then-has_no_room-clause-kept g c = λ steady name bytes stands.
    c.execute_in-outcome.ensures.kept (c.loop-left.invariant.steady steady) name bytes (c.loop-left.invariant.kept steady name bytes stands)

pub returns-then-is_unloaded-clause-kept : goal.returns-then-is_unloaded-clause-kept
returns-then-is_unloaded-clause-kept g c = λ steady name bytes stands.
    c.execute_in-outcome.ensures.kept (c.loop-left.invariant.steady steady) name bytes (c.loop-left.invariant.kept steady name bytes stands)

pub returns-then-not-is_lost_race-clause-kept : goal.returns-then-not-is_lost_race-clause-kept
returns-then-not-is_lost_race-clause-kept g c = λ steady name bytes stands.
    c.execute_in-outcome.ensures.kept (c.loop-left.invariant.steady steady) name bytes (c.loop-left.invariant.kept steady name bytes stands)

pub returns-then-is_unloaded-clause-loaded : goal.returns-then-is_unloaded-clause-loaded
returns-then-is_unloaded-clause-loaded g c = taken_is_loaded c.loop-left.refused c.loop-left.invariant.taken

pub returns-then-not-is_lost_race-clause-loaded : goal.returns-then-not-is_lost_race-clause-loaded
returns-then-not-is_lost_race-clause-loaded g c = λ is. false≢true (sym c.if-is_unloaded.false ∙ c.is_unloaded.ensures.1 is)

pub returns-clause-loaded : goal.returns-clause-loaded
returns-clause-loaded g c = taken_is_loaded c.loop-left.refused c.loop-left.invariant.taken

-- ---- runs

pub loop-left-init : goal.loop-left-init
loop-left-init g c = record {
  taken = c.requires.taken;
  some = c.requires.some;
  puts = c.requires.puts;
  runs = λ statement calls asked run.
      first_run (λ made. Traced g.F.Folder.makes c.args.folder.now made c.args.folder.now) (work_view c.args.command.job) c.args.text.now c.args.command.use_checkpoints (g.F.Folder.fault_count c.args.folder.now) c.args.tries c.args.refused statement calls refl asked run;
  counts = refl;
  steady = λ steady. steady;
  kept = λ steady name bytes stands. stands;
}

pub returns-in_default-clause-runs : goal.returns-in_default-clause-runs
returns-in_default-clause-runs g c = λ statement calls asked run.
    short_behind g.F.Folder.makes (work_view c.args.command.job) c.args.text.now c.args.command.use_checkpoints (g.F.Folder.fault_count c.args.folder.now) c.args.tries _ calls c.loop-left.refused c.args.folder.now c.loop-left.folder
    (c.loop-left.invariant.runs statement calls asked run) c.loop-left.invariant.taken c.loop-left.folder _ [] c.loop-left-test.true refl tt

pub returns-then-has_no_room-clause-runs : goal.returns-then-has_no_room-clause-runs
returns-then-has_no_room-clause-runs g c = λ statement calls asked run.
    let work = work_view c.args.command.job in
    let line = line_view c.in-Ok-Some.line in
    let same = found_asked c.in-Ok-Some.field-0 c.in-Ok-Some.line work (Some c.args.text.now) c.in-Ok-Some.field-0-is (c.in-Ok-Some.ensures.asked (Some c.args.text.now) (λ reads. refl)) in
    let puts = puts_still work _ _ c.loop-left.invariant.puts.0 line c.loop-left.invariant.puts.1 c.loop-left.invariant.puts.2 same in
    let one = c.execute_in-outcome.ensures.ran puts in
    let unread = short_unread c.execute_in-outcome.result (c.has_no_room.ensures.0 c.if-has_no_room.true) in
    short_behind g.F.Folder.makes work c.args.text.now c.args.command.use_checkpoints (g.F.Folder.fault_count c.args.folder.now) c.args.tries _ calls c.loop-left.refused c.args.folder.now c.loop-left.folder
    (c.loop-left.invariant.runs statement calls asked run) c.loop-left.invariant.taken c.execute_in-outcome.new.folder _ one.0 c.loop-left-test.true one.1 (unread_makes_none _ _ _ c.execute_in-outcome.result one.0 one.2 unread)

pub returns-then-is_unloaded-clause-runs : goal.returns-then-is_unloaded-clause-runs
returns-then-is_unloaded-clause-runs g c = λ statement calls asked run.
    let work = work_view c.args.command.job in
    let line = line_view c.in-Ok-Some.line in
    let same = found_asked c.in-Ok-Some.field-0 c.in-Ok-Some.line work (Some c.args.text.now) c.in-Ok-Some.field-0-is (c.in-Ok-Some.ensures.asked (Some c.args.text.now) (λ reads. refl)) in
    let puts = puts_still work _ _ c.loop-left.invariant.puts.0 line c.loop-left.invariant.puts.1 c.loop-left.invariant.puts.2 same in
    let one = c.execute_in-outcome.ensures.ran puts in
    let unread = c.is_unloaded.ensures.0 c.if-is_unloaded.true in
    let risen = unread_risen c.execute_in-outcome.result _ _ _ c.loop-left.invariant.counts unread (λ short. false≢true (sym c.if-has_no_room.false ∙ c.has_no_room.ensures.1 short)) c.execute_in-outcome.ensures.faults in
    refused_unread g.F.Folder.makes work c.args.text.now c.args.command.use_checkpoints (g.F.Folder.fault_count c.args.folder.now) c.args.tries _ calls c.loop-left.refused c.args.folder.now c.loop-left.folder
    (c.loop-left.invariant.runs statement calls asked run) c.loop-left.invariant.taken c.execute_in-outcome.new.folder _ one.0 c.loop-left-test.true one.1 (unread_makes_none _ _ _ c.execute_in-outcome.result one.0 one.2 unread) risen

pub returns-then-not-is_lost_race-clause-runs : goal.returns-then-not-is_lost_race-clause-runs
returns-then-not-is_lost_race-clause-runs g c = λ statement calls asked run.
    let work = work_view c.args.command.job in
    let line = line_view c.in-Ok-Some.line in
    let same = found_asked c.in-Ok-Some.field-0 c.in-Ok-Some.line work (Some c.args.text.now) c.in-Ok-Some.field-0-is (c.in-Ok-Some.ensures.asked (Some c.args.text.now) (λ reads. refl)) in
    let puts = puts_still work _ _ c.loop-left.invariant.puts.0 line c.loop-left.invariant.puts.1 c.loop-left.invariant.puts.2 same in
    told_last g.F.Folder.makes work c.args.text.now c.args.command.use_checkpoints (g.F.Folder.fault_count c.args.folder.now) c.args.tries _ calls c.loop-left.refused c.args.folder.now c.loop-left.folder
    (c.loop-left.invariant.runs statement calls asked run) c.loop-left.invariant.taken c.execute_in-outcome.new.folder _ c.execute_in-outcome.result line c.loop-left-test.true same
    (λ is. false≢true (sym c.if-is_unloaded.false ∙ c.is_unloaded.ensures.1 is))
    (taken_risen c.execute_in-outcome.result _ _ _ _ _ c.faults-before.ensures c.faults.ensures c.loop-left.invariant.counts c.execute_in-outcome.ensures.faults (c.is_lost_race.ensures.failed c.if-not-is_lost_race.true))
    (c.execute_in-outcome.ensures.ran puts)

pub returns-clause-runs : goal.returns-clause-runs
returns-clause-runs g c = λ statement calls asked run.
    let none : c.loop-left.left ≡ 1 = omega (arith, c.loop-left-test.false, c.loop-left.invariant.some) in
    refused_last g.F.Folder.makes (work_view c.args.command.job) c.args.text.now c.args.command.use_checkpoints (g.F.Folder.fault_count c.args.folder.now) c.args.tries _ calls c.loop-left.refused c.args.folder.now c.loop-left.folder
    (c.loop-left.invariant.runs statement calls asked run) c.loop-left.invariant.taken _ none

pub loop-left-preserved : goal.loop-left-preserved
loop-left-preserved g c =
    let work = work_view c.args.command.job in
    let line = line_view c.in-Ok-Some.line in
    let same = found_asked c.in-Ok-Some.field-0 c.in-Ok-Some.line work (Some c.args.text.now) c.in-Ok-Some.field-0-is (c.in-Ok-Some.ensures.asked (Some c.args.text.now) (λ reads. refl)) in
    let puts = puts_still work _ _ c.loop-left.invariant.puts.0 line c.loop-left.invariant.puts.1 c.loop-left.invariant.puts.2 same in
    record {
      taken = c.is_lost_race.ensures.taken c.if-not-is_lost_race.false;
      some = omega (arith, c.loop-left-test.true);
      puts = (line, same, puts);
      runs = λ statement calls asked run.
          more_run g.F.Folder.makes work c.args.text.now c.args.command.use_checkpoints (g.F.Folder.fault_count c.args.folder.now) c.args.tries _ calls c.loop-left.refused c.args.folder.now c.loop-left.folder
          (c.loop-left.invariant.runs statement calls asked run) c.loop-left.invariant.taken c.execute_in-outcome.new.folder c.execute_in-outcome.result line c.loop-left-test.true same (c.execute_in-outcome.ensures.ran puts);
      counts = sym c.faults.ensures ∙ c.is_lost_race.ensures.same c.if-not-is_lost_race.false ∙ c.faults-before.ensures ∙ c.loop-left.invariant.counts;
      steady = λ steady. c.execute_in-outcome.ensures.steady (c.loop-left.invariant.steady steady);
      kept = λ steady name bytes stands. c.execute_in-outcome.ensures.kept (c.loop-left.invariant.steady steady) name bytes (c.loop-left.invariant.kept steady name bytes stands);
    }
