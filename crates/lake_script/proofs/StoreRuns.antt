-- What a script over a store is told and leaves, by what its lines came to.
use Rattle.std.proofs.Common.{◌≡◌, ◌+◌, ◌≤◌, ◌∙◌, ℕ, suc, Bool, List, true, false, Option, Result, OnOk, OnErr, length, sym, subst}
use Rattle.delta_actions.specs.Commit.{lines_of}
use Rattle.store_core.specs.Objects.{Objects}
use Rattle.store_core.specs.Names.{greatest_version}
use Rattle.table_log.specs.Restoring.{AreCheckpointsSound, HasOnlySoundCheckpoints, RestoresWell}
use Rattle.lake_script.specs.Answered.{AnsweredInPart, AnsweredText, LeadsTo}
use Rattle.lake_script.specs.Ended.{end_of_script, short_of}
use Rattle.lake_script.specs.Keeps.{Keeps, KeepsBeside}
use Rattle.lake_script.specs.OverStore.{DoesOverStore, StoreState}
use Rattle.lake_script.specs.Runs.{FallsShort, Runs, RunsInPart, TellsWhole, TellsFront}
use Rattle.lake_script.specs.Scripts.{IsScript, StaysSound}
use Rattle.lake_script.specs.Sound.{IsRunInPart, IsScriptRun}
use Rattle.lake_script.specs.Tables.{TableState, entries_of_state}
use Rattle.lake_script.specs.TextRuns.{IsTextRun}
use Rattle.lake_script.specs.Told.{ArePutHere, Finishes, fell_short}
use Rattle.lake_script.specs.declared.engine.End.TheVariants.{NotWritten}
use Rattle.lake_script.specs.declared.engine.Outcome.{Outcome}
use Rattle.lake_script.specs.declared.outputs.OutputError.{OutputError}
use Rattle.lake_script.proofs.EndedLemmas.{cut_off, cut_off_unshort, finishes, finishes_if, in_both}
use Rattle.lake_script.proofs.KeptGrown.{part_is_sound}
use Rattle.lake_script.proofs.RestoredLemmas.{well_of_sound}
use Rattle.lake_script.proofs.RunsLemmas.{in_part, then_err, then_ok}
use Rattle.lake_script.proofs.ScriptLemmas.{script_told}
use Rattle.lake_script.proofs.StoreAnswers.{first, part_run, part_tells, restored_part, restored_text, text_run, text_short, text_tells}

module _ (start : Objects) (use_checkpoints : Bool) (text : List ℕ) (old new : Option (List ℕ)) (short : Bool) (after : Objects) (uses : Bool) where
  abbrev IsLeft : StoreState → Type 0
  IsLeft s = (after ≡ s.objects) × (uses ≡ s.use_checkpoints)

  abbrev pub ToldAll : Type 0
  ToldAll = TellsWhole old new (λ written. LeadsTo (AnsweredText DoesOverStore (first start use_checkpoints) text written short) IsLeft)

  abbrev pub ToldFront : Type 0
  ToldFront = TellsFront old new (λ written. LeadsTo (AnsweredInPart DoesOverStore (first start use_checkpoints) text written short) IsLeft)

  pub all_sound : ToldAll → (every : Bool) → AreCheckpointsSound every start → AreCheckpointsSound every after
  all_sound told every sound = subst (AreCheckpointsSound every) (sym told.2.2.0) (restored_text start use_checkpoints text told.0 short told.2.0 told.2.1 every sound)

  pub front_sound : ToldFront → (every : Bool) → AreCheckpointsSound every start → AreCheckpointsSound every after
  front_sound told every sound = subst (AreCheckpointsSound every) (sym told.2.2.0) (restored_part start use_checkpoints text told.0 short told.2.0 told.2.1 every sound)

  module _ (well : RestoresWell use_checkpoints start) where
    pub all_told : ToldAll → TellsWhole old new (λ written. Runs 1 start (lines_of text) written after)
    all_told told = (told.0, told.1, subst (λ (o : Objects). Runs 1 start (lines_of text) told.0 o) (sym told.2.2.0) (text_tells start use_checkpoints well text told.0 short told.2.0 told.2.1))

    pub front_told : ToldFront → TellsFront old new (λ written. RunsInPart 1 start (lines_of text) written after)
    front_told told = (told.0, told.1, subst (λ (o : Objects). RunsInPart 1 start (lines_of text) told.0 o) (sym told.2.2.0) (part_tells start use_checkpoints well text told.0 short told.2.0 told.2.1))

    pub all_whole : ToldAll → short ≡ false → IsScriptRun start text old new after
    all_whole told fine = subst (λ (o : Objects). IsScriptRun start text old new o) (sym told.2.2.0) (text_run start use_checkpoints well text told.0 short told.2.0 old new told.2.1 fine told.1)

    pub front_whole : ToldFront → short ≡ false → IsRunInPart start text old new
    front_whole told fine = part_run start use_checkpoints well text told.0 short told.2.0 old new told.2.1 fine told.1

    pub all_short : ToldAll → short ≡ true → TellsWhole old new (FallsShort 1 start (lines_of text))
    all_short told so = (told.0, told.1, text_short start use_checkpoints well text told.0 short told.2.0 told.2.1 so)

    pub all_ran : ToldAll → (written : List ℕ) × RunsInPart 1 start (lines_of text) written after
    all_ran told = let ran = all_told told in (ran.0, in_part 1 start (lines_of text) ran.0 after ran.2)

    pub front_ran : ToldFront → (written : List ℕ) × RunsInPart 1 start (lines_of text) written after
    front_ran told = let ran = front_told told in (ran.0, ran.2)

  module _ (ended : Result (Option ℕ) OutputError) (all : OnOk ended ToldAll) (front : OnErr ended ToldFront) where
    run_told : RestoresWell use_checkpoints start → short_of ended short ≡ false → Finishes (end_of_script ended) (λ _. IsScriptRun start text old new after)
    run_told well = finishes_if ended short false (IsScriptRun start text old new after) (then_ok ended ToldAll (short ≡ false → IsScriptRun start text old new after) (λ told. all_whole well told) all)

    run_tells : RestoresWell use_checkpoints start → Finishes (end_of_script ended) (λ _. TellsWhole old new (λ written. Runs 1 start (lines_of text) written after))
    run_tells well = finishes ended (TellsWhole old new (λ written. Runs 1 start (lines_of text) written after)) (then_ok ended ToldAll (TellsWhole old new (λ written. Runs 1 start (lines_of text) written after)) (λ told. all_told well told) all)

    run_short : RestoresWell use_checkpoints start → short_of ended short ≡ true → Finishes (end_of_script ended) (λ _. TellsWhole old new (FallsShort 1 start (lines_of text)))
    run_short well = finishes_if ended short true (TellsWhole old new (FallsShort 1 start (lines_of text))) (then_ok ended ToldAll (short ≡ true → TellsWhole old new (FallsShort 1 start (lines_of text))) (λ told. all_short well told) all)

    run_script : (state : TableState) → RestoresWell use_checkpoints start → Keeps start state → short_of ended short ≡ false
        → Finishes (end_of_script ended) (λ _. length (entries_of_state state) + length (lines_of text) ≤ suc greatest_version → IsScript state old new text start after)
    run_script state well kept =
        finishes_if ended short false (length (entries_of_state state) + length (lines_of text) ≤ suc greatest_version → IsScript state old new text start after)
        (then_ok ended ToldAll (short ≡ false → length (entries_of_state state) + length (lines_of text) ≤ suc greatest_version → IsScript state old new text start after)
        (λ told fine few. script_told state old new text start after few kept (all_whole well told fine)) all)

    run_restores : (every : Bool) → AreCheckpointsSound every start → AreCheckpointsSound every after
    run_restores = in_both ended ToldAll ToldFront ((every : Bool) → AreCheckpointsSound every start → AreCheckpointsSound every after) (λ told. all_sound told) (λ told. front_sound told) all front

    run_lawful : (state : TableState) → HasOnlySoundCheckpoints start → KeepsBeside start state → ArePutHere (lines_of text) → StaysSound state (length (lines_of text)) after
    run_lawful state sound kept here =
        let well = well_of_sound use_checkpoints start sound in
        let ran = in_both ended ToldAll ToldFront ((written : List ℕ) × RunsInPart 1 start (lines_of text) written after) (λ told. all_ran well told) (λ told. front_ran well told) all front in
        part_is_sound state start (lines_of text) ran.0 after kept sound here ran.1 run_restores

    run_stands : RestoresWell use_checkpoints start → short_of ended short ≡ false → end_of_script ended ≡ NotWritten → IsRunInPart start text old new
    run_stands well = cut_off_unshort ended short (IsRunInPart start text old new) (then_err ended ToldFront (short ≡ false → IsRunInPart start text old new) (λ told. front_whole well told) front)

    run_front : RestoresWell use_checkpoints start → end_of_script ended ≡ NotWritten → TellsFront old new (λ written. RunsInPart 1 start (lines_of text) written after)
    run_front well = cut_off ended (TellsFront old new (λ written. RunsInPart 1 start (lines_of text) written after)) (then_err ended ToldFront (TellsFront old new (λ written. RunsInPart 1 start (lines_of text) written after)) (λ told. front_told well told) front)

    -- all of it, of a run that ended so
    pub is_text_run : (outcome : Outcome) → outcome.end ≡ end_of_script ended → fell_short outcome ≡ short_of ended short → IsTextRun use_checkpoints text outcome old new start after
    is_text_run outcome ends falls = record {
      told = λ well fine. rw ends (run_told well (sym falls ∙ fine));
      tells = λ well. rw ends (run_tells well);
      short = λ well so. rw ends (run_short well (sym falls ∙ so));
      stands = λ well fine cut. run_stands well (sym falls ∙ fine) (sym ends ∙ cut);
      front = λ well cut. run_front well (sym ends ∙ cut);
      script = λ state well kept fine. rw ends (run_script state well kept (sym falls ∙ fine));
      lawful = run_lawful;
      restores = run_restores;
    }
