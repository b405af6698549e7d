-- From what lines came to over a store, one after the other, to what a script is told.
use Rattle.std.proofs.Common.{◌≡◌, ◌⊎◌, ◌+◌, ◌∙◌, ℕ, Bool, List, [], ◌∷◌, ◌++◌, true, false, Option, length, inl, inr, refl, sym, ap, subst, append-nil, append_assoc}
use Rattle.std.specs.Prelude.{◌||◌}
use Rattle.std.proofs.lemmas.Bool.{false≢true}
use Rattle.std.specs.Io.KnownBytes.{Appends}
use Rattle.delta_actions.specs.Commit.{lines_of}
use Rattle.store_core.specs.Objects.{Objects}
use Rattle.table_log.specs.Restoring.{AreCheckpointsSound, RestoresWell}
use Rattle.lake_script.specs.Answered as answered
use Rattle.lake_script.specs.Answered.{Answered, AnsweredInPart, AnsweredText}
use Rattle.lake_script.specs.OverStore.{DoesOverStore, StoreState}
use Rattle.lake_script.specs.Replies.{bad_line}
use Rattle.lake_script.specs.Runs as runs
use Rattle.lake_script.specs.Growth.{MayPut}
use Rattle.lake_script.specs.Runs.{Executes, FallsShort, IsShort, Replies, Runs, RunsInPart, TellsShort}
use Rattle.lake_script.specs.Sound.{IsExecuted, IsRunInPart, IsScriptRun}
use Rattle.lake_script.specs.Streams.{WritesFront}
use Rattle.lake_script.specs.Told.{is_bad}
use Rattle.lake_script.proofs.Answering.{one_longer}
use Rattle.lake_script.proofs.RestoredLemmas.{still_well}
use Rattle.lake_script.proofs.RunLemmas.{AreToldInPart, AreToldWhole, SoFar, answered_line, none_yet, skipped_line, so_far_done, so_far_next, so_far_part, so_far_stops, whole_part}
use Rattle.lake_script.proofs.RunsLemmas.{Onward, SaysShort, in_part, onward_next}
use Rattle.script_lines.specs.Lines.{Statement, asks, bad, reading_of, skipped}

-- one of two is short, or none
either_short : (a b : Bool) → (a || b) ≡ true → (a ≡ true) ⊎ (b ≡ true)
either_short true b is = inl refl
either_short false b is = inr is

first_unshort : (a b : Bool) → (a || b) ≡ false → a ≡ false
first_unshort true b is = is
first_unshort false b is = refl

second_unshort : (a b : Bool) → (a || b) ≡ false → b ≡ false
second_unshort true b is = absurd (false≢true (sym is))
second_unshort false b is = is

module _ (start : Objects) (use_checkpoints : Bool) where
  abbrev pub first : StoreState
  first = record { objects = start; use_checkpoints = use_checkpoints }

  -- checkpoints that are sound stay so, and whether they are used stays
  pub restored : (lines : List (List ℕ)) (written : List ℕ) (short : Bool) (s : StoreState) → Answered DoesOverStore first lines written short s
      → ((every : Bool) → AreCheckpointsSound every start → AreCheckpointsSound every s.objects) × (s.use_checkpoints ≡ use_checkpoints)
  restored _ _ _ _ answered.at_first = (λ every sound. sound, refl)
  restored _ _ _ _ (answered.skips_one lines line written short s before is) = restored lines written short s before
  restored _ _ _ _ (answered.answers_one lines line written short s statement reply falls later before is does) =
      let so = restored lines written short s before in
      (λ every sound. does.restores every (so.0 every sound), does.uses ∙ so.1)

  pub restored_text : (text written : List ℕ) (short : Bool) (s : StoreState) → AnsweredText DoesOverStore first text written short s → (every : Bool) → AreCheckpointsSound every start → AreCheckpointsSound every s.objects
  restored_text text _ _ _ (answered.to_end written short s answers) = (restored (lines_of text) written short s answers).0
  restored_text text _ _ _ (answered.to_bad lines line rest written short s are is answers) = (restored lines written short s answers).0

  pub restored_part : (text written : List ℕ) (short : Bool) (s : StoreState) → AnsweredInPart DoesOverStore first text written short s → (every : Bool) → AreCheckpointsSound every start → AreCheckpointsSound every s.objects
  restored_part text _ _ _ (answered.so_far lines rest written short s are answers) = (restored lines written short s answers).0
  restored_part text _ _ _ (answered.all_of_it written short s told) = restored_text text written short s told

  module _ (well : RestoresWell use_checkpoints start) where
    well_there : (lines : List (List ℕ)) (written : List ℕ) (short : Bool) (s : StoreState) → Answered DoesOverStore first lines written short s → RestoresWell s.use_checkpoints s.objects
    well_there lines written short s answers =
        let so = restored lines written short s answers in
        subst (λ (u : Bool). RestoresWell u s.objects) (sym so.1) (still_well use_checkpoints start s.objects well so.0)

    replies_there : (s : StoreState) (line : List ℕ) (number : ℕ) (statement : Statement) (reply : List ℕ) (falls : Bool) (later : StoreState) → RestoresWell s.use_checkpoints s.objects → reading_of line ≡ asks statement
        → DoesOverStore s statement reply falls later → Replies number s.objects (reading_of line) reply later.objects
    replies_there s line number statement reply falls later here is does = subst (λ r. Replies number s.objects r reply later.objects) (sym is) (does.told here, does.grows here)

    -- ---- what may be told

    moved : (lines : List (List ℕ)) (line : List ℕ) (left : List (List ℕ)) (objects : Objects) (written : List ℕ) → Onward start (lines ++ line ∷ left) (length lines + 1 + 1) objects left written
        → Onward start ((lines ++ line ∷ []) ++ left) (length (lines ++ line ∷ []) + 1) objects left written
    moved lines line left objects written onward =
        subst (λ (ls : List (List ℕ)). Onward start ls (length (lines ++ line ∷ []) + 1) objects left written) (sym (append_assoc lines (line ∷ []) left))
        (subst (λ (n : ℕ). Onward start (lines ++ line ∷ left) (n + 1) objects left written) (sym (one_longer lines line)) onward)

    onward : (lines : List (List ℕ)) (written : List ℕ) (short : Bool) (s : StoreState) → Answered DoesOverStore first lines written short s → (left : List (List ℕ)) → Onward start (lines ++ left) (length lines + 1) s.objects left written
    onward _ _ _ _ answered.at_first left = (λ rest final told. told, λ rest final told. told, λ rest told. told)
    onward _ _ _ _ (answered.skips_one lines line written short s before is) left =
        let so = onward lines written short s before (line ∷ left) in
        let none : Replies (length lines + 1) s.objects (reading_of line) [] s.objects = subst (λ r. Replies (length lines + 1) s.objects r [] s.objects) (sym is) (refl, refl) in
        let on = onward_next start (lines ++ line ∷ left) (length lines + 1) s.objects line left written [] s.objects so (ap is_bad is) none in
        moved lines line left s.objects written (subst (λ (w : List ℕ). Onward start (lines ++ line ∷ left) (length lines + 1 + 1) s.objects left w) (append-nil written) on)
    onward _ _ _ _ (answered.answers_one lines line written short s statement reply falls later before is does) left =
        let so = onward lines written short s before (line ∷ left) in
        let told = replies_there s line (length lines + 1) statement reply falls later (well_there lines written short s before) is does in
        moved lines line left later.objects (written ++ reply) (onward_next start (lines ++ line ∷ left) (length lines + 1) s.objects line left written reply later.objects so (ap is_bad is) told)

    pub text_tells : (text written : List ℕ) (short : Bool) (s : StoreState) → AnsweredText DoesOverStore first text written short s → Runs 1 start (lines_of text) written s.objects
    text_tells text _ _ _ (answered.to_end written short s answers) =
        let told = (onward (lines_of text) written short s answers []).0 [] s.objects runs.done in
        subst (λ (ls : List (List ℕ)). Runs 1 start ls written s.objects) (append-nil (lines_of text)) (subst (λ (w : List ℕ). Runs 1 start (lines_of text ++ []) w s.objects) (append-nil written) told)
    text_tells text _ _ _ (answered.to_bad lines line rest written short s are is answers) =
        let said = bad_line (length lines + 1) in
        let told : Replies (length lines + 1) s.objects (reading_of line) said s.objects = subst (λ r. Replies (length lines + 1) s.objects r said s.objects) (sym is) (refl, refl) in
        subst (λ (ls : List (List ℕ)). Runs 1 start ls (written ++ said) s.objects) (sym are) ((onward lines written short s answers (line ∷ rest)).0 said s.objects (runs.stops (ap is_bad is) told))

    pub part_tells : (text written : List ℕ) (short : Bool) (s : StoreState) → AnsweredInPart DoesOverStore first text written short s → RunsInPart 1 start (lines_of text) written s.objects
    part_tells text _ _ _ (answered.so_far lines rest written short s are answers) =
        let told = (onward lines written short s answers rest).1 [] s.objects runs.waits in
        subst (λ (ls : List (List ℕ)). RunsInPart 1 start ls written s.objects) (sym are) (subst (λ (w : List ℕ). RunsInPart 1 start (lines ++ rest) w s.objects) (append-nil written) told)
    part_tells text _ _ _ (answered.all_of_it written short s told) = in_part 1 start (lines_of text) written s.objects (text_tells text written short s told)

    -- ---- a reply that tells so

    says_short : (lines : List (List ℕ)) (written : List ℕ) (short : Bool) (s : StoreState) → Answered DoesOverStore first lines written short s → short ≡ true → (left : List (List ℕ)) → SaysShort start (lines ++ left) written
    says_short _ _ _ _ answered.at_first so left = absurd (false≢true so)
    says_short _ _ _ _ (answered.skips_one lines line written short s before is) so left =
        subst (λ (ls : List (List ℕ)). SaysShort start ls written) (sym (append_assoc lines (line ∷ []) left)) (says_short lines written short s before so (line ∷ left))
    says_short _ _ _ _ (answered.answers_one lines line written short s statement reply falls later before is does) so left =
        subst (λ (ls : List (List ℕ)). SaysShort start ls (written ++ reply)) (sym (append_assoc lines (line ∷ []) left)) (by_which (λ was. says_short lines written short s before was (line ∷ left)) (either_short short falls so))
      where
        here : RestoresWell s.use_checkpoints s.objects
        here = well_there lines written short s before

        by_which : (short ≡ true → SaysShort start (lines ++ line ∷ left) written) → (short ≡ true) ⊎ (falls ≡ true) → SaysShort start (lines ++ line ∷ left) (written ++ reply)
        by_which says_before (inl was) = λ rest. subst (λ (w : List ℕ). FallsShort 1 start (lines ++ line ∷ left) w) (sym (append_assoc written reply rest)) (says_before was (reply ++ rest))
        by_which says_before (inr fell) = λ rest.
            let told = replies_there s line (length lines + 1) statement reply falls later here is does in
            let says : TellsShort s.objects (reading_of line) reply = subst (λ r. TellsShort s.objects r reply) (sym is) (does.falls here fell) in
            subst (λ (w : List ℕ). FallsShort 1 start (lines ++ line ∷ left) w) (sym (append_assoc written reply rest))
            ((onward lines written short s before (line ∷ left)).2 (reply ++ rest) (runs.here reply rest later.objects told says))

    pub text_short : (text written : List ℕ) (short : Bool) (s : StoreState) → AnsweredText DoesOverStore first text written short s → short ≡ true → FallsShort 1 start (lines_of text) written
    text_short text _ _ _ (answered.to_end written short s answers) so =
        let told = says_short (lines_of text) written short s answers so [] [] in
        subst (λ (ls : List (List ℕ)). FallsShort 1 start ls written) (append-nil (lines_of text)) (subst (λ (w : List ℕ). FallsShort 1 start (lines_of text ++ []) w) (append-nil written) told)
    text_short text _ _ _ (answered.to_bad lines line rest written short s are is answers) so =
        subst (λ (ls : List (List ℕ)). FallsShort 1 start ls (written ++ bad_line (length lines + 1))) (sym are) (says_short lines written short s answers so (line ∷ rest) (bad_line (length lines + 1)))

    -- ---- where nothing was short

    moved_far : (lines : List (List ℕ)) (line : List ℕ) (left : List (List ℕ)) (objects : Objects) (written : List ℕ) → SoFar start (lines ++ line ∷ left) (length lines + 1 + 1) objects left written
        → SoFar start ((lines ++ line ∷ []) ++ left) (length (lines ++ line ∷ []) + 1) objects left written
    moved_far lines line left objects written so =
        subst (λ (ls : List (List ℕ)). SoFar start ls (length (lines ++ line ∷ []) + 1) objects left written) (sym (append_assoc lines (line ∷ []) left))
        (subst (λ (n : ℕ). SoFar start (lines ++ line ∷ left) (n + 1) objects left written) (sym (one_longer lines line)) so)

    so_far : (lines : List (List ℕ)) (written : List ℕ) (short : Bool) (s : StoreState) → Answered DoesOverStore first lines written short s → short ≡ false → (left : List (List ℕ)) → SoFar start (lines ++ left) (length lines + 1) s.objects left written
    so_far _ _ _ _ answered.at_first fine left = none_yet start left
    so_far _ _ _ _ (answered.skips_one lines line written short s before is) fine left =
        let so = so_far lines written short s before fine (line ∷ left) in
        let next = so_far_next start (lines ++ line ∷ left) (length lines + 1) s.objects left written line [] s.objects so (skipped_line (length lines + 1) s.objects (reading_of line) is) (ap is_bad is) in
        moved_far lines line left s.objects written (subst (λ (w : List ℕ). SoFar start (lines ++ line ∷ left) (length lines + 1 + 1) s.objects left w) (append-nil written) next)
    so_far _ _ _ _ (answered.answers_one lines line written short s statement reply falls later before is does) fine left =
        let so = so_far lines written short s before (first_unshort short falls fine) (line ∷ left) in
        let done = answered_line (length lines + 1) s.objects later.objects statement (reading_of line) reply is (does.whole (well_there lines written short s before) (second_unshort short falls fine)) in
        moved_far lines line left later.objects (written ++ reply) (so_far_next start (lines ++ line ∷ left) (length lines + 1) s.objects left written line reply later.objects so done (ap is_bad is))

    text_whole : (text written : List ℕ) (short : Bool) (s : StoreState) → AnsweredText DoesOverStore first text written short s → short ≡ false → AreToldWhole start (lines_of text) written s.objects
    text_whole text _ _ _ (answered.to_end written short s answers) fine =
        subst (λ (ls : List (List ℕ)). AreToldWhole start ls written s.objects) (append-nil (lines_of text)) (so_far_done start (lines_of text ++ []) (length (lines_of text) + 1) s.objects written (so_far (lines_of text) written short s answers fine []))
    text_whole text _ _ _ (answered.to_bad lines line rest written short s are is answers) fine =
        subst (λ (ls : List (List ℕ)). AreToldWhole start ls (written ++ bad_line (length lines + 1)) s.objects) (sym are)
        (so_far_stops start (lines ++ line ∷ rest) (length lines + 1) s.objects rest written line (so_far lines written short s answers fine (line ∷ rest)) is)

    part_whole : (text written : List ℕ) (short : Bool) (s : StoreState) → AnsweredInPart DoesOverStore first text written short s → short ≡ false → AreToldInPart start (lines_of text) written
    part_whole text _ _ _ (answered.so_far lines rest written short s are answers) fine =
        subst (λ (ls : List (List ℕ)). AreToldInPart start ls written) (sym are) (so_far_part start (lines ++ rest) (length lines + 1) s.objects rest written (so_far lines written short s answers fine rest))
    part_whole text _ _ _ (answered.all_of_it written short s told) fine = whole_part start (lines_of text) written s.objects (text_whole text written short s told fine)

    pub text_run : (text written : List ℕ) (short : Bool) (s : StoreState) (old new : Option (List ℕ)) → AnsweredText DoesOverStore first text written short s → short ≡ false → Appends old new written → IsScriptRun start text old new s.objects
    text_run text written short s old new told fine added =
        let whole = text_whole text written short s told fine in
        record { texts = whole.texts; printed = whole.printed; told = subst (λ (w : List ℕ). Appends old new w) whole.told added; left = whole.left; sound = whole.sound }

    pub part_run : (text written : List ℕ) (short : Bool) (s : StoreState) (old new : Option (List ℕ)) → AnsweredInPart DoesOverStore first text written short s → short ≡ false → WritesFront old new written → IsRunInPart start text old new
    part_run text written short s old new told fine stood =
        let part = part_whole text written short s told fine in
        record { texts = part.texts; printed = part.printed; stands = subst (λ (w : List ℕ). WritesFront old new w) part.told stood }

-- what a line did to the objects of a store, in the words of an interpreter
module _ (objects after : Objects) (use_checkpoints : Bool) (s : StoreState) (statement : Statement) (reply : List ℕ) (short : Bool) (stands : (objects ≡ s.objects) × (use_checkpoints ≡ s.use_checkpoints)) where
  well_here : RestoresWell s.use_checkpoints s.objects → RestoresWell use_checkpoints objects
  well_here well = subst (λ (u : Bool). RestoresWell u objects) (sym stands.1) (subst (λ (o : Objects). RestoresWell s.use_checkpoints o) (sym stands.0) well)

  pub does_over : ((every : Bool) → AreCheckpointsSound every objects → AreCheckpointsSound every after) → (RestoresWell use_checkpoints objects → Executes objects statement reply after)
      → (RestoresWell use_checkpoints objects → MayPut objects statement after) → (RestoresWell use_checkpoints objects → short ≡ false → IsExecuted objects statement reply after)
      → (RestoresWell use_checkpoints objects → short ≡ true → IsShort objects statement reply) → DoesOverStore s statement reply short (record { objects = after; use_checkpoints = use_checkpoints })
  does_over restores told grows whole falls = record {
    uses = stands.1;
    restores = λ every sound. restores every (subst (AreCheckpointsSound every) (sym stands.0) sound);
    told = λ well. subst (λ (o : Objects). Executes o statement reply after) stands.0 (told (well_here well));
    grows = λ well. subst (λ (o : Objects). MayPut o statement after) stands.0 (grows (well_here well));
    whole = λ well fine. subst (λ (o : Objects). IsExecuted o statement reply after) stands.0 (whole (well_here well) fine);
    falls = λ well so. subst (λ (o : Objects). IsShort o statement reply) stands.0 (falls (well_here well) so);
  }
