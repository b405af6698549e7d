-- From one line's reply to what a whole script is told.
use Rattle.std.proofs.Common.{◌≡◌, ℕ, ◌+◌, ◌<◌, ◌≤◌, Bool, ◌∷◌, [], ◌++◌, List, Option, None, Some, Bor, IfSome, option_map, length, true, false, refl, ap, subst, sym, ◌∙◌, arith, append_assoc, append-nil}
use Rattle.std.proofs.lemmas.Bool.{cond-true, cond-false}
use Rattle.store_core.specs.Objects.{Objects}
use Rattle.script_lines.specs.Lines.{Statement, Reading, skipped, bad, asks, reading_of}
use Rattle.lake_script.specs.Replies.{bad_line}
use Rattle.lake_script.specs.Sound.{AreSoundLines, IsExecuted, IsSoundLine}
use Rattle.lake_script.specs.Told.{reply_to, left_by, is_bad, IsPrintedLine, UnlessBad, ArePrintedLines, ArePrintedInPart, expected_from, left_from, first_bad_from}
use Rattle.script_lines.specs.Splitting.{lines_left}

-- A line of that number is told what it asks for, and leaves what it is to leave; what it puts is well made.
pub record IsAnsweredLine (number : ℕ) (objects : Objects) (reading : Reading) (reply : List ℕ) (after : Objects) : Type 0 where
  pub text : List ℕ
  pub printed : IsPrintedLine objects reading text
  pub told : reply ≡ reply_to number objects reading text
  pub left : after ≡ left_by objects reading text
  pub sound : IsSoundLine objects reading text

-- one that has what it asks for is answered, one that is skipped, and a bad one
pub answered_line : (number : ℕ) (objects after : Objects) (statement : Statement) (reading : Reading) (reply : List ℕ) → reading ≡ asks statement → IsExecuted objects statement reply after → IsAnsweredLine number objects reading reply after
answered_line number objects after statement reading reply is executed =
    subst (λ r. IsAnsweredLine number objects r reply after) (sym is) (record {
      text = executed.text;
      printed = executed.printed;
      told = executed.told;
      left = executed.left;
      sound = executed.sound;
    })

pub skipped_line : (number : ℕ) (objects : Objects) (reading : Reading) → reading ≡ skipped → IsAnsweredLine number objects reading [] objects
skipped_line number objects reading is = subst (λ r. IsAnsweredLine number objects r [] objects) (sym is) (record { text = []; printed = tt; told = refl; left = refl; sound = tt })

bad_line_answered : (number : ℕ) (objects : Objects) (reading : Reading) → reading ≡ bad → IsAnsweredLine number objects reading (bad_line number) objects
bad_line_answered number objects reading is = subst (λ r. IsAnsweredLine number objects r (bad_line number) objects) (sym is) (record { text = []; printed = tt; told = refl; left = refl; sound = tt })

-- What is known of some lines behind the first of them: whatever texts stand beside those that are left, all are told
-- this with those behind the texts so far.
pub record SoFar (start : Objects) (whole : List (List ℕ)) (number : ℕ) (objects : Objects) (lines : List (List ℕ)) (front : List ℕ) : Type 0 where
  pub texts : List (List ℕ) → List (List ℕ)
  pub printed : (rest : List (List ℕ)) → ArePrintedLines objects lines rest → ArePrintedLines start whole (texts rest)
  pub in_part : (rest : List (List ℕ)) → ArePrintedInPart objects lines rest → ArePrintedInPart start whole (texts rest)
  pub told : (rest : List (List ℕ)) → expected_from 1 start whole (texts rest) ≡ front ++ expected_from number objects lines rest
  pub left : (rest : List (List ℕ)) → left_from start whole (texts rest) ≡ left_from objects lines rest
  pub sound : (rest : List (List ℕ)) → AreSoundLines objects lines rest → AreSoundLines start whole (texts rest)

-- before the first line
pub none_yet : (start : Objects) (whole : List (List ℕ)) → SoFar start whole 1 start whole []
none_yet start whole = record {
  texts = λ rest. rest;
  printed = λ rest all. all;
  in_part = λ rest all. all;
  told = λ rest. refl;
  left = λ rest. refl;
  sound = λ rest all. all;
}

-- These lines are told this, and leave these objects; what they put is well made.
pub record AreToldWhole (start : Objects) (whole : List (List ℕ)) (written : List ℕ) (after : Objects) : Type 0 where
  pub texts : List (List ℕ)
  pub printed : ArePrintedLines start whole texts
  pub told : written ≡ expected_from 1 start whole texts
  pub left : after ≡ left_from start whole texts
  pub sound : AreSoundLines start whole texts

-- Some first of them are told this.
pub record AreToldInPart (start : Objects) (whole : List (List ℕ)) (written : List ℕ) : Type 0 where
  pub texts : List (List ℕ)
  pub printed : ArePrintedInPart start whole texts
  pub told : written ≡ expected_from 1 start whole texts

-- nothing is told where no text stands
told_nothing : (number : ℕ) (objects : Objects) (lines : List (List ℕ)) → expected_from number objects lines [] ≡ []
unfolding expected_from
told_nothing number objects [] = refl
told_nothing number objects (line ∷ lines) = refl

none_printed : (objects : Objects) (lines : List (List ℕ)) → ArePrintedInPart objects lines []
unfolding ArePrintedInPart
none_printed objects [] = tt
none_printed objects (line ∷ lines) = tt

-- a bad line leaves the objects as they are
left_by_bad : (objects : Objects) (r : Reading) (printed : List ℕ) → is_bad r ≡ true → left_by objects r printed ≡ objects
left_by_bad objects skipped printed h = refl
left_by_bad objects bad printed h = refl
left_by_bad objects (asks statement) printed h = cc

module _ (start : Objects) (whole : List (List ℕ)) (number : ℕ) (objects : Objects) (lines : List (List ℕ)) (front : List ℕ) where
  -- the first of them, up to here
  pub so_far_part : SoFar start whole number objects lines front → AreToldInPart start whole front
  so_far_part so_far = record {
    texts = so_far.texts [];
    printed = so_far.in_part [] (none_printed objects lines);
    told = sym (so_far.told [] ∙ (ap (λ u. front ++ u) (told_nothing number objects lines) ∙ append-nil front));
  }

  module _ (line reply : List ℕ) (after : Objects) (so_far : SoFar start whole number objects (line ∷ lines) front) (here : IsAnsweredLine number objects (reading_of line) reply after) where
    -- a line that isn't bad leaves the rest to be told
    module _ (goes_on : is_bad (reading_of line) ≡ false) where
      behind : SoFar start whole (number + 1) (left_by objects (reading_of line) here.text) lines (front ++ reply_to number objects (reading_of line) here.text)
      unfolding ArePrintedLines ArePrintedInPart AreSoundLines expected_from left_from
      behind = record {
        texts = λ rest. so_far.texts (here.text ∷ rest);
        printed = λ rest all. so_far.printed (here.text ∷ rest) (here.printed, subst (λ is. UnlessBad is (ArePrintedLines (left_by objects (reading_of line) here.text) lines rest)) (sym goes_on) all);
        in_part = λ rest all. so_far.in_part (here.text ∷ rest) (here.printed, subst (λ is. UnlessBad is (ArePrintedInPart (left_by objects (reading_of line) here.text) lines rest)) (sym goes_on) all);
        told = λ rest.
            so_far.told (here.text ∷ rest) ∙ ap (λ u. front ++ (reply_to number objects (reading_of line) here.text ++ u)) (cond-false _ _ _ goes_on)
            ∙ sym (append_assoc front _ _);
        left = λ rest. so_far.left (here.text ∷ rest) ∙ cond-false _ _ _ goes_on;
        sound = λ rest all. so_far.sound (here.text ∷ rest) (here.sound, subst (λ is. UnlessBad is (AreSoundLines (left_by objects (reading_of line) here.text) lines rest)) (sym goes_on) all);
      }

      pub so_far_next : SoFar start whole (number + 1) after lines (front ++ reply)
      so_far_next =
          subst (λ o. SoFar start whole (number + 1) o lines (front ++ reply)) (sym here.left)
          (subst (λ (r : List ℕ). SoFar start whole (number + 1) (left_by objects (reading_of line) here.text) lines (front ++ r)) (sym here.told) behind)

  -- behind a bad line nothing is told
  module _ (line : List ℕ) (so_far : SoFar start whole number objects (line ∷ lines) front) (is : reading_of line ≡ bad) where
    here : IsAnsweredLine number objects (reading_of line) (bad_line number) objects
    here = bad_line_answered number objects (reading_of line) is

    ends : is_bad (reading_of line) ≡ true
    ends = ap is_bad is

    pub so_far_stops : AreToldWhole start whole (front ++ bad_line number) objects
    unfolding ArePrintedLines AreSoundLines expected_from left_from
    so_far_stops = record {
      texts = so_far.texts (here.text ∷ []);
      printed = so_far.printed (here.text ∷ []) (here.printed, subst (λ is. UnlessBad is (ArePrintedLines (left_by objects (reading_of line) here.text) lines [])) (sym ends) tt);
      told =
          let last = ap (λ u. reply_to number objects (reading_of line) here.text ++ u) (cond-true (is_bad (reading_of line)) [] (expected_from (number + 1) (left_by objects (reading_of line) here.text) lines []) ends) ∙ append-nil _ in
          ap (λ u. front ++ u) here.told ∙ sym (so_far.told (here.text ∷ []) ∙ ap (λ u. front ++ u) last);
      left = here.left ∙ left_by_bad objects (reading_of line) here.text ends ∙ sym (so_far.left (here.text ∷ []) ∙ cond-true _ _ _ ends);
      sound = so_far.sound (here.text ∷ []) (here.sound, subst (λ is. UnlessBad is (AreSoundLines (left_by objects (reading_of line) here.text) lines [])) (sym ends) tt);
    }

-- all lines were told
pub so_far_done : (start : Objects) (whole : List (List ℕ)) (number : ℕ) (objects : Objects) (front : List ℕ) → SoFar start whole number objects [] front → AreToldWhole start whole front objects
unfolding ArePrintedLines AreSoundLines expected_from left_from
so_far_done start whole number objects front so_far = record {
  texts = so_far.texts [];
  printed = so_far.printed [] tt;
  told = sym (so_far.told [] ∙ append-nil front);
  left = sym (so_far.left []);
  sound = so_far.sound [] tt;
}

unless_too : (is : Bool) (P Q : Type 0) → (P → Q) → UnlessBad is P → UnlessBad is Q
unless_too true P Q all holds = tt
unless_too false P Q all holds = all holds

-- texts that stand beside all lines stand beside the first of them
printed_in_part : (objects : Objects) (lines texts : List (List ℕ)) → ArePrintedLines objects lines texts → ArePrintedInPart objects lines texts
unfolding ArePrintedLines ArePrintedInPart
printed_in_part objects [] texts all = tt
printed_in_part objects (line ∷ lines) [] all = absurd all
printed_in_part objects (line ∷ lines) (text ∷ texts) all =
    let behind = left_by objects (reading_of line) text in
    (all.0, unless_too (is_bad (reading_of line)) (ArePrintedLines behind lines texts) (ArePrintedInPart behind lines texts) (λ rest. printed_in_part behind lines texts rest) all.1)

-- what is told for all is told for the first of them
pub whole_part : (start : Objects) (whole : List (List ℕ)) (written : List ℕ) (after : Objects) → AreToldWhole start whole written after → AreToldInPart start whole written
whole_part start whole written after told = record { texts = told.texts; printed = printed_in_part start whole told.texts told.printed; told = told.told }

-- the number of the first bad line, from one line on
module _ (number : ℕ) (line : List ℕ) (lines : List (List ℕ)) where
  pub first_bad_next : is_bad (reading_of line) ≡ false → first_bad_from number (line ∷ lines) ≡ first_bad_from (number + 1) lines
  unfolding first_bad_from
  first_bad_next goes_on = cond-false _ _ _ goes_on

  pub first_bad_here : is_bad (reading_of line) ≡ true → first_bad_from number (line ∷ lines) ≡ Some number
  unfolding first_bad_from
  first_bad_here ends = cond-true _ _ _ ends

-- how many lines may still come
abbrev pub lines_at_most : Option (List ℕ) → ℕ
lines_at_most None = 0
lines_at_most (Some text) = length text + 1

-- behind a line fewer may come
pub lines_at_most-after : (text : List ℕ) (after : Option (Bor (List ℕ))) → IfSome after (λ a. length a.now < length text) → lines_at_most (option_map (λ a. a.now) after) ≤ length text
lines_at_most-after text None h = omega arith
lines_at_most-after text (Some a) h = omega arith

-- nothing is left where there is no text
pub lines_left_none : (rest : Option (Bor (List ℕ))) → ((x : Bor (List ℕ)) → rest ≡ Some x → ⊥) → lines_left (option_map (λ a. a.now) rest) ≡ []
lines_left_none None h = refl
lines_left_none (Some x) h = absurd (h x refl)

pub first_bad_from-none : (number : ℕ) → first_bad_from number [] ≡ None
unfolding first_bad_from
first_bad_from-none number = refl
