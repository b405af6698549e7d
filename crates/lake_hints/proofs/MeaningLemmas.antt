-- What the lines of a reply mean, by those that were looked at and those that are left.
use Rattle.std.proofs.Common.{◌≡◌, ◌+◌, ◌<◌, ◌++◌, ◌∙◌, ℕ, List, [], ◌∷◌, Option, None, Some, length, refl, sym, ap, subst, append-nil, append_assoc, option_map, Bor, arith}
use Rattle.std.specs.Prelude.{IfSome}
use Rattle.script_lines.specs.Splitting.{lines_left}
use Rattle.lake_hints.specs.ErrorOutputs.{TellsSome}
use Rattle.lake_hints.specs.Meanings.{AreMeanings, IsMeaningOfLine, more, none}
use Rattle.lake_hints.specs.declared.error_output.ErrorOutput.{ErrorOutput}
use Rattle.lake_hints.proofs.ErrorLemmas.{told_nothing, told_on}

-- the meanings of some lines were told, and others are left
pub record SoFar {E : Type 0} (contents : E → Option (List ℕ)) (lines : List (List ℕ)) (old new : ErrorOutput E) (left : List (List ℕ)) : Type 0 where
  pub front : List (List ℕ)
  pub parts : lines ≡ front ++ left
  pub told : TellsSome contents (AreMeanings front) old new

module _ {E : Type 0} (contents : E → Option (List ℕ)) where
  pub at_first : (lines : List (List ℕ)) (err : ErrorOutput E) → SoFar contents lines err err lines
  at_first lines err = record { front = []; parts = refl; told = ([], none, told_nothing contents err) }

  pub one_more : (lines : List (List ℕ)) (old between new : ErrorOutput E) (line : List ℕ) (left : List (List ℕ)) → SoFar contents lines old between (line ∷ left) → TellsSome contents (IsMeaningOfLine line) between new
      → SoFar contents lines old new left
  one_more lines old between new line left before meaning = record {
    front = before.front ++ line ∷ [];
    parts = before.parts ∙ sym (append_assoc before.front (line ∷ []) left);
    told = (before.told.0 ++ meaning.0, more before.front line before.told.0 meaning.0 before.told.1 meaning.1, told_on contents old between new before.told.0 meaning.0 before.told.2 meaning.2);
  }

  pub at_last : (lines : List (List ℕ)) (old new : ErrorOutput E) → SoFar contents lines old new [] → TellsSome contents (AreMeanings lines) old new
  at_last lines old new before = subst (λ (all : List (List ℕ)). TellsSome contents (AreMeanings all) old new) (sym (before.parts ∙ append-nil before.front)) before.told

-- the lines of what is left, where that is a text
pub left_some : (rest : Option (Bor (List ℕ))) (text : Bor (List ℕ)) (lines : List (List ℕ)) → rest ≡ Some text → lines_left (Some text.now) ≡ lines → lines_left (option_map (λ a. a.now) rest) ≡ lines
left_some rest text lines is same = ap (λ (r : Option (Bor (List ℕ))). lines_left (option_map (λ a. a.now) r)) is ∙ same

-- how many bytes are left, and one for the line that they end with
abbrev pub bytes_left : Option (Bor (List ℕ)) → ℕ
bytes_left None = 0
bytes_left (Some text) = length text.now + 1

pub fewer_left : (after : Option (Bor (List ℕ))) (text : Bor (List ℕ)) → IfSome after (λ a. length a.now < length text.now) → bytes_left after < bytes_left (Some text)
fewer_left None text shorter = omega arith
fewer_left (Some after) text shorter = omega (arith, shorter)
