-- What a refusal means, as it is told.
use Rattle.std.specs.Prelude.{◌≡◌, ◌⊎◌, ◌++◌, ◌==◌, ℕ, false, List, [], ◌∷◌, Some}
use Rattle.std.specs.List.{slice_split}
use Rattle.outcomes.specs.Lines.{with_newline}
use Rattle.refusal_texts.specs.Codes.{has_entry}
use Rattle.refusal_texts.specs.Replies.{code_of, is_some_with}
use Rattle.refusal_texts.specs.Texts.{refusal_text}
use Rattle.refusal_texts.specs.declared.refusal.Refusal.{Refusal}

-- of a code that has an entry this one is told, in a line, and of another one nothing
pub data IsMeaning (code : List ℕ) : List ℕ → Type 0 where
  unlisted : has_entry code ≡ false → IsMeaning code []
  entry : (refusal : Refusal) → refusal.code.now ≡ code → IsMeaning code (with_newline (refusal_text refusal))

-- the same of the code that a line of a reply tells, if it tells one
pub data IsMeaningOfLine (line : List ℕ) : List ℕ → Type 0 where
  nothing : is_some_with has_entry (code_of line) ≡ false → IsMeaningOfLine line []
  meant : (refusal : Refusal) → code_of line ≡ Some refusal.code.now → IsMeaningOfLine line (with_newline (refusal_text refusal))

-- the meanings of some lines, in order
pub data AreMeanings : List (List ℕ) → List ℕ → Type 0 where
  none : AreMeanings [] []
  more : (lines : List (List ℕ)) (line text meaning : List ℕ) → AreMeanings lines text → IsMeaningOfLine line meaning → AreMeanings (lines ++ line ∷ []) (text ++ meaning)

-- what stands between the newlines of a reply
abbrev pub reply_lines : List ℕ → List (List ℕ)
reply_lines reply = slice_split (λ byte. byte == 10) reply

-- What a reply means: the meanings of its lines, or nothing, which is told where memory runs out for the reply's text.
abbrev pub IsMeaningOf : (reply : List ℕ) → List ℕ → Type 0
IsMeaningOf reply text = (text ≡ []) ⊎ AreMeanings (reply_lines reply) text
