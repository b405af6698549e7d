-- What is told on standard error.
use Rattle.std.specs.Prelude.{◌≡◌, ◌++◌, ℕ, Bool, true, false, List, Option}
use Rattle.std.specs.Io.KnownBytes.{Appends}
use Rattle.lake_hints.specs.declared.error_output.ErrorOutput.{ErrorOutput}

-- a write of it failed
abbrev pub error_write_failed : {E : Type 0} → ErrorOutput E → Bool
error_write_failed err = err.is_broken

-- A text is told: unless a write failed it stands behind what was there. A write that failed isn't forgotten.
pub record TellsText {E : Type 0} (contents : E → Option (List ℕ)) (old new : ErrorOutput E) (text : List ℕ) : Type 0 where
  pub told : error_write_failed new ≡ false → Appends (contents old.writer) (contents new.writer) text
  pub broken : error_write_failed old ≡ true → error_write_failed new ≡ true

-- a text for which this holds is told
abbrev pub TellsSome : {E : Type 0} → (contents : E → Option (List ℕ)) → (P : List ℕ → Type 0) → (old new : ErrorOutput E) → Type 0
TellsSome contents P old new = (text : List ℕ) × P text × TellsText contents old new text

-- a text, and one behind it for which this holds
abbrev pub IsTextBehind : (front : List ℕ) → (P : List ℕ → Type 0) → List ℕ → Type 0
IsTextBehind front P text = (rest : List ℕ) × P rest × (text ≡ front ++ rest)

-- two texts, one behind the other
abbrev pub AreInTurn : (P Q : List ℕ → Type 0) → List ℕ → Type 0
AreInTurn P Q text = (front rest : List ℕ) × P front × Q rest × (text ≡ front ++ rest)
