-- What is told on standard error, put together.
use Rattle.std.proofs.Common.{◌≡◌, ◌++◌, ◌||◌, ℕ, Bool, true, false, List, [], Option, refl}
use Rattle.std.proofs.KnownBytes.{Appends-nil, Appends-trans}
use Rattle.lake_hints.specs.ErrorOutputs.{AreInTurn, IsTextBehind, TellsText, TellsSome, error_write_failed}
use Rattle.lake_hints.specs.declared.error_output.ErrorOutput.{ErrorOutput}

-- where no write has failed by now, none had before
unbroken : (old new : Bool) → (old ≡ true → new ≡ true) → new ≡ false → old ≡ false
unbroken false new kept none = refl
unbroken true new kept none = let is = kept refl in cc

-- where nothing of two kinds is told, nothing of each is
pub left_silent : (a b : Bool) → (a || b) ≡ false → (a ≡ false) × (b ≡ false)
left_silent false b none = (refl, none)
left_silent true b none = absurd cc

module _ {E : Type 0} (contents : E → Option (List ℕ)) where
  pub told_nothing : (err : ErrorOutput E) → TellsText contents err err []
  told_nothing err = record { told = λ none. Appends-nil (contents err.writer); broken = λ is. is }

  pub told_on : (a b c : ErrorOutput E) (front rest : List ℕ) → TellsText contents a b front → TellsText contents b c rest → TellsText contents a c (front ++ rest)
  told_on a b c front rest first second = record {
    told = λ none. Appends-trans (contents a.writer) (contents b.writer) (contents c.writer) front rest (first.told (unbroken (error_write_failed b) (error_write_failed c) second.broken none)) (second.told none);
    broken = λ is. second.broken (first.broken is);
  }

  pub told_behind : (P : List ℕ → Type 0) (a b c : ErrorOutput E) (front : List ℕ) → TellsText contents a b front → TellsSome contents P b c → TellsSome contents (IsTextBehind front P) a c
  told_behind P a b c front first second = (front ++ second.0, (second.0, second.1, refl), told_on a b c front second.0 first second.2)

  pub told_in_turn : (P Q : List ℕ → Type 0) (a b c : ErrorOutput E) → TellsSome contents P a b → TellsSome contents Q b c → TellsSome contents (AreInTurn P Q) a c
  told_in_turn P Q a b c first second = (first.0 ++ second.0, (first.0, second.0, first.1, second.1, refl), told_on a b c first.0 second.0 first.2 second.2)

  pub told_weaker : (P Q : List ℕ → Type 0) (a b : ErrorOutput E) → ((text : List ℕ) → P text → Q text) → TellsSome contents P a b → TellsSome contents Q a b
  told_weaker P Q a b weaker told = (told.0, weaker told.0 told.1, told.2)
