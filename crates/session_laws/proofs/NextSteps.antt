-- A session's step is one of what its job does next.
use Rattle.std.proofs.Common.{◌≡◌, ◌∙◌, [], ◌∷◌, ◌++◌, Bool, Option, refl, sym}
use Rattle.session_core.specs.Sessions.{Goes, TellsLost, hears_lost}
use Rattle.session_core.specs.Talks as talks
use Rattle.session_core.specs.Talks.{Asked, Talk, Told, heard}
use Rattle.session_core.specs.declared.session.Step.{Step}
use Rattle.session_core.specs.declared.session.Step.TheVariants.{Ask, Done}
use Rattle.session_laws.specs.May.{Hears, first, later, move_of}
use Rattle.table_jobs.specs.Jobs.{Asks, Ends, Job, Outcome, is_lost_outcome}
use Rattle.session_laws.specs.Moves.{Does, ends_lost}

-- what was told last is told last
ends_last : (talk : Talk) (asked : Asked) (told : Told) → ends_lost (talk ++ (asked, told) ∷ []) ≡ talks.is_lost told
ends_last [] asked told = refl
ends_last (call ∷ []) asked told = refl
ends_last (call ∷ next ∷ talk) asked told = ends_last (next ∷ talk) asked told

-- the talk now is the one that was heard, and ends with what was told
pub heard_now : (talk : Talk) (asked : Option Asked) (told : Option Told) (now : Talk) → Hears talk asked told now → (heard talk asked told ≡ now) × (hears_lost told ≡ ends_lost now)
heard_now _ _ _ _ first = (refl, refl)
heard_now _ _ _ _ (later talk asked told) = (refl, sym (ends_last talk asked told))

module _ {N O : Type 0} (job : Job) (tell : O → Outcome) (lost : O → Bool) (fits : N → Talk → Option Asked → Type 0) (before now : Talk) (told : Option Told) (new : N) where
  pub does_step : (step : Step O) → ((outcome : O) → is_lost_outcome (tell outcome) ≡ lost outcome) → hears_lost told ≡ ends_lost now → Goes fits (Asks job before) (λ talk outcome. Ends job before talk (tell outcome)) new now step → TellsLost lost told step
      → Does job before now (move_of tell step)
  does_step (Ask request) same is goes told_so = (goes.1, sym is ∙ told_so)
  does_step (Done outcome) same is goes told_so = (goes, same outcome ∙ (told_so ∙ is))
