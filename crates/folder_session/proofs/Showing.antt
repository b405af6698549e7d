-- A talk that goes on shows what it showed, and what was told of the call.
use Rattle.std.proofs.Common.{◌≡◌, [], ◌∷◌, ◌++◌, Bool, true, false, ap}
use Rattle.std.specs.Prelude.{◌||◌}
use Rattle.store_core.specs.Objects.{Objects}
use Rattle.session_core.specs.Talks.{Asked, Talk, Told, has_lost, is_lost}
use Rattle.session_core.specs.Shown.{IsExact, Shows}

pub shows_also : (objects : Objects) (talk : Talk) (asked : Asked) (told : Told) → Shows talk objects → IsExact objects asked told → Shows (talk ++ (asked, told) ∷ []) objects
shows_also objects [] asked told shown exact = (exact, tt)
shows_also objects (first ∷ talk) asked told shown exact = (shown.0, shows_also objects talk asked told shown.1 exact)

-- a call that wasn't lost leaves a talk of which none was
pub unlost_also : (talk : Talk) (asked : Asked) (told : Told) → has_lost talk ≡ false → is_lost told ≡ false → has_lost (talk ++ (asked, told) ∷ []) ≡ false
unlost_also [] asked told none kept = ap (λ (b : Bool). b || false) kept
unlost_also (first ∷ talk) asked told none kept = by_first (is_lost first.1) none (λ rest. unlost_also talk asked told rest kept)
  where
    by_first : (lost : Bool) → lost || has_lost talk ≡ false → (has_lost talk ≡ false → has_lost (talk ++ (asked, told) ∷ []) ≡ false) → lost || has_lost (talk ++ (asked, told) ∷ []) ≡ false
    by_first true none more = absurd cc
    by_first false none more = more none
