-- Fronts of histories, and the calls of one seat in them.
use Rattle.std.proofs.Common.{◌≡◌, ◌∙◌, ◌==◌, ℕ, Bool, true, false, List, [], ◌∷◌, ◌++◌, if◌then◌else◌, refl, ap, append_assoc}
use Rattle.log_book.specs.Histories.{History, calls_of_seat}
use Rattle.log_hub.specs.Lock.{IsFrontOf}

-- a list is a front of itself
pub front_itself : {A : Type 0} (whole : List A) → IsFrontOf whole whole
front_itself [] = ([], refl)
front_itself (one ∷ whole) = (let rest = front_itself whole in rest.0, ap (λ rest. one ∷ rest) (front_itself whole).1)

-- a front stays one of a longer history
pub front_longer : (front history news : History) → IsFrontOf front history → IsFrontOf front (history ++ news)
front_longer front history news is = (is.0 ++ news, ap (λ (h : History). h ++ news) is.1 ∙ append_assoc front is.0 news)

pub calls_of_seat-append : (seat : ℕ) (front rest : History) → calls_of_seat seat (front ++ rest) ≡ calls_of_seat seat front ++ calls_of_seat seat rest
calls_of_seat-append seat [] rest = refl
calls_of_seat-append seat (call ∷ front) rest = step (calls_of_seat-append seat front rest) (call.seat == seat)
  where
    step : calls_of_seat seat (front ++ rest) ≡ calls_of_seat seat front ++ calls_of_seat seat rest
        → (own : Bool) → (if own then call ∷ calls_of_seat seat (front ++ rest) else calls_of_seat seat (front ++ rest)) ≡ (if own then call ∷ calls_of_seat seat front else calls_of_seat seat front) ++ calls_of_seat seat rest
    step same true = ap (λ (h : History). call ∷ h) same
    step same false = same
