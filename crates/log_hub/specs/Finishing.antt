-- The end of a hub.
use Rattle.std.specs.Prelude.{◌≡◌, ◌≢◌, ◌≤◌, ◌<◌, ◌+◌, ◌++◌, ℕ, true, List, [], ◌∷◌, Some, length, slice_get}
use Rattle.log_book.specs.Book.{BookView}
use Rattle.log_book.specs.Histories.{History, calls_of_seat}
use Rattle.log_hub.specs.Lock.{IsSeenOf}
use Rattle.log_hub.specs.Seats.{HasSeen, IsSeat, log_seen}
use Rattle.log_hub.specs.Sights.{Seen, Sight}
use Rattle.log_hub.specs.declared.receipt.Receipt.{Receipt}

abbrev pub AreSeats : List Seen → Type 0
AreSeats [] = Unit {0}
AreSeats (s ∷ ss) = IsSeat s × AreSeats ss

-- these were taken in
abbrev pub with_all_known : Sight → List Seen → Sight
with_all_known v seats = record { sits = v.sits; seen = v.seen; out = v.out; known = v.known ++ seats }

-- the book is out with this one
abbrev pub IsOut : Sight → Type 0
IsOut v = (v.sits ≡ true) × (history : History) × (v.out ≡ Some history)

-- What each seat has seen is so of this book: it saw a front of its history, in which its calls are just those that it
-- made, in its order, with their answers, and what stands has what it has seen. The hub's first seat is among them, which
-- knows how many there are, and no number from their count on has a call in the history.
pub record IsEndOf (book : BookView) (seats : List Seen) : Type 0 where
  pub seen : (place : ℕ) (s : Seen) → slice_get seats place ≡ Some s → IsSeenOf book.opening book.history s × HasSeen book.objects s
  pub place : ℕ
  pub first : Seen
  pub among : slice_get seats place ≡ Some first
  pub is_first : first.number ≡ 0
  pub strangers : (by : ℕ) → first.made ≤ by → calls_of_seat by book.history ≡ []

-- the hub's first seat isn't among these
abbrev pub HasNoFirst : List Seen → Type 0
HasNoFirst seats = (place : ℕ) (s : Seen) → slice_get seats place ≡ Some s → s.number ≢ 0

-- Why a hub doesn't end: so many seats more are needed; or as many as it has are given, and its first one isn't among
-- them. (Of a hub's own seats the latter doesn't come; that isn't proved.)
pub data LacksSeats (hub : ℕ) (seats : List Seen) (count : ℕ) : Type 0 where
  too_few : length seats < hub → length seats + count ≡ hub → LacksSeats hub seats count
  no_first : hub ≤ length seats → HasNoFirst seats → count ≡ 1 → LacksSeats hub seats count

-- each receipt's commit stands at its version in the log that some seat has seen
abbrev pub AreShown : List Receipt → List Seen → Type 0
AreShown receipts seats = (at : ℕ) (r : Receipt) → slice_get receipts at ≡ Some r
    → (place : ℕ) × (s : Seen) × (slice_get seats place ≡ Some s) × (slice_get (log_seen s) r.version ≡ Some r.commit.value.items)

-- each receipt's commit stands at its version in this log
abbrev pub AreInLog : List Receipt → (log : List (List ℕ)) → Type 0
AreInLog receipts log = (at : ℕ) (r : Receipt) → slice_get receipts at ≡ Some r → slice_get log r.version ≡ Some r.commit.value.items
