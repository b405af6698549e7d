-- The rule of the lock: of what it holds, and of what each pass knows.
use Rattle.std.specs.Prelude.{◌≡◌, ◌≢◌, ◌≤◌, ◌⊎◌, ℕ, true, List, [], ◌∷◌, ◌++◌, length, None, Some}
use mathlib.Core.Option.{some}
use lib.ListN.{get_elem?}
use Rattle.store_core.specs.Objects.{Objects}
use Rattle.log_book.specs.Book.{BookView}
use Rattle.log_book.specs.Histories.{History, calls_of_seat}
use Rattle.log_hub.specs.Sights.{Seen, Sight}

-- a list begins with this one
abbrev pub IsFrontOf : {A : Type 0} → (front whole : List A) → Type 0
IsFrontOf {A} front whole = (rest : List A) × (whole ≡ front ++ rest)

-- the lock holds the book, which has this history, or nothing while the book is out
abbrev pub Lies : Objects → History → List BookView → Type 0
Lies opening history [] = Unit {0}
Lies opening history (book ∷ []) = (book.opening ≡ opening) × (book.history ≡ history)
Lies opening history (book ∷ other ∷ books) = ⊥

-- This was seen of a book with this history: a front of it, and the calls of this number in it are just those that the
-- seat made.
pub record IsSeenOf (opening : Objects) (history : History) (s : Seen) : Type 0 where
  pub opened : s.opening ≡ opening
  pub front : IsFrontOf s.front history
  pub mine : calls_of_seat s.number history ≡ s.mine

abbrev pub AreSeenOf : Objects → History → List Seen → Type 0
AreSeenOf opening history [] = Unit {0}
AreSeenOf opening history (s ∷ ss) = IsSeenOf opening history s × AreSeenOf opening history ss

-- What is so of one that sits at this place.
pub record IsSeated (items : List BookView) (opening : Objects) (history : History) (count taker at : ℕ) (v : Sight) : Type 0 where
  pub number : v.seen.number ≡ at
  pub seen : IsSeenOf opening history v.seen
  pub made : at ≡ 0 → v.seen.made ≡ count
  -- it hasn't the book out, and took in nobody; or it has, and the book isn't in the lock
  pub out : ((v.out ≡ None) × (v.known ≡ [])) ⊎ ((v.out ≡ Some history) × (items ≡ []) × (at ≡ taker))
  pub known : AreSeenOf opening history v.known

-- The rule. There is one history, of which each has seen a front, and in which its calls are just its own; a book that lies
-- in the lock has it, and so has one that is out, which is with one at most. Nobody else has a call in it.
pub record IsLocked (items : List BookView) (views : List Sight) : Type 0 where
  pub opening : Objects
  pub history : History
  pub taker : ℕ
  pub lies : Lies opening history items
  pub seated : (at : ℕ) (v : Sight) → get_elem? views at ≡ some v → v.sits ≡ true → IsSeated items opening history (length views) taker at v
  pub strangers : (by : ℕ) → length views ≤ by → calls_of_seat by history ≡ []

-- ---- the steps: taking the book out, putting it back with calls behind its history, and as it was

abbrev pub with_book_out : Sight → History → Sight
with_book_out v history = record { sits = v.sits; seen = v.seen; out = Some history; known = v.known }

-- the book is taken out: it is that of which this one has seen a front
abbrev pub TakesOut : Sight → BookView → Sight → Type 0
TakesOut v book w = (w ≡ with_book_out v book.history) × IsSeenOf book.opening book.history v.seen

-- what was seen of a book that is put back: all of it
abbrev pub seen_of_book : (number made : ℕ) → BookView → Seen
seen_of_book number made book = record { number = number; made = made; opening = book.opening; front = book.history; mine = calls_of_seat number book.history }

abbrev pub PutsBack : Sight → BookView → Sight → Type 0
PutsBack v book w = w ≡ record { sits = v.sits; seen = seen_of_book v.seen.number v.seen.made book; out = None; known = v.known }

-- it is put back as it was, and nothing more was seen
abbrev pub PutsBackUnused : Sight → BookView → Sight → Type 0
PutsBackUnused v book w = w ≡ record { sits = v.sits; seen = v.seen; out = None; known = v.known }

-- no number past those of the seats that the first one knows of has a call in a history
abbrev pub HasNoStrangers : History → Seen → Type 0
HasNoStrangers history s = s.number ≡ 0 → (by : ℕ) → s.made ≤ by → calls_of_seat by history ≡ []

-- who has the book out learns that those whom it took in have seen of the book, and that nobody else has a call in it
abbrev pub LearnsAll : Sight → List BookView → Type 0
LearnsAll v items = (history : History) → v.out ≡ Some history → AreSeenOf v.seen.opening history v.known × HasNoStrangers history v.seen

-- A book that may be put back: calls of who has it stand behind the history with which it was taken out.
pub record MayPutBack (v : Sight) (book : BookView) : Type 0 where
  pub sits : v.sits ≡ true
  pub none : v.known ≡ []
  pub opened : book.opening ≡ v.seen.opening
  pub history : History
  pub out : v.out ≡ Some history
  pub news : History
  pub longer : book.history ≡ history ++ news
  pub own : (other : ℕ) → other ≢ v.seen.number → calls_of_seat other news ≡ []

-- the same without any call (opening and history say which objects stand)
pub record IsUnused (v : Sight) (book : BookView) : Type 0 where
  pub sits : v.sits ≡ true
  pub none : v.known ≡ []
  pub opened : book.opening ≡ v.seen.opening
  pub out : v.out ≡ Some book.history
