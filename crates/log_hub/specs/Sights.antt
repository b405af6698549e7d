-- What seats have seen of a book, and what the passes of its lock know, as plain lists.
use Rattle.std.specs.Prelude.{ℕ, ◌+◌, Bool, true, false, [], ◌∷◌, ◌++◌, List, Option, None, Some}
use Rattle.store_core.specs.Objects.{Objects}
use Rattle.log_book.specs.Histories.{History}

-- What a seat has seen: what stood when the book was opened, a front of the book's history, and the calls that the seat
-- made itself; and, of the first seat, how many there are.
pub record Seen : Type 0 where
  pub number : ℕ
  pub made : ℕ
  pub opening : Objects
  pub front : History
  pub mine : History

-- What a pass knows. One that sits is a seat's. Who has the book out knows its history, and maybe what others had seen that
-- it took in.
pub record Sight : Type 0 where
  pub sits : Bool
  pub seen : Seen
  pub out : Option History
  pub known : List Seen

-- the first seat's, which has the book out at first
abbrev pub first_sight : Sight
first_sight = record { sits = true; seen = record { number = 0; made = 1; opening = []; front = []; mine = [] }; out = Some []; known = [] }

-- it was taken in by another
abbrev pub spent_sight : Sight
spent_sight = record { sits = false; seen = record { number = 0; made = 0; opening = []; front = []; mine = [] }; out = None; known = [] }

-- the next seat's, where this is the first one's
abbrev pub next_sight : Sight → Sight
next_sight v = record { sits = true; seen = record { number = v.seen.made; made = 0; opening = v.seen.opening; front = v.seen.front; mine = [] }; out = None; known = [] }

-- the first one's behind that
abbrev pub with_one_made : Sight → Sight
with_one_made v = record { sits = v.sits; seen = record { number = v.seen.number; made = v.seen.made + 1; opening = v.seen.opening; front = v.seen.front; mine = v.seen.mine }; out = v.out; known = v.known }

-- another was taken in
abbrev pub with_one_known : Sight → Sight → Sight
with_one_known v w = record { sits = v.sits; seen = v.seen; out = v.out; known = v.known ++ w.seen ∷ [] }
