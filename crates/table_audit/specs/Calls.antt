-- Which calls were made of a reader, with what they told: its trace. It says what was done, also of a reader of which
-- nothing else is known, over a folder that others write to.
use Rattle.std.specs.Prelude.{◌≡◌, ℕ, List, [], ◌∷◌, Option, None, Some, Result, Ok, Err}
use Rattle.store_core.specs.declared.fault.StoreFault.{StoreFault}

-- A call of a reader, with what it told; it told nothing where it was lost, or memory ran out.
pub data ReaderCall : Type 0 where
  -- all names were listed
  lists : (told : Option (List (List ℕ))) → ReaderCall
  -- what stands under a name was read
  reads : (name : List ℕ) (told : Option (Option (List ℕ))) → ReaderCall

-- what a call told, if it wasn't lost
abbrev pub told_by_reader : {X Y : Type 0} → (X → Y) → Result X StoreFault → Option Y
told_by_reader view (Ok x) = Some (view x)
told_by_reader view (Err fault) = None

-- Just these calls were made, one behind the other: `makes` says what one call may make of a reader.
abbrev pub ReaderTraced : {R : Type 0} → (makes : R → ReaderCall → R → Type 0) → R → List ReaderCall → R → Type 0
ReaderTraced {R} makes old [] new = new ≡ old
ReaderTraced {R} makes old (call ∷ calls) new = (mid : R) × makes old call mid × ReaderTraced makes mid calls new
