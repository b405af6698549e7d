-- A column of which only the values of some rows that follow one another are kept.
use Rattle.std.specs.Prelude.{◌≡◌, ℕ, List, take, drop, count_by, ◌==◌, All, true}
use Rattle.shred.specs.Columns.{Column}
use Rattle.shred.specs.Fits.{is_plain}

-- how many levels are the highest
abbrev pub highest_in : (top : ℕ) → List ℕ → ℕ
highest_in top levels = count_by (λ level. level == top) levels

-- at most so many of a list, from a place on
abbrev pub part_of : {A : Type 0} → (first most : ℕ) → List A → List A
part_of first most xs = take most (drop first xs)

-- the column of at most so many rows, from a place on
abbrev pub cut_out : (first most top : ℕ) → Column → Column
cut_out first most top c = record { levels = part_of first most c.levels; values = part_of (highest_in top (take first c.levels)) (highest_in top (part_of first most c.levels)) c.values }

-- the column of the rows behind so many
abbrev pub cut_off : (rows top : ℕ) → Column → Column
cut_off rows top c = record { levels = drop rows c.levels; values = drop (highest_in top (take rows c.levels)) c.values }

-- the levels of all rows, and the column of some of them
pub record Part : Type 0 where
  pub levels : List ℕ
  pub kept : Column

-- no value is null or a struct
abbrev pub ArePlain : Column → Type 0
ArePlain c = All (λ v. is_plain v ≡ true) c.values
