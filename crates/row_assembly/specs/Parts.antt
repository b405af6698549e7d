-- Columns of which only the values of some rows that follow one another are kept, and these rows.
use Rattle.std.specs.Prelude.{ℕ, List, [], ◌∷◌, Result, Ok}
use Rattle.outcomes.specs.Results.{◌>>=◌}
use Rattle.row_core.specs.Rows.{Row}
use Rattle.shred.specs.Columns.{Column}
use Rattle.shred.specs.Parts.{Part, cut_off, cut_out, part_of}
use Rattle.row_assembly.specs.Faults.{Fault}

-- of each column, one for each highest level, that of the first rows
abbrev pub fronts : (rows : ℕ) → List ℕ → List Column → List Column
fronts rows (top ∷ tops) (c ∷ cs) = cut_out 0 rows top c ∷ fronts rows tops cs
fronts rows _ _ = []

-- and that of the rows behind them
abbrev pub rests : (rows : ℕ) → List ℕ → List Column → List Column
rests rows (top ∷ tops) (c ∷ cs) = cut_off rows top c ∷ rests rows tops cs
rests rows _ _ = []

-- what is kept of each column, one for each highest level
abbrev pub parts_of : (first most : ℕ) → List ℕ → List Column → List Part
parts_of first most [] cs = []
parts_of first most tops [] = []
parts_of first most (top ∷ tops) (c ∷ cs) = record { levels = c.levels; kept = cut_out first most top c } ∷ parts_of first most tops cs

-- some of the rows, where there are rows
abbrev pub rows_part : (first most : ℕ) → Result (List Row) Fault → Result (List Row) Fault
rows_part first most made = made >>= λ rows. Ok (part_of first most rows)
