-- A hybrid whose bytes were tested: its values are taken one run at a time, and none is kept.
use Rattle.std.specs.Prelude.{◌≡◌, ℕ, ◌<◌, List, [], ◌++◌, length, min, take, replicate, Result, Ok, Err}
use Rattle.lake_bytes.specs.Hybrid.{hybrid_at, run_at, unpacked}
use Rattle.lake_bytes.specs.Internal.{IsHeld, number_left}
use Rattle.lake_bytes.specs.declared.fault.ByteFault.{ByteFault}
use Rattle.lake_bytes.specs.declared.hybrid_reader.RunLeft.{RunLeft}
use Rattle.lake_bytes.specs.declared.hybrid_reader.RunValues.{RunValues}
use Rattle.lake_bytes.specs.declared.hybrid_reader.RunValues.TheVariants.{Equal, Packed}

-- the values of reading; none where it is refused
abbrev pub values_or_none : Result (List ℕ × List ℕ) ByteFault → List ℕ
values_or_none (Ok x) = x.0
values_or_none (Err fault) = []

-- Values stand in front, and the cursor stands behind them; or the fault.
abbrev pub Passes : Result (List ℕ × List ℕ) ByteFault → Result (Unit {0}) ByteFault → List ℕ → Type 0
Passes read (Ok x) new = (values : List ℕ) × (read ≡ Ok (values, new))
Passes read (Err fault) new = read ≡ Err fault

-- what is left of a run, whose values have so many bits
abbrev pub values_left : (width count : ℕ) → RunValues → List ℕ
values_left width count (Equal value) = replicate count value
values_left width count (Packed bits) = unpacked width count (number_left bits)

abbrev pub run_values : (width : ℕ) → RunLeft → List ℕ
run_values width run = values_left width run.count run.values

abbrev pub AreHeld : RunValues → Type 0
AreHeld (Equal value) = Unit {0}
AreHeld (Packed bits) = IsHeld bits

abbrev pub IsRunHeld : RunLeft → Type 0
IsRunHeld run = AreHeld run.values

-- The run in front was begun: so many of its values are wanted.
pub record Begins (width wanted : ℕ) (old : List ℕ) (run : RunLeft) (new : List ℕ) : Type 0 where
  pub values : List ℕ
  pub read : run_at width old ≡ Ok (values, new)
  pub wanted_of : run_values width run ≡ take wanted values
  pub counted : run.count ≡ min wanted (length values)
  pub some : 0 < run.count
  pub held : IsRunHeld run

-- the values that are left: those of the run at hand, and so many behind it
abbrev pub left_of : (width : ℕ) → RunLeft → (wanted : ℕ) → List ℕ → List ℕ
left_of width run wanted rest = run_values width run ++ values_or_none (hybrid_at width wanted rest)
