-- The definition levels of a page (Apache Parquet, "Nested Encoding" and "Data Pages").
use Rattle.std.specs.Prelude.{◌≡◌, ℕ, zero, suc, ◌<◌, ◌≤◌, ◌^◌, ◌==◌, List, [], ◌∷◌, ◌++◌, length, replicate, count_by, All, Bool, true, nat_lt, nat_le, Result, Ok, Err, if◌then◌else◌}
use Rattle.std.specs.Int.{w32, to_le_bytes}
use Rattle.std.specs.List.{list_all}
use Rattle.lake_bytes.specs.LittleEndian.{little_at}
use Rattle.lake_bytes.specs.Reading.{bytes_at}
use Rattle.outcomes.specs.Results.{◌>>=◌}
use Rattle.lake_bytes.specs.declared.fault.ByteFault.{ByteFault}
use Rattle.lake_bytes.specs.declared.fault.ByteFault.TheVariants.{OutOfRange}
use Rattle.lake_bytes.specs.Hybrid.{HoldsValues, hybrid_at}
use Rattle.page_cells.specs.declared.levels.LevelsTold.{LevelsTold}

-- The bits of a level: as few as the highest level needs, which is 16 at most, since types nest 16 deep at most.
abbrev pub width_of : (highest : ℕ) → ℕ
width_of highest =
    if highest == 0 then 0 else
    (if nat_lt highest 2 then 1 else
    (if nat_lt highest 4 then 2 else
    (if nat_lt highest 8 then 3 else
    (if nat_lt highest 16 then 4 else 5))))

-- how many levels are the highest, where nothing is null
abbrev pub present : (top : ℕ) → List ℕ → ℕ
present top levels = count_by (λ level. level == top) levels

-- the flag of the node at which a null stands; nothing stands at the highest level
abbrev pub may_stand : List Bool → (level : ℕ) → Bool
may_stand [] level = true
may_stand (flag ∷ flags) zero = flag
may_stand (flag ∷ flags) (suc level) = may_stand flags level

-- The bytes hold these levels: behind their length in four bytes a hybrid that begins with them. No level is above the
-- highest.
pub record HoldsLevels (highest : ℕ) (spelled levels : List ℕ) : Type 0 where
  pub hybrid : List ℕ
  pub size_fits : length hybrid < 2 ^ 32
  pub parts : spelled ≡ to_le_bytes w32 (length hybrid) ++ hybrid
  pub held : HoldsValues (width_of highest) (length levels) hybrid levels
  pub none_above : All (λ level. level ≤ highest) levels

-- The levels are all 0, and no byte tells them.
pub record AreUntold (spelled levels : List ℕ) : Type 0 where
  pub nothing : spelled ≡ []
  pub zeros : levels ≡ replicate (length levels) 0

-- where nothing on the way may be null there are no levels
abbrev pub AreLevels : (highest : ℕ) → (spelled levels : List ℕ) → Type 0
AreLevels zero spelled levels = AreUntold spelled levels
AreLevels (suc top) spelled levels = HoldsLevels (suc top) spelled levels

-- ---- reading from the left

-- the levels, none of which may be above the highest
unfoldable pub none_above : (highest : ℕ) → List ℕ → Result (List ℕ) ByteFault
none_above highest levels = if list_all (λ level. nat_le level highest) levels then Ok levels else Err OutOfRange

unfoldable pub told_levels_at : (highest count : ℕ) → List ℕ → Result (List ℕ × List ℕ) ByteFault
told_levels_at highest count given = do
  size ← little_at w32 given
  hybrid ← bytes_at size.0 size.1
  levels ← hybrid_at (width_of highest) count hybrid.0
  fine ← none_above highest levels.0
  Ok (fine, hybrid.1)

-- so many levels, and the bytes behind them
unfoldable pub levels_at : (highest count : ℕ) → List ℕ → Result (List ℕ × List ℕ) ByteFault
levels_at highest count given = if highest == 0 then Ok (replicate count 0, given) else told_levels_at highest count given

-- ---- what is told of levels

-- how many are the highest, and whether nulls stand only where they may
pub record AreTold (nullable : List Bool) (levels : List ℕ) (told : LevelsTold) : Type 0 where
  pub present : length levels < 2 ^ 64 → told.present ≡ present (length nullable) levels
  pub nulls : told.nulls_may_stand ≡ list_all (may_stand nullable) levels

-- The levels that reading gives are read again, and told, and the bytes behind them are left; or the fault.
abbrev pub TellsLevels : List Bool → Result (List ℕ × List ℕ) ByteFault → Result (List ℕ × LevelsTold) ByteFault → List ℕ → Type 0
TellsLevels nullable read (Ok x) new = (read ≡ Ok (x.0, new)) × AreTold nullable x.0 x.1
TellsLevels nullable read (Err fault) new = read ≡ Err fault
