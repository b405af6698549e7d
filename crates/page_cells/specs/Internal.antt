-- What private contracts speak of.
use Rattle.std.specs.Prelude.{◌≡◌, ℕ, ℤ, List, length, Bool, true, false, ◌&&◌, nat_le, Option, Some, None, Result, Ok, Err}
use Rattle.std.specs.Int.Signed.{le_z}
use Rattle.std.specs.List.{list_all}
use Rattle.row_core.specs.Rows.{Value, whole}
use Rattle.row_core.specs.declared.value.Value as code
use Rattle.row_core.specs.Views.{value_view}
use Rattle.lake_bytes.specs.declared.fault.ByteFault.{ByteFault}
use Rattle.page_cells.specs.Levels.{AreTold}
use Rattle.page_cells.specs.Texts.{is_proper}
use Rattle.page_cells.specs.declared.levels.LevelsTold.{LevelsTold}
use Rattle.parquet_footer.specs.declared.fault.FileError.{FileError}
use Rattle.parquet_footer.specs.declared.fault.FileError.TheVariants as errors

-- whether no level is above the highest
abbrev pub are_below : (nullable : List Bool) → List ℕ → Bool
are_below nullable levels = list_all (λ level. nat_le level (length nullable)) levels

-- These levels are told; nothing is where one is above the highest.
abbrev pub IsToldOf : (nullable : List Bool) → List ℕ → Option LevelsTold → Type 0
IsToldOf nullable levels (Some told) = (are_below nullable levels ≡ true) × AreTold nullable levels told
IsToldOf nullable levels None = are_below nullable levels ≡ false

-- a whole number that is neither below the one bound nor above the other
abbrev pub is_between : ℤ → ℤ → Value → Bool
is_between least most (whole z) = le_z least z && le_z z most
is_between least most v = false

-- The value that reading gives was taken, and the bytes behind it are left. There is no fault where it is there and, if it
-- is a text, in UTF-8.
abbrev pub TakesValue : Result (Value × List ℕ) ByteFault → Result code.Value FileError → List ℕ → Type 0
TakesValue read (Ok v) new = (read ≡ Ok (value_view v, new)) × (is_proper (value_view v) ≡ true)
TakesValue read (Err errors.Memory) new = Unit {0}
TakesValue read (Err (errors.Fault fault)) new = (v : Value) (rest : List ℕ) → read ≡ Ok (v, rest) → is_proper v ≡ true → ⊥
