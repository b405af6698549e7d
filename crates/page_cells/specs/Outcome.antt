-- What a function answered, next to what reading gives: the same, unless memory ran out.
use Rattle.std.specs.Prelude.{◌≡◌, ℕ, List, ◌++◌, Bool, true, Result, Ok, Err}
use Rattle.std.specs.List.{list_all, list_any}
use Rattle.row_core.specs.Rows.{Value}
use Rattle.page_cells.specs.Texts.{is_proper, is_too_long}
use Rattle.lake_bytes.specs.declared.fault.ByteFault.{ByteFault}
use Rattle.thrift_values.specs.declared.fault.ThriftFault.TheVariants.{Bytes}
use Rattle.parquet_footer.specs.declared.fault.FileFault.{FileFault}
use Rattle.parquet_footer.specs.declared.fault.FileError.{FileError}
use Rattle.parquet_footer.specs.declared.fault.FileError.TheVariants as errors
use Rattle.parquet_footer.specs.declared.fault.FileFault.TheVariants.{BadPage}

-- a fault in bytes, told as a page's
abbrev pub in_page : ByteFault → FileFault
in_page fault = BadPage (Bytes fault)

-- Values that reading gives were passed, and the bytes behind them are left; whether one is too long. Or the fault.
abbrev pub PassesValues : Result (List Value × List ℕ) ByteFault → Result Bool ByteFault → List ℕ → Type 0
PassesValues read (Ok too_long) new = (values : List Value) × (read ≡ Ok (values, new)) × (too_long ≡ list_any is_too_long values)
PassesValues read (Err fault) new = read ≡ Err fault

-- The values that reading gives were added. There is no fault where they are there and their texts are UTF-8.
abbrev pub AddsValues : Result (List Value × List ℕ) ByteFault → List Value → Result (Unit {0}) FileError → List Value → Type 0
AddsValues read old (Ok x) new = (values : List Value) × (rest : List ℕ) × (read ≡ Ok (values, rest)) × (new ≡ old ++ values)
AddsValues read old (Err errors.Memory) new = Unit {0}
AddsValues read old (Err (errors.Fault fault)) new = (values : List Value) (rest : List ℕ) → read ≡ Ok (values, rest) → list_all is_proper values ≡ true → ⊥

-- a value that a cursor gave, seen by view, and the bytes that are left are what reading gives; or the fault
abbrev pub Takes : {X A : Type 0} → (X → A) → Result (A × List ℕ) ByteFault → Result X ByteFault → List ℕ → Type 0
Takes view read (Ok x) new = read ≡ Ok (view x, new)
Takes view read (Err fault) new = read ≡ Err fault

-- This is so of what was found, unless memory ran out.
abbrev pub FindsWhere : {X : Type 0} → (X → Type 0) → Result X FileError → Type 0
FindsWhere Is (Ok x) = Is x
FindsWhere Is (Err errors.Memory) = Unit {0}
FindsWhere Is (Err (errors.Fault fault)) = ⊥
