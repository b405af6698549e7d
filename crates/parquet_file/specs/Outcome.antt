-- What a function answered, next to what reading gives: the same, unless memory ran out.
use Rattle.std.specs.Prelude.{◌≡◌, ℕ, List, ◌++◌, Result, Ok, Err}
use Rattle.outcomes.specs.Outcome as outcomes
use Rattle.outcomes.specs.Outcome.{IsSaid, Said, refuses, says_nothing}
use Rattle.row_core.specs.Rows.{Row}
use Rattle.shred.specs.Parts.{part_of}
use Rattle.parquet_footer.specs.Outcome.{says}
use Rattle.parquet_footer.specs.declared.fault.FileFault.{FileFault}
use Rattle.parquet_footer.specs.declared.fault.FileError.{FileError}
use Rattle.parquet_footer.specs.declared.fault.FileError.TheVariants as files
use Rattle.parquet_footer.specs.declared.fault.FooterError.{FooterError}
use Rattle.parquet_footer.specs.declared.fault.FooterError.TheVariants as footers
use Rattle.parquet_file.specs.declared.error.RowsError.{RowsError}
use Rattle.parquet_file.specs.declared.error.RowsError.TheVariants as errors

-- At most so many of the rows that reading gives, from a place on, were added to the rows; or the fault.
abbrev pub AddsPart : (first most : ℕ) → Result (List Row) FileFault → List Row → Result (Unit {0}) FileError → List Row → Type 0
AddsPart first most read old (Ok x) new = (rows : List Row) × (read ≡ Ok rows) × (new ≡ old ++ part_of first most rows)
AddsPart first most read old (Err e) new = IsSaid (says e) read

-- The reading was done, and nothing of it was kept; or the fault.
abbrev pub Tests : {A : Type 0} → Result A FileFault → Result (Unit {0}) FileError → Type 0
Tests {A = A} read (Ok x) = (value : A) × (read ≡ Ok value)
Tests read (Err e) = IsSaid (says e) read

-- These bytes were written behind the others, and this is said of them; or the fault.
abbrev pub Puts : {X A : Type 0} → (X → A) → Result (List ℕ × A) FileFault → List ℕ → Result X FileError → List ℕ → Type 0
Puts view written old (Ok x) new = (bytes : List ℕ) × (written ≡ Ok (bytes, view x)) × (new ≡ old ++ bytes)
Puts view written old (Err e) new = IsSaid (says e) written

-- ---- reading rows: of a want of memory, the caller's or that of the footer, nothing is said

abbrev pub says_of_rows : RowsError → Said FileFault
says_of_rows errors.Memory = says_nothing
says_of_rows errors.NoRoom = says_nothing
says_of_rows (errors.Fault fault) = refuses fault

-- an error of the footer's reading: its want of memory is that of the footer's
abbrev pub of_footer : FooterError → RowsError
of_footer footers.NoRoom = errors.NoRoom
of_footer (footers.Fault fault) = errors.Fault fault

-- an error of what the footer says: its want of memory is the caller's
abbrev pub of_rows : FileError → RowsError
of_rows files.Memory = errors.Memory
of_rows (files.Fault fault) = errors.Fault fault

-- the rows, seen by view, or the fault
abbrev pub GivesRows : {X A : Type 0} → (X → A) → Result X RowsError → Result A FileFault → Type 0
GivesRows view answered read = outcomes.Gives says_of_rows view answered read

-- These were read, seen by view, or there was no memory for them or for the footer.
abbrev pub FindsRows : {X A : Type 0} → (X → A) → A → Result X RowsError → Type 0
FindsRows view found (Ok x) = view x ≡ found
FindsRows view found (Err errors.Memory) = Unit {0}
FindsRows view found (Err errors.NoRoom) = Unit {0}
FindsRows view found (Err (errors.Fault fault)) = ⊥

-- Where a test that takes no memory finds this fault, it is the answer.
abbrev pub RefusesRows : {X A : Type 0} → Result X RowsError → Result A FileFault → Type 0
RefusesRows result (Ok x) = Unit {0}
RefusesRows result (Err fault) = result ≡ Err (errors.Fault fault)
