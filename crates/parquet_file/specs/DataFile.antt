-- What reading a data file answers, next to what reading gives: the same, unless memory runs out, or the room that the
-- footer has: then it is the refusal of the memory that the footer is read in.
use Rattle.std.specs.Prelude.{◌≡◌, ◌⊎◌, Result, Ok, Err}
use Rattle.outcomes.specs.Outcome.{IsSaid}
use Rattle.parquet_footer.specs.Outcome.{says}
use Rattle.parquet_footer.specs.declared.fault.FileError.{FileError}
use Rattle.parquet_footer.specs.declared.fault.FileError.TheVariants as files
use Rattle.parquet_footer.specs.declared.fault.FileFault.{FileFault}
use Rattle.parquet_file.specs.declared.error.RowsError.{RowsError}
use Rattle.parquet_file.specs.declared.error.RowsError.TheVariants as errors

-- an error of a file whose footer is read in a heap of this refusal
abbrev pub in_heap : (refusal : FileError) → RowsError → FileError
in_heap refusal errors.Memory = files.Memory
in_heap refusal errors.NoRoom = refusal
in_heap refusal (errors.Fault fault) = files.Fault fault

-- the value, seen by view, or the fault; or the refusal of the footer's heap
abbrev pub GivesFile : {X A : Type 0} → (refusal : FileError) → (X → A) → Result X FileError → Result A FileFault → Type 0
GivesFile refusal view (Ok x) read = read ≡ Ok (view x)
GivesFile refusal view (Err error) read = IsSaid (says error) read ⊎ (error ≡ refusal)

-- This was read, seen by view; or there was no memory for it, or no room for the footer.
abbrev pub FindsFile : {X A : Type 0} → (refusal : FileError) → (X → A) → A → Result X FileError → Type 0
FindsFile refusal view found (Ok x) = view x ≡ found
FindsFile refusal view found (Err error) = (error ≡ files.Memory) ⊎ (error ≡ refusal)
