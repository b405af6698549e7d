-- What a function returned, next to what reading gives: the same, unless memory ran out.
use Rattle.std.specs.Prelude.{◌≡◌, Result, Ok, Err}
use Rattle.outcomes.specs.Outcome as outcomes
use Rattle.outcomes.specs.Outcome.{Said, refuses, says_nothing}
use Rattle.parquet_footer.specs.declared.fault.FileFault.{FileFault}
use Rattle.parquet_footer.specs.declared.fault.FileError.{FileError}
use Rattle.parquet_footer.specs.declared.fault.FileError.TheVariants as errors
use Rattle.parquet_footer.specs.declared.fault.FooterError.{FooterError}
use Rattle.parquet_footer.specs.declared.fault.FooterError.TheVariants as footers

-- what each fault of the code says
abbrev pub says : FileError → Said FileFault
says errors.Memory = says_nothing
says (errors.Fault fault) = refuses fault

-- the value, seen by view, or the fault
abbrev pub FileGives : {X A : Type 0} → (X → A) → Result X FileError → Result A FileFault → Type 0
FileGives view answered read = outcomes.Gives says view answered read

-- This was read, seen by view, or memory ran out.
abbrev pub Finds : {X A : Type 0} → (X → A) → A → Result X FileError → Type 0
Finds view found (Ok x) = view x ≡ found
Finds view found (Err errors.Memory) = Unit {0}
Finds view found (Err (errors.Fault fault)) = ⊥

-- ---- reading a footer: of a want of room for it nothing is said

abbrev pub says_of_footer : FooterError → Said FileFault
says_of_footer footers.NoRoom = says_nothing
says_of_footer (footers.Fault fault) = refuses fault

-- the value, seen by view, or the fault
abbrev pub GivesFooter : {X A : Type 0} → (X → A) → Result X FooterError → Result A FileFault → Type 0
GivesFooter view answered read = outcomes.Gives says_of_footer view answered read

-- This was read, seen by view, or there was no room for it.
abbrev pub FindsFooter : {X A : Type 0} → (X → A) → A → Result X FooterError → Type 0
FindsFooter view found (Ok x) = view x ≡ found
FindsFooter view found (Err footers.NoRoom) = Unit {0}
FindsFooter view found (Err (footers.Fault fault)) = ⊥

-- Where a test that takes no memory finds this fault, it is the answer.
abbrev pub RefusesFooter : {X A : Type 0} → Result X FooterError → Result A FileFault → Type 0
RefusesFooter result (Ok x) = Unit {0}
RefusesFooter result (Err fault) = result ≡ Err (footers.Fault fault)
