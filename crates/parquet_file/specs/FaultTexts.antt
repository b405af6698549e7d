-- The printed form of why rows could not be read: that of the fault; a footer without room is too large.
use Rattle.std.specs.Prelude.{ℕ, List, codes}
use Rattle.parquet_footer.specs.FaultTexts.{fault_text}
use Rattle.parquet_footer.specs.declared.fault.FileFault.TheVariants.{TooLarge}
use Rattle.parquet_file.specs.declared.error.RowsError.{RowsError}
use Rattle.parquet_file.specs.declared.error.RowsError.TheVariants.{Memory, NoRoom, Fault}

abbrev pub error_text : RowsError → List ℕ
error_text Memory = codes "out of memory"
error_text NoRoom = fault_text TooLarge
error_text (Fault fault) = fault_text fault
