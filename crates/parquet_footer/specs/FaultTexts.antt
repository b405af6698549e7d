-- The printed form of a fault: its code, its name and its fields, one space between; an inner fault as its own.
use Rattle.std.specs.Prelude.{ℕ, List, ◌++◌, codes}
use Rattle.std.specs.Fmt.{signed_decimal}
use Rattle.thrift_core.specs.FaultTexts as trees
use Rattle.parquet_footer.specs.declared.fault.FileFault.{FileFault}
use Rattle.parquet_footer.specs.declared.fault.FileFault.TheVariants.{BadMagic, BadFooter, Codec, Encoding, PageKind, BadOffset, CountMismatch, SchemaMismatch, TooLarge, NotUtf8, BadPage}
use Rattle.parquet_footer.specs.declared.fault.FileError.{FileError}
use Rattle.parquet_footer.specs.declared.fault.FileError.TheVariants.{Memory, Fault}
use Rattle.parquet_footer.specs.declared.fault.FooterError.{FooterError}
use Rattle.parquet_footer.specs.declared.fault.FooterError.TheVariants as footer

abbrev pub fault_text : FileFault → List ℕ
fault_text BadMagic = codes "P1 BadMagic"
fault_text (BadFooter fault) = codes "P2 BadFooter " ++ trees.fault_text fault
fault_text (Codec n) = codes "P3 Codec " ++ signed_decimal n
fault_text (Encoding n) = codes "P4 Encoding " ++ signed_decimal n
fault_text (PageKind n) = codes "P5 PageKind " ++ signed_decimal n
fault_text BadOffset = codes "P6 BadOffset"
fault_text CountMismatch = codes "P7 CountMismatch"
fault_text SchemaMismatch = codes "P8 SchemaMismatch"
fault_text TooLarge = codes "P9 TooLarge"
fault_text NotUtf8 = codes "P10 NotUtf8"
fault_text (BadPage fault) = codes "P11 BadPage " ++ trees.fault_text fault

-- the printed form of an error: that of its fault
abbrev pub error_text : FileError → List ℕ
error_text Memory = codes "out of memory"
error_text (Fault fault) = fault_text fault

-- the same of an error of a footer's reading
abbrev pub footer_error_text : FooterError → List ℕ
footer_error_text footer.NoRoom = codes "P9 TooLarge"
footer_error_text (footer.Fault fault) = fault_text fault
