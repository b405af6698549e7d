-- The printed form of a fault: its code, its name and its field.
use Rattle.std.specs.Prelude.{ℕ, List, ◌++◌, codes}
use Rattle.std.specs.Fmt.{signed_decimal}
use Rattle.lake_bytes.specs.Texts as numbers
use Rattle.thrift_values.specs.declared.fault.ThriftFault.{ThriftFault}
use Rattle.thrift_values.specs.declared.fault.ThriftFault.TheVariants.{Bytes, BadType, TooDeep, TooMany, MissingField}
use Rattle.thrift_values.specs.declared.fault.ReadError.{ReadError}
use Rattle.thrift_values.specs.declared.fault.ReadError.TheVariants.{Memory, Fault}

abbrev pub fault_text : ThriftFault → List ℕ
fault_text (Bytes fault) = numbers.fault_text fault
fault_text BadType = codes "TH1 BadType"
fault_text TooDeep = codes "TH2 TooDeep"
fault_text TooMany = codes "TH3 TooMany"
fault_text (MissingField id) = codes "TH4 MissingField " ++ signed_decimal id

-- the printed form of an error: that of its fault
abbrev pub error_text : ReadError → List ℕ
error_text Memory = codes "out of memory"
error_text (Fault fault) = fault_text fault
