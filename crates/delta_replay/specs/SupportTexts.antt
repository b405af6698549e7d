-- The printed form of a fault: its code, its name and its field.
use Rattle.std.specs.Prelude.{ℕ, List, ◌++◌, codes, string_bytes}
use Rattle.std.specs.Fmt.{decimal}
use Rattle.schema_tree.specs.FaultTexts as schemas
use Rattle.delta_replay.specs.declared.support.SupportError.{SupportError}
use Rattle.delta_replay.specs.declared.support.SupportError.TheVariants as errors
use Rattle.delta_replay.specs.declared.support.SupportFault.{SupportFault}
use Rattle.delta_replay.specs.declared.support.SupportFault.TheVariants.{NoProtocol, NoMetadata, Feature, Partitioned, ReaderVersion, BadSchema}

abbrev pub fault_text : SupportFault → List ℕ
fault_text NoProtocol = codes "C1 NoProtocol"
fault_text NoMetadata = codes "C2 NoMetadata"
fault_text (Feature name) = codes "C3 Feature " ++ string_bytes name
fault_text Partitioned = codes "C4 Partitioned"
fault_text (ReaderVersion n) = codes "C5 ReaderVersion " ++ decimal n
fault_text (BadSchema fault) = codes "C6 BadSchema " ++ schemas.fault_text fault

-- the printed form of an error: that of its fault
abbrev pub error_text : SupportError → List ℕ
error_text errors.Memory = codes "out of memory"
error_text (errors.Fault fault) = fault_text fault
