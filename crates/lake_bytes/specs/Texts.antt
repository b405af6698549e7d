-- The printed form of a fault: its code and its name.
use Rattle.std.specs.Prelude.{ℕ, List, codes}
use Rattle.lake_bytes.specs.declared.fault.ByteFault.{ByteFault}
use Rattle.lake_bytes.specs.declared.fault.ByteFault.TheVariants.{Short, VarintTooLong, OutOfRange, BadRun}
use Rattle.lake_bytes.specs.declared.run.HybridError.{HybridError}
use Rattle.lake_bytes.specs.declared.run.HybridError.TheVariants.{Memory, Fault}

abbrev pub fault_text : ByteFault → List ℕ
fault_text Short = codes "B1 Short"
fault_text VarintTooLong = codes "B2 VarintTooLong"
fault_text OutOfRange = codes "B3 OutOfRange"
fault_text BadRun = codes "B4 BadRun"

-- the printed form of an error: that of its fault
abbrev pub error_text : HybridError → List ℕ
error_text Memory = codes "out of memory"
error_text (Fault fault) = fault_text fault
