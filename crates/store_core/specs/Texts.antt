-- The printed form of a fault: its code and its name.
use Rattle.std.specs.Prelude.{ℕ, List, codes}
use Rattle.store_core.specs.declared.fault.StoreFault.{StoreFault}
use Rattle.store_core.specs.declared.fault.StoreFault.TheVariants.{Lost, Memory}

abbrev pub fault_text : StoreFault → List ℕ
fault_text Lost = codes "St1 Lost"
fault_text Memory = codes "St2 Memory"
