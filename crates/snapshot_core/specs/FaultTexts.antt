-- The printed form of a fault: its code, its name and what it names.
use Rattle.std.specs.Prelude.{ℕ, List, ◌++◌, codes}
use Rattle.std.specs.Fmt.{decimal}
use Rattle.delta_replay.specs.SupportTexts as supports
use Rattle.snapshot_core.specs.declared.fault.SnapshotFault.{SnapshotFault}
use Rattle.snapshot_core.specs.declared.fault.SnapshotFault.TheVariants.{BadLog, Lost, Memory, TooLarge, Unsupported}

abbrev pub fault_text : SnapshotFault → List ℕ
fault_text Lost = codes "K5 Lost"
fault_text Memory = codes "K6 Memory"
fault_text (BadLog version) = codes "K7 BadLog " ++ decimal version
fault_text (Unsupported fault) = codes "K8 Unsupported " ++ supports.fault_text fault
fault_text TooLarge = codes "K9 TooLarge"
