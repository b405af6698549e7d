-- The printed form of what is wrong with a checkpoint: its code, its name and its field.
use Rattle.std.specs.Prelude.{ℕ, List, ◌++◌, codes}
use Rattle.std.specs.Fmt.{decimal}
use Rattle.delta_actions.specs.FaultTexts as actions
use Rattle.delta_checkpoint.specs.declared.fault.CheckpointError.{CheckpointError}
use Rattle.delta_checkpoint.specs.declared.fault.CheckpointError.TheVariants as errors
use Rattle.delta_checkpoint.specs.declared.fault.CheckpointFault.{CheckpointFault}
use Rattle.delta_checkpoint.specs.declared.fault.CheckpointFault.TheVariants.{NoCheckpointMetadata, VersionMismatch, HasSidecar, BadLine}

abbrev pub fault_text : CheckpointFault → List ℕ
fault_text NoCheckpointMetadata = codes "K1 NoCheckpointMetadata"
fault_text (VersionMismatch found) = codes "K2 VersionMismatch " ++ decimal found
fault_text HasSidecar = codes "K3 HasSidecar"
fault_text (BadLine fault) = codes "K4 BadLine " ++ actions.fault_text fault

-- the printed form of an error: that of its fault
abbrev pub error_text : CheckpointError → List ℕ
error_text errors.Memory = codes "out of memory"
error_text (errors.Fault fault) = fault_text fault
