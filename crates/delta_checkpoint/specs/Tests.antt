-- What is wrong with the lines of a checkpoint that is read.
use Rattle.std.specs.Prelude.{◌==◌, ℕ, List, [], ◌∷◌, Bool, Result, Ok, Err, is_some, not, option_map, if◌then◌else◌}
use Rattle.std.specs.List.{filter_map, list_any}
use Rattle.outcomes.specs.Outcome.{IsSaid, Said, refuses, says_nothing, never_comes}
use Rattle.outcomes.specs.Results.{◌>>=◌, refused_if}
use Rattle.delta_actions.specs.Commit.{IsCommit, IsFirstFault, TellsFault}
use Rattle.delta_actions.specs.Action.{Action}
use Rattle.delta_actions.specs.In.{checkpoint_metadata_in, sidecar_in}
use Rattle.delta_actions.specs.Wrong as lines
use Rattle.delta_actions.specs.declared.fault.ActionFault.{ActionFault}
use Rattle.delta_checkpoint.specs.Checkpoints.{is_metadata}
use Rattle.delta_checkpoint.specs.declared.fault.CheckpointError.{CheckpointError}
use Rattle.delta_checkpoint.specs.declared.fault.CheckpointError.TheVariants as errors
use Rattle.delta_checkpoint.specs.declared.fault.CheckpointFault.{CheckpointFault}
use Rattle.delta_checkpoint.specs.declared.fault.CheckpointFault.TheVariants as faults

-- Why actions aren't those of a version's checkpoint.
pub data WrongCheckpoint : Type 0 where
  no_metadata : WrongCheckpoint
  mismatch : (found : ℕ) → WrongCheckpoint
  has_sidecar : WrongCheckpoint

-- the versions that the actions tell of the checkpoint
abbrev pub versions_in : List Action → List ℕ
versions_in actions = filter_map (λ action. option_map (λ m. m.version) (checkpoint_metadata_in action)) actions

-- no other version is told
abbrev pub unless_other : ℕ → List ℕ → Result (Unit {0}) WrongCheckpoint
unless_other version [] = Ok tt
unless_other version (found ∷ more) = if found == version then unless_other version more else Err (mismatch found)

-- an action refers to a sidecar
abbrev pub is_sidecar : Action → Bool
is_sidecar action = is_some (sidecar_in action)

-- What is wrong with actions as those of a version's checkpoint: no line tells the version, one tells another, of which
-- the first counts, or one refers to a sidecar; tested in this order.
abbrev pub tested : ℕ → List Action → Result (Unit {0}) WrongCheckpoint
tested version actions = do
  told ← refused_if (not (list_any is_metadata actions)) no_metadata
  same ← unless_other version (versions_in actions)
  refused_if (list_any is_sidecar actions) has_sidecar

-- what a fault says of actions that the lines stand for: a line that can't be read doesn't come then
abbrev pub fault_says : CheckpointFault → Said WrongCheckpoint
fault_says faults.NoCheckpointMetadata = refuses no_metadata
fault_says (faults.VersionMismatch found) = refuses (mismatch found)
fault_says faults.HasSidecar = refuses has_sidecar
fault_says (faults.BadLine fault) = never_comes

abbrev pub says : CheckpointError → Said WrongCheckpoint
says errors.Memory = says_nothing
says (errors.Fault fault) = fault_says fault

-- the fault is that of the first line that can't be read
abbrev pub IsFirstBad : List ℕ → ActionFault → Type 0
IsFirstBad bytes fault = (line : ℕ) × (wrong : lines.Wrong) × IsFirstFault bytes line wrong × TellsFault fault line wrong

-- an error is that of a line, or memory ran out
abbrev pub IsBadLine : List ℕ → CheckpointError → Type 0
IsBadLine bytes errors.Memory = Unit {0}
IsBadLine bytes (errors.Fault (faults.BadLine fault)) = IsFirstBad bytes fault
IsBadLine bytes (errors.Fault fault) = ⊥

-- What an error says of the bytes stands in them: the first line that can't be read; or what is wrong with the actions
-- that the lines stand for.
abbrev pub IsRefusalOf : List ℕ → (version : ℕ) → CheckpointError → Type 0
IsRefusalOf bytes version errors.Memory = Unit {0}
IsRefusalOf bytes version (errors.Fault (faults.BadLine fault)) = IsFirstBad bytes fault
IsRefusalOf bytes version (errors.Fault fault) = (actions : List Action) × IsCommit bytes actions × IsSaid (fault_says fault) (tested version actions)
