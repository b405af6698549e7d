-- What a line does to a store that loses no call.
use Rattle.std.specs.Prelude.{◌≡◌, ℕ, Bool, true, false, List}
use Rattle.store_core.specs.Objects.{Objects}
use Rattle.table_log.specs.Restoring.{AreCheckpointsSound, RestoresWell}
use Rattle.lake_script.specs.Growth.{MayPut}
use Rattle.lake_script.specs.Runs.{Executes, IsShort}
use Rattle.lake_script.specs.Sound.{IsExecuted}
use Rattle.script_lines.specs.Lines.{Statement}

-- what stands, and whether logs are read by their checkpoints
pub record StoreState : Type 0 where
  pub objects : Objects
  pub use_checkpoints : Bool

-- Checkpoints that are sound stay so. Where each that reads well is one of the log, or none is used, the line is told and
-- done, or is told of want of memory; what it puts is well made; and its reply is short only where it tells so.
pub record DoesOverStore (s : StoreState) (statement : Statement) (reply : List ℕ) (short : Bool) (later : StoreState) : Type 0 where
  pub uses : later.use_checkpoints ≡ s.use_checkpoints
  pub restores : (every : Bool) → AreCheckpointsSound every s.objects → AreCheckpointsSound every later.objects
  pub told : RestoresWell s.use_checkpoints s.objects → Executes s.objects statement reply later.objects
  pub grows : RestoresWell s.use_checkpoints s.objects → MayPut s.objects statement later.objects
  pub whole : RestoresWell s.use_checkpoints s.objects → short ≡ false → IsExecuted s.objects statement reply later.objects
  pub falls : RestoresWell s.use_checkpoints s.objects → short ≡ true → IsShort s.objects statement reply
