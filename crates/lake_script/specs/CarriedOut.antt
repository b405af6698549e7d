-- What a line was told over one store, and what it did there. What stands and which puts are in flight, and how often the store has lost
-- a call, is meant before the line (`old`, `count`) and behind it (`new`, `later`).
use Rattle.std.specs.Prelude.{◌≡◌, ℕ, Bool, true, false, List}
use Rattle.store_core.specs.Calls.{HasRisen}
use Rattle.session_core.specs.Stores.{State}
use Rattle.table_log.specs.Restoring.{RestoresWell}
use Rattle.table_log.specs.declared.loading.Loaded.{Loaded}
use Rattle.script_lines.specs.Lines.{Statement}
use Rattle.lake_script.specs.AnyStore.{IsToldLost, TellsOver}
use Rattle.lake_script.specs.Growth.{MayPut}
use Rattle.lake_script.specs.Runs.{Executes, IsShort}
use Rattle.lake_script.specs.Sound.{IsExecuted}
use Rattle.lake_script.specs.Tries.{IsLook}

-- The line was carried out: this is its reply, which is short, or says that a call was lost, as these say.
pub record IsCarriedOut (is_reliable : Type 0) (use_checkpoints : Bool) (tries : ℕ) (known : Loaded) (statement : Statement) (reply : List ℕ) (is_short is_lost : Bool) (old new : State) (count later : ℕ) : Type 0 where
  -- over a store that loses no call: what was asked for is told and done, and what was put is well made
  pub whole : is_reliable → RestoresWell use_checkpoints old.0 → is_short ≡ false → IsExecuted old.0 statement reply new.0
  -- the line has its reply and effect, or is told of want of memory and leaves the objects as they were, but for a batch's file
  pub told : is_reliable → RestoresWell use_checkpoints old.0 → Executes old.0 statement reply new.0
  -- however it ends, what it puts is well made
  pub grows : is_reliable → RestoresWell use_checkpoints old.0 → MayPut old.0 statement new.0
  -- a line that only looks leaves the objects as they are, whatever checkpoints stand
  pub looks : IsLook statement → new.0 ≡ old.0
  -- a reply is short only where it tells so
  pub short : RestoresWell use_checkpoints old.0 → is_short ≡ true → IsShort old.0 statement reply
  -- over any store, one that loses calls too: the reply says that a call was lost where one was, and nowhere else
  pub lost : is_lost ≡ true → HasRisen count later
  pub counted : is_lost ≡ false → later ≡ count
  pub told_lost : is_lost ≡ true → IsToldLost statement reply
  -- which refusal, with which version, and what became of the store
  pub any : TellsOver is_reliable use_checkpoints tries known statement reply old new count later
