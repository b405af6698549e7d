-- What a command does, by its words.
use Rattle.std.specs.Prelude.{◌≡◌, ◌≢◌, ℕ, Bool, List, [], Option}
use Rattle.clap.specs.Words.{fault_of}
use Rattle.table_folder.specs.Traces.{FolderCall}
use Rattle.lake_script.specs.Streams.{read_failed, unread}
use Rattle.lake_script.specs.declared.inputs.Input.{Input}
use Rattle.lake_script.specs.declared.outputs.Output.{Output}
use Rattle.lake_words.specs.Asked.{Spells, Work, check, explain, table}
use Rattle.lake_words.specs.Spelling.{SpellsJob}
use Rattle.lake_words.specs.Words.{commands}
use Rattle.lake_words.specs.declared.command.Command.{Command}
use Rattle.lake_hints.specs.declared.error_output.ErrorOutput.{ErrorOutput}
use Rattle.lake_command.specs.Checks.{ChecksDisk}
use Rattle.lake_command.specs.Endings.{AreCallsAt, AreMisread, EndsDiskJob}
use Rattle.lake_command.specs.Explaining.{Explains}
use Rattle.lake_command.specs.Scripts.{EndsScript, script_uses_checkpoints}
use Rattle.lake_command.specs.declared.exit.Exit.{Exit}

-- A command over the disk, whose folders have a path, count their faults and make calls so: what it leaves the input and both
-- outputs as, and how it ends.
pub record DoesCommand {F R W E : Type 0} (path_of : F → List ℕ) (count_of : F → ℕ) (makes : F → FolderCall → F → Type 0) (remaining : R → Option (List ℕ)) (contents : W → Option (List ℕ)) (contents_err : E → Option (List ℕ)) (words : List (List ℕ))
    (input_old input_new : Input R) (old new : Output W) (err_old err_new : ErrorOutput E) (exit : Exit) : Type 0 where
  -- A script that isn't refused writes what it is told; it is refused for its input, its output or a growth alone.
  pub script : (c : Command) → Spells words c → EndsScript contents contents_err (script_uses_checkpoints c) (unread remaining input_old) (read_failed input_new) old new err_old err_new exit
  -- What comes of a job is told where it belongs, with its status. What it leaves in the folder isn't claimed.
  pub job : (folder : List ℕ) (use_checkpoints : Bool) (work : Work) → SpellsJob words (table folder use_checkpoints work)
      → EndsDiskJob contents contents_err (AreCallsAt path_of count_of makes folder) use_checkpoints work (unread remaining input_old) (read_failed input_new) input_old input_new old new err_old err_new exit
  -- A check leaves the input alone, and tells a verdict with its status, or why it tells none. That it is right of the
  -- folder isn't claimed.
  pub checks : (folder : List ℕ) → SpellsJob words (check folder) → (input_new ≡ input_old) × ChecksDisk contents contents_err path_of count_of folder old new err_old err_new exit
  -- What a code means is told, or that no refusal has it; or what each code means.
  pub explains : (asked : Option (List ℕ)) → SpellsJob words (explain asked) → (input_new ≡ input_old) × Explains contents contents_err asked old new err_old err_new exit
  -- Words that can't be read have the status of what is wrong with them, and run nothing.
  pub misread : fault_of commands words ≢ [] → AreMisread (fault_of commands words) input_old input_new old new exit
