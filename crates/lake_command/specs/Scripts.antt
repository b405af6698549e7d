-- What a script writes that is run over nothing, and how it ends.
use Rattle.std.specs.Prelude.{◌≡◌, ◌≢◌, ◌⊎◌, ◌≤◌, List, ℕ, [], Bool, true, false, IfSome, Option, length}
use Rattle.std.specs.Io.KnownBytes.{Appends}
use Rattle.delta_actions.specs.Commit.{lines_of}
use Rattle.store_core.specs.Objects.{Objects}
use Rattle.lake_hints.specs.ErrorOutputs.{TellsSome}
use Rattle.lake_hints.specs.declared.error_output.ErrorOutput.{ErrorOutput}
use Rattle.lake_words.specs.declared.command.Command.{Command}
use Rattle.lake_words.specs.declared.command.Command.TheVariants as commands
use Rattle.lake_script.specs.Runs.{FallsShort, MayBeTold, TellsWhole}
use Rattle.lake_script.specs.SoundStores.{IsSoundStore}
use Rattle.lake_script.specs.Scripts.{IsExpectedOver}
use Rattle.lake_script.specs.Streams.{held, write_failed}
use Rattle.lake_script.specs.Tables.{nothing, table_expected_output as expected_by_table, AreOfTable}
use Rattle.lake_script.specs.Told.{ArePutHere, IsScriptTold, first_bad}
use Rattle.lake_script.specs.declared.inputs.TheConstants.{MOST_READS}
use Rattle.lake_script.specs.declared.outputs.Output.{Output}
use Rattle.lake_command.specs.ErrorTexts.{IsBadLineTold}
use Rattle.lake_command.specs.Status.{status_at}
use Rattle.lake_command.specs.declared.exit.Exit.{Exit}
use Rattle.world_script.specs.ByLines.{IsTextSo}
use Rattle.world_script.specs.Playing.{PlaysShort, PlaysSo}
use Rattle.world_script.specs.Scenes.{first_scene}
use Rattle.world_script.specs.Words.{needs_world}

-- whether the words of a command ask that a log is read by its checkpoints, where they ask for a script
abbrev pub script_uses_checkpoints : Command → Bool
script_uses_checkpoints (commands.Script use_checkpoints) = use_checkpoints
script_uses_checkpoints _ = false

-- its lines do what they ask for, by checkpoints or not as is said, and one of them is short or none is
abbrev pub IsPlayedOver : (use_checkpoints : Bool) → (text : List ℕ) → (is_short : Bool) → (written : List ℕ) → Type 0
IsPlayedOver use_checkpoints text is_short written = (objects : Objects) × PlaysShort (first_scene [] use_checkpoints) text written is_short objects

-- and what sessions told by them is so
abbrev pub IsPlayedSo : (use_checkpoints : Bool) → (text written : List ℕ) → Type 0
IsPlayedSo use_checkpoints text written = (objects : Objects) × PlaysSo (first_scene [] use_checkpoints) text written objects

-- There is a table, that which some sound store holds, of which what was told is so: which jobs the lines hand in, and what was told of each, are
-- read off the lines and what is written alone.
abbrev pub IsToldOfTable : (use_checkpoints : Bool) → (text written : List ℕ) → Type 0
IsToldOfTable use_checkpoints text written = (objects : Objects) × IsSoundStore objects × IsTextSo use_checkpoints text written objects

-- What the output holds before and after a script that isn't refused, where both are known.
pub record WritesScript (use_checkpoints : Bool) (text : List ℕ) (is_short : Bool) (before after : Option (List ℕ)) : Type 0 where
  -- Without actors it is what is told, for some texts that the schemas of its lines are printed as, its checkpoints and its
  -- snapshots; the lines that met a refused growth are told so.
  pub told : needs_world text ≡ false → is_short ≡ false → TellsWhole before after (IsScriptTold [] text)
  -- Where no line shows an object, tells the snapshot or puts another tool's commit, that is what the plain table tells.
  pub tables : needs_world text ≡ false → is_short ≡ false → AreOfTable (lines_of text) → Appends before after (expected_by_table nothing text)
  -- Where none puts another tool's commit, that is what the plain table tells, but for what is shown.
  pub shown : needs_world text ≡ false → is_short ≡ false → ArePutHere (lines_of text) → IsExpectedOver before after nothing [] (lines_of text)
  -- It is short only where a reply that is written tells so.
  pub short : needs_world text ≡ false → is_short ≡ true → TellsWhole before after (FallsShort 1 [] (lines_of text))
  pub tells : needs_world text ≡ false → TellsWhole before after (MayBeTold [] text)
  -- Where it has actors, each of its lines does what it asks for in a world, and is told that; it is short just where one
  -- of them is.
  pub plays : needs_world text ≡ true → TellsWhole before after (IsPlayedOver use_checkpoints text is_short)
  -- Where none of them puts another tool's commit, there is a table, that of some sound store, of which what is told there
  -- is so: each batch that was acknowledged stands in its log once, every batch at most once and as submitted, each
  -- application's in rising number and none after its close; and what a reader was handed that resumes at its last offset
  -- is exactly that log's rows up to the offset, once each, in log order.
  pub headline : needs_world text ≡ true → ArePutHere (lines_of text) → TellsWhole before after (IsToldOfTable use_checkpoints text)
  -- The same of the world to which its lines led.
  pub worlds : needs_world text ≡ true → ArePutHere (lines_of text) → TellsWhole before after (IsPlayedSo use_checkpoints text)

-- How a script ends, over a store in which nothing stood.
pub record EndsScript {W E : Type 0} (contents : W → Option (List ℕ)) (contents_err : E → Option (List ℕ)) (use_checkpoints : Bool) (text : Option (List ℕ)) (is_broken : Bool) (old new : Output W) (err_old err_new : ErrorOutput E) (exit : Exit) : Type 0 where
  -- One that isn't refused writes what it is told.
  pub script : exit.status ≢ 1 → IfSome text (λ bytes. WritesScript use_checkpoints bytes exit.is_short (held contents old) (contents new.writer))
  -- Its status is that of its first bad line, or of none, and why that is bad is told on standard error.
  pub status : exit.status ≢ 1 → IfSome text (λ bytes. (exit.status ≡ status_at (first_bad bytes)) × TellsSome contents_err (IsBadLineTold (first_bad bytes)) err_old err_new)
  -- A script is refused where its input or its output fails, or a growth was refused, and nowhere else; an input that
  -- passes its limits is one that fails.
  pub refused : exit.status ≡ 1 → (exit.is_short ≡ true) ⊎ ((is_broken ≡ true) ⊎ ((write_failed new ≡ true) ⊎ IfSome text (λ bytes. MOST_READS ≤ length bytes)))
