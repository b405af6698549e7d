-- What a run of a text comes to: how it leaves its output over any store, and what is told and left over one that loses no
-- call.
use Rattle.std.specs.Prelude.{◌≡◌, ◌≢◌, ◌+◌, ◌≤◌, ◌⊎◌, ℕ, suc, Bool, true, false, List, [], length, Option, ⊤}
use Rattle.delta_actions.specs.Commit.{lines_of}
use Rattle.store_core.specs.Names.{greatest_version}
use Rattle.store_core.specs.Objects.{Objects}
use Rattle.table_log.specs.Restoring.{AreCheckpointsSound, HasOnlySoundCheckpoints, RestoresWell}
use Rattle.lake_script.specs.Keeps.{Keeps, KeepsBeside}
use Rattle.lake_script.specs.Runs.{FallsShort, Runs, RunsInPart, TellsFront, TellsWhole}
use Rattle.lake_script.specs.Scripts.{IsScript, StaysSound}
use Rattle.lake_script.specs.Sound.{IsRunInPart, IsScriptRun}
use Rattle.lake_script.specs.Streams.{held, waiting, write_failed}
use Rattle.lake_script.specs.Tables.{TableState, entries_of_state}
use Rattle.lake_script.specs.Told.{ArePutHere, Finishes, fell_short, first_bad}
use Rattle.lake_script.specs.declared.engine.End.TheVariants.{NotRead, NotWritten}
use Rattle.lake_script.specs.declared.engine.Outcome.{Outcome}
use Rattle.lake_script.specs.declared.outputs.Output.{Output}

-- How a run leaves its output, whatever its text and the store do.
pub record EndsOutput {W : Type 0} (contents : W → Option (List ℕ)) (outcome : Outcome) (old new : Output W) : Type 0 where
  pub nothing_waits : Finishes outcome.end (λ _. waiting new ≡ [])
  -- Over any store, one that loses calls too, what is written stands behind what was held.
  pub behind : Finishes outcome.end (λ _. TellsWhole (held contents old) (contents new.writer) (λ written. ⊤))
  pub broken_output : Finishes outcome.end (λ _. write_failed new ≡ write_failed old)
  pub not_written : outcome.end ≡ NotWritten → (write_failed new ≡ true) ⊎ (fell_short outcome ≡ true)

-- How a run of a text ends, whatever the store does: at its first bad line, if it has one.
pub record EndsText {W : Type 0} (contents : W → Option (List ℕ)) (text : List ℕ) (outcome : Outcome) (old new : Output W) : Type 0 where
  pub output : EndsOutput contents outcome old new
  pub finished : Finishes outcome.end (λ bad. bad ≡ first_bad text)
  pub read : outcome.end ≢ NotRead

-- What a text comes to that is run line by line over a store that loses no call: by what was held before and what the
-- writer holds then, and by the objects in front of it and behind it.
pub record IsTextRun (use_checkpoints : Bool) (text : List ℕ) (outcome : Outcome) (old new : Option (List ℕ)) (before after : Objects) : Type 0 where
  -- Where the run finishes, no growth was refused, no object of the product's passed 64 MiB and, with `use_checkpoints`,
  -- each checkpoint that stands and reads well is one of the log, what is written is what is told for the text, and the
  -- objects are what it leaves, for some texts that the schemas of its lines are printed as, its checkpoints and its
  -- snapshots. They are known to the last byte where no line creates a table with a number in its metadata that has a
  -- fraction or an exponent, is `-0` or is beyond 64 bits, or puts another tool's commit: then what is written is one
  -- text. What is told is told by all commits, so with `use_checkpoints` and without it is the same.
  pub told : RestoresWell use_checkpoints before → fell_short outcome ≡ false → Finishes outcome.end (λ _. IsScriptRun before text old new after)
  -- Where a growth was refused, each line has its reply and effect, or is told of want of memory and leaves the objects
  -- as they were, but for a batch's file, which may stand.
  pub tells : RestoresWell use_checkpoints before → Finishes outcome.end (λ _. TellsWhole old new (λ written. Runs 1 before (lines_of text) written after))
  -- A run that finishes is short only where a reply that is written tells so.
  pub short : RestoresWell use_checkpoints before → fell_short outcome ≡ true → Finishes outcome.end (λ _. TellsWhole old new (FallsShort 1 before (lines_of text)))
  pub stands : RestoresWell use_checkpoints before → fell_short outcome ≡ false → outcome.end ≡ NotWritten → IsRunInPart before text old new
  -- Where a reply can't be given, this holds of some first lines, and what is written is a front of their replies.
  pub front : RestoresWell use_checkpoints before → outcome.end ≡ NotWritten → TellsFront old new (λ written. RunsInPart 1 before (lines_of text) written after)
  -- Over a store that keeps a table, or nothing, where there can be as many versions as it has entries and the text
  -- lines, this is what the plain table tells, where no line shows an object, tells the snapshot or puts another tool's
  -- commit; where none puts such a commit, what is shown is told by the objects and all else by the table, the store then
  -- keeps the table that was told, and reads over it hand out its rows.
  pub script : (state : TableState) → RestoresWell use_checkpoints before → Keeps before state → fell_short outcome ≡ false
      → Finishes outcome.end (λ _. length (entries_of_state state) + length (lines_of text) ≤ suc greatest_version → IsScript state old new text before after)
  -- Over such a store, in which data files of other batches may stand too, and whose checkpoints are the log's, and where
  -- no line puts another tool's commit, the store that is left is sound, its log is lawful, and it is such a store again,
  -- however the run ends and whatever growth is refused on the way.
  pub lawful : (state : TableState) → HasOnlySoundCheckpoints before → KeepsBeside before state → ArePutHere (lines_of text) → StaysSound state (length (lines_of text)) after
  pub restores : (every : Bool) → AreCheckpointsSound every before → AreCheckpointsSound every after
