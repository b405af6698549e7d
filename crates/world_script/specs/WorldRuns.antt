-- What a run of a text comes to in a world, and how a run ends its input.
use Rattle.std.specs.Prelude.{◌≡◌, ◌<◌, ◌≤◌, ◌⊎◌, ℕ, Bool, true, false, List, [], Option, IfSome, length}
use Rattle.delta_actions.specs.Commit.{lines_of}
use Rattle.store_core.specs.Objects.{Objects}
use Rattle.lake_script.specs.Runs.{TellsWhole}
use Rattle.lake_script.specs.Streams.{held, read_failed, unread}
use Rattle.lake_script.specs.TextRuns.{IsTextRun}
use Rattle.lake_script.specs.Told.{ArePutHere, Finishes, fell_short, first_bad}
use Rattle.lake_script.specs.declared.engine.End.TheVariants.{NotRead}
use Rattle.lake_script.specs.declared.engine.Outcome.{Outcome}
use Rattle.lake_script.specs.declared.inputs.Input.{Input}
use Rattle.lake_script.specs.declared.inputs.TheConstants.{MOST_BYTES, MOST_READS}
use Rattle.lake_script.specs.declared.outputs.Output.{Output}
use Rattle.stream_world.specs.Worlds.{IsFirstStore}
use Rattle.world_script.specs.Playing.{PlaysInPart, PlaysShort, PlaysSo, StaysSo}
use Rattle.world_script.specs.Scenes.{first_scene}
use Rattle.world_script.specs.Words.{needs_world}

-- What a text comes to that is run in a world, over a store that loses no call: by what was held before and what the
-- writer holds then, and by the objects in front of it and behind it.
pub record IsWorldRun (use_checkpoints : Bool) (text : List ℕ) (outcome : Outcome) (old new : Option (List ℕ)) (before after : Objects) : Type 0 where
  -- Each line does what it asks for in a world, and is told that. The run is short just where one of its lines is: a
  -- session told so, or there was no memory to begin.
  pub tells_short : Finishes outcome.end (λ _. TellsWhole old new (λ written. PlaysShort (first_scene before use_checkpoints) text written (fell_short outcome) after))
  -- However it ends, some first lines did so.
  pub in_part : PlaysInPart (first_scene before use_checkpoints) text after
  -- Where what stood may stand first, nothing, and no line puts another tool's commit, the store that is left is sound, and what sessions told
  -- is so of the table that it holds: each batch that was acknowledged stands in the log once, every batch at most once
  -- and as submitted, each application's in rising number and none after its close; and what a reader was handed that
  -- resumes at its last offset is exactly the log's rows up to that offset, once each, in log order.
  pub worlds : IsFirstStore before → ArePutHere (lines_of text) → Finishes outcome.end (λ _. TellsWhole old new (λ written. PlaysSo (first_scene before use_checkpoints) text written after))
  -- The store is sound however it ends.
  pub sound : IsFirstStore before → ArePutHere (lines_of text) → StaysSo (first_scene before use_checkpoints) text after

-- What any text comes to, over a store that loses no call.
pub record IsRunOfText {W S : Type 0} (contents : W → Option (List ℕ)) (objects : S → Objects) (use_checkpoints : Bool) (text : List ℕ) (outcome : Outcome) (old new : Output W) (before after : S) : Type 0 where
  -- Without actors: what is written is what is told for it, to the byte.
  pub plain : needs_world text ≡ false → IsTextRun use_checkpoints text outcome (held contents old) (contents new.writer) (objects before) (objects after)
  -- With actors: each line does what it asks for in a world, and is told that; over nothing, and without another tool's
  -- commit, what sessions told is so of the table that the store holds, and the store is sound however the run ends.
  pub played : needs_world text ≡ true → IsWorldRun use_checkpoints text outcome (held contents old) (contents new.writer) (objects before) (objects after)

-- How a run ends that reads its input first, whatever the store does.
pub record EndsInput {R W S : Type 0} (remaining : R → Option (List ℕ)) (outcome : Outcome) (input input_new : Input R) (output output_new : Output W) (before after : S) : Type 0 where
  -- Where the input isn't read to its end, no line is run, and nothing is written.
  pub nothing : outcome.end ≡ NotRead → (output_new ≡ output) × (after ≡ before)
  pub not_read : outcome.end ≡ NotRead → (read_failed input_new ≡ true) ⊎ ((fell_short outcome ≡ true) ⊎ IfSome (unread remaining input) (λ text. MOST_READS ≤ length text))
  pub broken_input : read_failed input_new ≡ true → outcome.end ≡ NotRead
  pub too_long : IfSome (unread remaining input) (λ text. MOST_BYTES < length text → outcome.end ≡ NotRead)
  pub bad : Finishes outcome.end (λ bad. IfSome (unread remaining input) (λ text. bad ≡ first_bad text))
