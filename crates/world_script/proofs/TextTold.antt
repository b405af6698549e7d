-- What a script with actors was told, read off its lines and replies, is so of the store that it left.
use Rattle.std.proofs.Common.{◌≡◌, ℕ, List, [], Bool, Option, map}
use Rattle.delta_actions.specs.Commit.{lines_of}
use Rattle.lake_script.specs.Runs.{TellsWhole}
use Rattle.lake_script.specs.Told.{ArePutHere, Finishes}
use Rattle.lake_script.specs.declared.engine.End.{End}
use Rattle.store_core.specs.Objects.{Objects}
use Rattle.stream_world.specs.Puts.{WasBegun}
use Rattle.stream_world.specs.Events.{Event, begin}
use Rattle.stream_world.specs.Worlds.{IsFirstStore}
use Rattle.stream_world.proofs.PairedTold.{headline_of_more}
use Rattle.table_jobs.specs.Jobs.{Job, Outcome}
use Rattle.table_store.proofs.ConflictLemmas.{Contains-map}
use Rattle.world_script.specs.ByLines.{IsTextSo, ToldByText, of_all, up_to_bad}
use Rattle.world_script.specs.Playing as plays
use Rattle.world_script.specs.Playing.{HasPlayedText, PlaysShort, PlaysSo}
use Rattle.world_script.specs.Scenes.{first_scene}
use Rattle.world_script.proofs.Happened.{IsHeadlineLaw, IsSoundLaw, finishes_as, script_so}
use Rattle.world_script.proofs.Keeping.{AreHanded}
use Rattle.world_script.proofs.LinesTold.{lines_tell}

-- what a text told that was played, and the jobs that it handed in
record TextTells (uses : Bool) (text written : List ℕ) (seen : List Event) (outs : List (Job × Outcome)) : Type 0 where
  handed : List Job
  told : ToldByText uses text written handed outs
  are_handed : AreHanded seen handed

text_tells : (objects : Objects) (uses : Bool) (text written : List ℕ) (seen : List Event) (outs : List (Job × Outcome)) (short : Bool) (after : Objects) → HasPlayedText (first_scene objects uses) text written seen outs short after
    → TextTells uses text written seen outs
text_tells objects uses text _ _ _ _ _ (plays.to_end written seen outs short after played) =
    let so = lines_tell objects uses (lines_of text) written seen outs short played.last played.plays in
    record { handed = so.handed; told = of_all written so.b so.handed outs so.told; are_handed = so.are_handed }
text_tells objects uses text _ _ _ _ _ (plays.to_bad those line rest written seen outs short after are bad played) =
    let so = lines_tell objects uses those written seen outs short played.last played.plays in
    record { handed = so.handed; told = up_to_bad those line rest written so.b so.handed outs are bad so.told; are_handed = so.are_handed }

-- what events begin that is among some jobs is handed in by these
begun_by_one : (seen : List Event) (jobs : List Job) → AreHanded seen jobs → (job : Job) → WasBegun seen job → WasBegun (map (begin 0) jobs) job
begun_by_one seen jobs handed job (can, name, has) = (can, 0, Contains-map (begin 0) jobs job (handed name job has))

so_told : (uses : Bool) (text written : List ℕ) (first objects : Objects) → PlaysSo (first_scene first uses) text written objects → IsTextSo uses text written objects
so_told uses text written first objects (seen, outs, short, played, so) =
    let told = text_tells first uses text written seen outs short objects played in
    record {
      handed = told.handed;
      outs = outs;
      told = told.told;
      headline = λ schema entries holds. headline_of_more seen (map (begin 0) told.handed) outs schema entries (begun_by_one seen told.handed told.are_handed) (so.headline schema entries holds);
    }

-- What a text was told that was played over what may stand first is so of the store that it left.
pub text_told : (uses : Bool) (text written : List ℕ) (short : Bool) (first objects : Objects) → IsSoundLaw → IsHeadlineLaw → ArePutHere (lines_of text) → IsFirstStore first → PlaysShort (first_scene first uses) text written short objects
    → IsTextSo uses text written objects
text_told uses text written short first objects sound headline here may played = so_told uses text written first objects (script_so uses text written short first objects sound headline here may played)

-- the same of what was written
pub finishes_told : (end : End) (old new : Option (List ℕ)) (uses : Bool) (text : List ℕ) (short : Bool) (first objects : Objects) → IsSoundLaw → IsHeadlineLaw → ArePutHere (lines_of text) → IsFirstStore first
    → Finishes end (λ _. TellsWhole old new (λ written. PlaysShort (first_scene first uses) text written short objects)) → Finishes end (λ _. TellsWhole old new (λ written. IsTextSo uses text written objects))
finishes_told end old new uses text short first objects sound headline here may told =
    finishes_as end old new (λ written. PlaysShort (first_scene first uses) text written short objects) (λ written. IsTextSo uses text written objects)
    (λ written played. text_told uses text written short first objects sound headline here may played) told
