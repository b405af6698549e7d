-- From what lines came to in a world, one after the other, to what a script with actors comes to.
use Rattle.std.proofs.Common.{◌≡◌, ℕ, Bool, List, [], ◌∷◌, ◌++◌, Option, Result, OnOk, OnErr, sym, append-nil}
use Rattle.delta_actions.specs.Commit.{lines_of}
use Rattle.lake_script.specs.Answered as answered
use Rattle.lake_script.specs.Answered.{Answered, AnsweredInPart, AnsweredText, LeadsTo}
use Rattle.lake_script.specs.Ended.{end_of_script, short_of}
use Rattle.lake_script.specs.Runs.{TellsWhole, TellsFront}
use Rattle.lake_script.specs.Told.{Finishes}
use Rattle.lake_script.specs.declared.outputs.OutputError.{OutputError}
use Rattle.lake_script.proofs.EndedLemmas.{finishes_short, in_both}
use Rattle.lake_script.proofs.RunsLemmas.{then_ok}
use Rattle.table_jobs.specs.Jobs.{Job, Outcome}
use Rattle.store_core.specs.Objects.{Objects}
use Rattle.stream_world.specs.Events.{Event}
use Rattle.world_script.specs.Doing.{DoesInScene}
use Rattle.world_script.specs.Playing as playing
use Rattle.world_script.specs.Playing.{Plays, PlaysInPart, PlaysShort}
use Rattle.world_script.specs.Scenes.{Scene, SceneStands}
use Rattle.world_script.specs.declared.scene.Scene as code

module _ (first : Scene) where
  played : (lines : List (List ℕ)) (written : List ℕ) (short : Bool) (s : Scene) → Answered DoesInScene first lines written short s → (events : List Event) × (outs : List (Job × Outcome)) × Plays first lines written events outs short s
  played _ _ _ _ answered.at_first = ([], [], playing.at_first)
  played _ _ _ _ (answered.skips_one lines line written short s before is) =
      let so = played lines written short s before in
      (so.0, so.1, playing.skips_one lines line written so.0 so.1 short s so.2 is)
  played _ _ _ _ (answered.answers_one lines line written short s statement reply falls later before is does) =
      let so = played lines written short s before in
      (so.0 ++ does.0, so.1 ++ does.1, playing.plays_one lines line written so.0 so.1 short s statement does.0 does.1 reply falls later so.2 is does.2 does.3)

  module _ (text : List ℕ) (objects : Objects) where
    played_text : (written : List ℕ) (short : Bool) (s : Scene) → AnsweredText DoesInScene first text written short s → s.world.objects ≡ objects → PlaysShort first text written short objects
    played_text _ _ _ (answered.to_end written short s answers) stand =
        let so = played (lines_of text) written short s answers in
        (so.0, so.1, playing.to_end written so.0 so.1 short objects (record { last = s; plays = so.2; stand = stand }))
    played_text _ _ _ (answered.to_bad lines line rest written short s are is answers) stand =
        let so = played lines written short s answers in
        (so.0, so.1, playing.to_bad lines line rest written so.0 so.1 short objects are is (record { last = s; plays = so.2; stand = stand }))

    some_played : (lines rest : List (List ℕ)) (written : List ℕ) (short : Bool) (s : Scene) → lines_of text ≡ lines ++ rest → Answered DoesInScene first lines written short s → s.world.objects ≡ objects → PlaysInPart first text objects
    some_played lines rest written short s are answers stand =
        let so = played lines written short s answers in
        record { lines = lines; rest = rest; are = are; written = written; events = so.0; outs = so.1; short = short; played = record { last = s; plays = so.2; stand = stand } }

    text_in_part : (written : List ℕ) (short : Bool) (s : Scene) → AnsweredText DoesInScene first text written short s → s.world.objects ≡ objects → PlaysInPart first text objects
    text_in_part _ _ _ (answered.to_end written short s answers) stand = some_played (lines_of text) [] written short s (sym (append-nil (lines_of text))) answers stand
    text_in_part _ _ _ (answered.to_bad lines line rest written short s are is answers) stand = some_played lines (line ∷ rest) written short s are answers stand

    part_in_part : (written : List ℕ) (short : Bool) (s : Scene) → AnsweredInPart DoesInScene first text written short s → s.world.objects ≡ objects → PlaysInPart first text objects
    part_in_part _ _ _ (answered.so_far lines rest written short s are answers) stand = some_played lines rest written short s are answers stand
    part_in_part _ _ _ (answered.all_of_it written short s told) stand = text_in_part written short s told stand

module _ {S : Type 0} (stored : S → Objects) (scene : code.Scene S) (first : Scene) (text : List ℕ) (old new : Option (List ℕ)) (short : Bool) (ended : Result (Option ℕ) OutputError) where
  abbrev ToldAll : Type 0
  ToldAll = TellsWhole old new (λ written. LeadsTo (AnsweredText DoesInScene first text written short) (λ later. SceneStands stored scene later))

  abbrev ToldFront : Type 0
  ToldFront = TellsFront old new (λ written. LeadsTo (AnsweredInPart DoesInScene first text written short) (λ later. SceneStands stored scene later))

  abbrev left : Objects
  left = stored scene.world.store.store

  -- what a run that finishes comes to
  pub run_plays : OnOk ended ToldAll → Finishes (end_of_script ended) (λ _. TellsWhole old new (λ written. PlaysShort first text written (short_of ended short) left))
  run_plays all =
      finishes_short ended short (λ is. TellsWhole old new (λ written. PlaysShort first text written is left))
      (then_ok ended ToldAll (TellsWhole old new (λ written. PlaysShort first text written short left)) (λ told. (told.0, told.1, played_text first text left told.0 short told.2.0 told.2.1 told.2.2.world_stands.objects)) all)

  -- and any
  pub run_in_part : OnOk ended ToldAll → OnErr ended ToldFront → PlaysInPart first text left
  run_in_part =
      in_both ended ToldAll ToldFront (PlaysInPart first text left) (λ told. text_in_part first text left told.0 short told.2.0 told.2.1 told.2.2.world_stands.objects)
      (λ told. part_in_part first text left told.0 short told.2.0 told.2.1 told.2.2.world_stands.objects)
