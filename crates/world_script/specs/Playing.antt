-- What a script with actors comes to, line by line, and what is so of what it told.
use Rattle.std.specs.Prelude.{◌≡◌, ◌+◌, ◌||◌, ℕ, Bool, false, List, [], ◌∷◌, ◌++◌, length}
use Rattle.delta_actions.specs.Commit.{lines_of}
use Rattle.lake_script.specs.Replies.{bad_line}
use Rattle.stream_world.specs.SoundStores.{IsSoundStore}
use Rattle.script_lines.specs.Lines.{Statement, asks, bad, reading_of, skipped}
use Rattle.table_jobs.specs.Jobs.{Job, Outcome}
use Rattle.store_core.specs.Objects.{Objects}
use Rattle.stream_world.specs.Events.{Event, IsWorldOf}
use Rattle.stream_world.specs.Worlds.{World}
use Rattle.stream_world.specs.Headline.{IsHeadline}
use Rattle.table_model.specs.Table.{Entry}
use Rattle.table_store.specs.Holds.{Holds}
use Rattle.table_store.specs.Schema.{Schema}
use Rattle.world_script.specs.FallingShort.{IsLineShort}
use Rattle.world_script.specs.Lines.{LineDoes}
use Rattle.world_script.specs.Scenes.{Scene}

-- By these lines, one after the other, a scene came to another: what was written, the events, what sessions told, and whether a line was short.
pub data Plays (first : Scene) : (lines : List (List ℕ)) → (written : List ℕ) → List Event → (outs : List (Job × Outcome)) → (short : Bool) → Scene → Type 0 where
  at_first : Plays first [] [] [] [] false first
  skips_one : (lines : List (List ℕ)) (line written : List ℕ) (events : List Event) (outs : List (Job × Outcome)) (short : Bool) (s : Scene) → Plays first lines written events outs short s → reading_of line ≡ skipped
      → Plays first (lines ++ line ∷ []) written events outs short s
  plays_one : (lines : List (List ℕ)) (line written : List ℕ) (events : List Event) (outs : List (Job × Outcome)) (short : Bool) (s : Scene) (statement : Statement) (more : List Event) (told : List (Job × Outcome)) (reply : List ℕ) (falls : Bool) (later : Scene)
      → Plays first lines written events outs short s → reading_of line ≡ asks statement → LineDoes statement s more told reply later → IsLineShort statement s told reply falls later
      → Plays first (lines ++ line ∷ []) (written ++ reply) (events ++ more) (outs ++ told) (short || falls) later

-- Some first lines of a text were played by these events, by which this was told, and these objects stand then.
pub record HasPlayed (first : Scene) (lines : List (List ℕ)) (written : List ℕ) (events : List Event) (outs : List (Job × Outcome)) (short : Bool) (objects : Objects) : Type 0 where
  pub last : Scene
  pub plays : Plays first lines written events outs short last
  pub stand : last.world.objects ≡ objects

-- A text was played: all of its lines, or those in front of its first bad one, which ends it.
pub data HasPlayedText (first : Scene) (text : List ℕ) : (written : List ℕ) → List Event → (outs : List (Job × Outcome)) → (short : Bool) → Objects → Type 0 where
  to_end : (written : List ℕ) (events : List Event) (outs : List (Job × Outcome)) (short : Bool) (objects : Objects) → HasPlayed first (lines_of text) written events outs short objects → HasPlayedText first text written events outs short objects
  to_bad : (lines : List (List ℕ)) (line : List ℕ) (rest : List (List ℕ)) (written : List ℕ) (events : List Event) (outs : List (Job × Outcome)) (short : Bool) (objects : Objects) → lines_of text ≡ lines ++ line ∷ rest → reading_of line ≡ bad
      → HasPlayed first lines written events outs short objects → HasPlayedText first text (written ++ bad_line (length lines + 1)) events outs short objects

-- by some events, by which something was told; the run is short just where one of its lines is
abbrev pub PlaysShort : Scene → (text written : List ℕ) → (short : Bool) → Objects → Type 0
PlaysShort first text written short objects = (events : List Event) × (outs : List (Job × Outcome)) × HasPlayedText first text written events outs short objects

-- some first lines of a text were played, whatever of it was written
pub record PlaysInPart (first : Scene) (text : List ℕ) (objects : Objects) : Type 0 where
  pub lines : List (List ℕ)
  pub rest : List (List ℕ)
  pub are : lines_of text ≡ lines ++ rest
  pub written : List ℕ
  pub events : List Event
  pub outs : List (Job × Outcome)
  pub short : Bool
  pub played : HasPlayed first lines written events outs short objects

-- These events led a world in which nothing stood to one with these objects. So its store is sound, and what was told by them is so of the table that
-- it holds.
pub record IsSoOfTable (events : List Event) (outs : List (Job × Outcome)) (objects : Objects) : Type 0 where
  pub w : World
  pub of_world : IsWorldOf events outs w
  pub stand : w.objects ≡ objects
  pub sound : IsSoundStore objects
  pub headline : (schema : Schema) (entries : List Entry) → Holds objects schema entries → IsHeadline events outs schema entries

-- a text was played, and what was told is so
abbrev pub PlaysSo : Scene → (text written : List ℕ) → Objects → Type 0
PlaysSo first text written objects = (events : List Event) × (outs : List (Job × Outcome)) × (short : Bool) × HasPlayedText first text written events outs short objects × IsSoOfTable events outs objects

-- some first lines of it were, and what was told by them is so
pub record StaysSo (first : Scene) (text : List ℕ) (objects : Objects) : Type 0 where
  pub part : PlaysInPart first text objects
  pub so : IsSoOfTable part.events part.outs objects
