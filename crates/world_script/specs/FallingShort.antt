-- Which lines of a script with actors fall short: a growth was refused, or an object would have passed 64 MiB.
use Rattle.std.specs.Prelude.{◌≡◌, ◌||◌, ℕ, List, [], ◌∷◌, Bool, true, false, bytes_eq}
use Rattle.lake_script.specs.Endings.{IsShortBy}
use Rattle.lake_script.specs.Runs.{IsShort, no_room_to_append, no_room_to_create, no_room_to_read, no_room_to_show, no_room_to_tell}
use Rattle.lake_script.specs.Sound.{IsExecuted}
use Rattle.script_lines.specs.Lines as lines
use Rattle.script_lines.specs.Lines.{Statement}
use Rattle.table_jobs.specs.Jobs.{Job, Outcome}
use Rattle.table_log.specs.Restoring.{RestoresWell}
use Rattle.world_script.specs.Scenes.{Scene}

-- a reply tells that there was no memory to begin
abbrev pub tells_want : List ℕ → Bool
tells_want reply =
    bytes_eq reply no_room_to_create || (bytes_eq reply no_room_to_append || (bytes_eq reply no_room_to_read || (bytes_eq reply no_room_to_tell || bytes_eq reply no_room_to_show)))

-- A line that tells of the objects that stand, or puts another tool's commit: it is short only where its reply tells so, and it is told and done else.
-- This is said where each checkpoint that reads well is one of the log, or none is used.
abbrev pub IsLookShort : Scene → Statement → (reply : List ℕ) → (short : Bool) → Scene → Type 0
IsLookShort s statement reply short later =
    (RestoresWell s.use_checkpoints s.world.objects → short ≡ true → IsShort s.world.objects statement reply)
    × (RestoresWell s.use_checkpoints s.world.objects → short ≡ false → IsExecuted s.world.objects statement reply later.world.objects)

-- A line by which a session may end is short: just where that tells so, and where none ended just where its reply does.
abbrev pub IsToldShort : (outs : List (Job × Outcome)) → (reply : List ℕ) → (short : Bool) → Type 0
IsToldShort [] reply short = short ≡ tells_want reply
IsToldShort (told ∷ outs) reply short = IsShortBy told.1 reply short

-- any line
abbrev pub IsLineShort : Statement → Scene → (outs : List (Job × Outcome)) → (reply : List ℕ) → (short : Bool) → Scene → Type 0
IsLineShort (lines.look line) s outs reply short later = IsLookShort s (lines.look line) reply short later
IsLineShort (lines.foreign version action) s outs reply short later = IsLookShort s (lines.foreign version action) reply short later
IsLineShort statement s outs reply short later = IsToldShort outs reply short
