-- What a script with actors acts on: a world, the part of each actor that was named, and what lines have set.
use Rattle.std.specs.Prelude.{◌≡◌, ◌+◌, ℕ, List, Bool, false, Option, None, Some}
use Rattle.std.specs.BTreeMap.{get_by_text}
use Rattle.store_core.specs.Objects.{Objects}
use Rattle.script_lines.specs.declared.kind.Kind.{Kind}
use Rattle.stream_world.specs.Worlds.{World, first_world}
use Rattle.stream_world.specs.Standing.{WorldStands}
use Rattle.world_script.specs.declared.part.Part.{Part}
use Rattle.world_script.specs.declared.scene.Scene as code

-- A world, the part of each actor that was named, the number of the one that is named next, how often later sessions try, what the next commit
-- put of a line without an actor meets, and whether sessions use checkpoints.
pub record Scene : Type 0 where
  pub world : World
  pub part : List ℕ → Option Part
  pub next : ℕ
  pub tries : ℕ
  pub fault : Option Kind
  pub use_checkpoints : Bool

-- the scene over these objects in which nobody was named; actors that have a name are numbered from 1, and sessions try 16 versions
abbrev pub first_scene : Objects → (use_checkpoints : Bool) → Scene
first_scene objects use_checkpoints = record { world = first_world objects; part = λ name. None; next = 1; tries = 16; fault = None; use_checkpoints = use_checkpoints }

-- the part of an actor of a name, a new one where it has none yet, and which number comes next then
abbrev pub part_for : Option Part → (next : ℕ) → Part
part_for None next = record { number = next; is_refused = false }
part_for (Some part) next = part

abbrev pub next_behind_part : Option Part → (next : ℕ) → ℕ
next_behind_part None next = next + 1
next_behind_part (Some part) next = next

-- One actor has this part now, and the world is this one; nothing else has changed but which number comes next.
pub record HasPart (old new : Scene) (name : List ℕ) (part : Part) (next : ℕ) (w : World) : Type 0 where
  pub world_now : new.world ≡ w
  pub part_now : new.part name ≡ Some part
  pub others : (other : List ℕ) → (other ≡ name → ⊥) → new.part other ≡ old.part other
  pub next_now : new.next ≡ next
  pub tries_still : new.tries ≡ old.tries
  pub fault_still : new.fault ≡ old.fault
  pub use_still : new.use_checkpoints ≡ old.use_checkpoints

-- a scene of the code stands for one
pub record SceneStands {S : Type 0} (stored : S → Objects) (scene : code.Scene S) (s : Scene) : Type 0 where
  pub world_stands : WorldStands stored scene.world s.world
  pub part_so : (name : List ℕ) → get_by_text scene.parts name ≡ s.part name
  pub next_so : scene.next ≡ s.next
  pub tries_so : scene.tries ≡ s.tries
  pub fault_so : scene.fault ≡ s.fault
  pub use_so : scene.use_checkpoints ≡ s.use_checkpoints
