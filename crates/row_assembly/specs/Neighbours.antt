-- Whether the cells of a row agree on which structs are there, asked of each leaf and the one in front of it: up to the
-- optional fields that hold both, their levels are the same. So no struct is null for one leaf and there for another.
use Rattle.std.specs.Prelude.{◌≡◌, ◌≤◌, ◌==◌, ℕ, List, [], ◌∷◌, map, min, if◌then◌else◌}
use Rattle.shred.specs.Shape.{Shape}
use Rattle.shred.specs.Ways.{Step, ways, highest, level_inside}
use Rattle.shred.specs.Columns.{Cell}
use Rattle.row_assembly.specs.Levels.{test_cell}

-- how many steps of the common front of two ways are optional
abbrev pub shared_steps : List Step → List Step → ℕ
shared_steps (step ∷ way) (other ∷ others) = if step.place == other.place then level_inside step.optional (shared_steps way others) else 0
shared_steps _ _ = 0

-- The highest level of a leaf, and how many optional fields hold both it and the leaf in front of it.
pub record LeafLevels : Type 0 where
  pub highest : ℕ
  pub shared : ℕ

-- the leaves at the end of these ways, where the way to the leaf in front of them is this one
abbrev pub levels_behind : List Step → List (List Step) → List LeafLevels
levels_behind before [] = []
levels_behind before (way ∷ others) = record { highest = highest way; shared = shared_steps before way } ∷ levels_behind way others

-- the leaves of a shape, depth first; the first one shares nothing
abbrev pub leaf_levels : Shape → List LeafLevels
leaf_levels shape = levels_behind [] (ways shape)

abbrev pub tops_in : List LeafLevels → List ℕ
tops_in leaves = map (λ leaf. leaf.highest) leaves

-- A level of a leaf is at most its highest, and up to what the leaf shares it is the level of the leaf in front.
pub record HeadAgrees (before : ℕ) (leaf : LeafLevels) (level : ℕ) : Type 0 where
  pub within : level ≤ leaf.highest
  pub same : min before leaf.shared ≡ min level leaf.shared

-- Each cell agrees with the one in front of it, and has some value just at the highest level of its leaf.
abbrev pub HeadsAgree : (before : ℕ) → List LeafLevels → List Cell → Type 0
HeadsAgree before [] [] = Unit {0}
HeadsAgree before (leaf ∷ leaves) (c ∷ cells) = HeadAgrees before leaf c.level × (c ≡ test_cell leaf.highest c.level) × HeadsAgree c.level leaves cells
HeadsAgree before _ _ = ⊥
