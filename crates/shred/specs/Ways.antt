-- The ways through a shape to its leaves.
use Rattle.std.specs.Prelude.{ℕ, ◌+◌, List, [], ◌∷◌, ◌++◌, map, Bool, true, false}
use Rattle.shred.specs.Shape.{Shape, leaf, struct, Fields, no_fields, field, Field}

-- one step down: the place of a field in its struct, and whether it may be null
pub record Step : Type 0 where
  pub place : ℕ
  pub optional : Bool

-- these ways, each behind the way above
abbrev pub under : List Step → List (List Step) → List (List Step)
under above below = map (λ way. above ++ way) below

-- the ways to the leaves, depth first
abbrev mutual
  pub ways : Shape → List (List Step)
  ways leaf = [] ∷ []
  ways (struct fs) = ways_from 0 fs

  -- the first of the fields stands at this place
  pub ways_from : ℕ → Fields → List (List Step)
  ways_from place no_fields = []
  ways_from place (field name optional s fs) = under (record { place = place; optional = optional } ∷ []) (ways s) ++ ways_from (place + 1) fs

-- the ways through a field at this place
abbrev pub field_ways : ℕ → Field → List (List Step)
field_ways place f = under (record { place = place; optional = f.optional } ∷ []) (ways f.shape)

-- the level below a field
abbrev pub level_inside : Bool → ℕ → ℕ
level_inside true level = level + 1
level_inside false level = level

-- the highest level on a way: how many of its steps are optional
abbrev pub highest_from : ℕ → List Step → ℕ
highest_from level [] = level
highest_from level (step ∷ way) = highest_from (level_inside step.optional level) way

abbrev pub highest : List Step → ℕ
highest way = highest_from 0 way
