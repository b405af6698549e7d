-- The checkpoints among the names of a store.
use Rattle.std.specs.Prelude.{◌≡◌, ◌≤◌, ℕ, List, [], ◌∷◌, Option, Some, option_map, string_bytes}
use Rattle.std.specs.List.{AllByRecursion}
use Rattle.table_log.specs.Restoring.{checkpoint_version}
use Rattle.table_audit.specs.declared.listing.Listed.{Listed}

-- a checkpoint's version and name
abbrev pub listed_view : Listed → ℕ × List ℕ
listed_view l = (l.version, string_bytes l.name)

-- the version that a name tells, with the name
abbrev pub told : List ℕ → Option (ℕ × List ℕ)
told name = option_map (λ version. (version, name)) (checkpoint_version name)

-- a checkpoint's name tells its version
abbrev pub IsVersionTold : ℕ × List ℕ → Type 0
IsVersionTold p = checkpoint_version p.1 ≡ Some p.0

-- no version is greater than one behind it
abbrev pub IsRising : List (ℕ × List ℕ) → Type 0
IsRising [] = Unit {0}
IsRising (p ∷ ps) = AllByRecursion (λ q. p.0 ≤ q.0) ps × IsRising ps
