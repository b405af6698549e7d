-- How many versions an append and a close try; which lines look at the objects alone.
use Rattle.std.specs.Prelude.{◌≡◌, ◌≤◌, ℕ}
use Rattle.script_lines.specs.Lines.{Statement, create, foreign, task, tries, look, world}

-- a line that says how many sets that, and no other line does
abbrev pub SetsTries : Statement → (before after : ℕ) → Type 0
SetsTries (tries count) before after = 1 ≤ count → after ≡ count
SetsTries (create id at schema) before after = after ≡ before
SetsTries (task job) before after = after ≡ before
SetsTries (look line) before after = after ≡ before
SetsTries (world line) before after = after ≡ before
SetsTries (foreign version action) before after = after ≡ before

-- a line that tells of the objects that stand, and leaves them as they are
abbrev pub IsLook : Statement → Type 0
IsLook (look line) = Unit {0}
IsLook (create id at schema) = ⊥
IsLook (task job) = ⊥
IsLook (tries count) = ⊥
IsLook (world line) = ⊥
IsLook (foreign version action) = ⊥
