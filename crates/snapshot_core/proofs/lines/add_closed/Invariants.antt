use Rattle.std.proofs.Common.{◌≡◌, ◌++◌, map, Bor, ℕ, List}
use Rattle.std.specs.List.{flat_map}
use Rattle.snapshot_core.specs.Telling.{closed_line}
use Rattle.snapshot_core.proofs.lines.add_closed.Given as goal

-- what is told so far, and what is left
abbrev pub invariant-loop-application : goal.invariant-loop-application
invariant-loop-application l = l.text.items ++ flat_map closed_line (map (λ (t : Bor (List ℕ)). t.now) l.application-iterator.rest.items) ≡ l.fn.text.items ++ flat_map closed_line (map (λ (t : Bor (List ℕ)). t.now) l.fn.applications.items)
