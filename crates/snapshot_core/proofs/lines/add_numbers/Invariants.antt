use Rattle.std.proofs.Common.{◌≡◌, ◌++◌, map, Bor}
use Rattle.std.specs.List.{flat_map}
use Rattle.delta_actions.specs.Action.{txn_view}
use Rattle.delta_actions.specs.declared.action.Txn.{Txn}
use Rattle.snapshot_core.specs.Telling.{number_line}
use Rattle.snapshot_core.proofs.lines.add_numbers.Given as goal

-- what is told so far, and what is left
abbrev pub invariant-loop-number : goal.invariant-loop-number
invariant-loop-number l = l.text.items ++ flat_map number_line (map (λ (t : Bor Txn). txn_view t.now) l.number-iterator.rest.items) ≡ l.fn.text.items ++ flat_map number_line (map (λ (t : Bor Txn). txn_view t.now) l.fn.numbers.items)
