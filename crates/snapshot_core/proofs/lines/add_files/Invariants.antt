use Rattle.std.proofs.Common.{◌≡◌, ◌++◌, map, Bor}
use Rattle.std.specs.List.{flat_map}
use Rattle.delta_actions.specs.Action.{add_view}
use Rattle.delta_actions.specs.declared.action.Add.{Add}
use Rattle.snapshot_core.specs.Telling.{file_line}
use Rattle.snapshot_core.proofs.lines.add_files.Given as goal

-- what is told so far, and what is left
abbrev pub invariant-loop-file : goal.invariant-loop-file
invariant-loop-file l = l.text.items ++ flat_map file_line (map (λ (a : Bor Add). add_view a.now) l.file-iterator.rest.items) ≡ l.fn.text.items ++ flat_map file_line (map (λ (a : Bor Add). add_view a.now) l.fn.files.items)
