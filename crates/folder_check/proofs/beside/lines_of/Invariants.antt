use Rattle.std.proofs.Common.{◌≡◌, map, string_bytes, take}
use Rattle.std.specs.Prelude.{codes}
use Rattle.folder_check.specs.Beside.{line_of}
use Rattle.folder_check.proofs.beside.lines_of.Given as goal

-- a line for each file that was seen
abbrev pub invariant-loop-name : goal.invariant-loop-name
invariant-loop-name l = map string_bytes l.lines.items ≡ map (line_of (codes "leftover")) (map string_bytes (take l.name-index l.left))
