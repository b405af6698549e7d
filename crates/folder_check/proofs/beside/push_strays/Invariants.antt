use Rattle.std.proofs.Common.{◌≡◌, ◌++◌, map, string_bytes, take}
use Rattle.std.specs.Prelude.{codes, filter}
use Rattle.folder_check.specs.Beside.{is_stray, line_of}
use Rattle.folder_check.proofs.beside.push_strays.Given as goal

-- a line for each such name that was seen
abbrev pub invariant-loop-name : goal.invariant-loop-name
invariant-loop-name l = map string_bytes l.lines.items ≡ map string_bytes l.fn.lines.items ++ map (line_of (codes "stray")) (filter is_stray (map string_bytes (take l.name-index l.names)))
