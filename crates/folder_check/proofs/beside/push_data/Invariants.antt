use Rattle.std.proofs.Common.{◌≡◌, ◌++◌, map, string_bytes, take}
use Rattle.std.specs.Prelude.{codes, filter}
use Rattle.folder_check.specs.Beside.{is_data_file, line_of}
use Rattle.folder_check.proofs.beside.push_data.Given as goal

-- a line for each such name that was seen
abbrev pub invariant-loop-name : goal.invariant-loop-name
invariant-loop-name l = map string_bytes l.lines.items ≡ map string_bytes l.fn.lines.items ++ map (line_of (codes "unnamed")) (filter is_data_file (map string_bytes (take l.name-index l.names)))
