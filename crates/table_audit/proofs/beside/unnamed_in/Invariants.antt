use Rattle.std.proofs.Common.{◌≡◌, ◌&&◌, filter, is_some, map, not, string_bytes, take}
use Rattle.std.specs.BTreeSet.{contains_text}
use Rattle.table_check.specs.Named.{version_named}
use Rattle.table_audit.proofs.beside.unnamed_in.Given as goal

-- those among the names that were seen
abbrev pub invariant-loop-name : goal.invariant-loop-name
invariant-loop-name l = map string_bytes l.unnamed.items ≡ filter (λ name. not (is_some (version_named name)) && not (contains_text l.fn.files name)) (map string_bytes (take l.name-index l.names))
