use Rattle.std.proofs.Common.{◌≡◌, ◌++◌, map, take}
use Rattle.std.specs.Prelude.{filter, string_bytes}
use Rattle.table_folder.specs.Kinds.{is_file_of_kind}
use Rattle.table_folder.proofs.saving.add_kind.Given as goal

abbrev pub invariant-loop-name : goal.invariant-loop-name
invariant-loop-name l = map string_bytes l.ordered.items ≡ map string_bytes l.fn.ordered.items ++ filter (is_file_of_kind l.kind) (map string_bytes (take l.name-index l.names))
