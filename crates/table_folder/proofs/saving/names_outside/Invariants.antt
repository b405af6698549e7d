use Rattle.std.proofs.Common.{◌≡◌, map, take}
use Rattle.std.specs.Prelude.{filter, not, string_bytes}
use Rattle.std.specs.BTreeSet.{contains_text}
use Rattle.table_folder.proofs.saving.names_outside.Given as goal

abbrev pub invariant-loop-name : goal.invariant-loop-name
invariant-loop-name l = map string_bytes l.outside.items ≡ filter (λ name. not (contains_text l.set name)) (map string_bytes (take l.name-index l.names))
