use Rattle.std.proofs.Common.{◌≡◌, ℕ, List, map, take}
use Rattle.std.specs.Prelude.{bytes_eq, string_bytes}
use Rattle.std.specs.List.{list_any}
use Rattle.std.specs.BTreeSet.{contains_text}
use Rattle.table_folder.proofs.saving.set_of.Given as goal

abbrev pub invariant-loop-name : goal.invariant-loop-name
invariant-loop-name l = (name : List ℕ) → contains_text l.set name ≡ list_any (bytes_eq name) (map string_bytes (take l.name-index l.names))
