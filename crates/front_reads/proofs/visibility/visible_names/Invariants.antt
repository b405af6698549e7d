use Rattle.std.proofs.Common.{◌≡◌, filter, map, string_bytes, take}
use Rattle.front_reads.specs.Fronts.{is_kept}
use Rattle.front_reads.proofs.visibility.visible_names.Given as goal

abbrev pub invariant-loop-name : goal.invariant-loop-name
invariant-loop-name l = map string_bytes l.visible.items ≡ filter (is_kept l.front) (map string_bytes (take l.name-index l.names))
