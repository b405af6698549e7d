use Rattle.std.proofs.Common.{◌≡◌, map}
use Rattle.std.specs.Map.Iter.{deref}
use Rattle.std.specs.String.{string_bytes}
use Rattle.store_core.proofs.memory.names_in.Given as goal

-- the names so far are copies of those that were given
abbrev pub invariant-loop-name : goal.invariant-loop-name
invariant-loop-name l = map string_bytes l.names.items ≡ map string_bytes (map deref l.yielded)
