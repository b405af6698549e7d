use Rattle.std.proofs.Common.{◌≡◌, ◌++◌, map, drop, string_bytes}
use Rattle.parquet_schema.proofs.leaves.put_leaf.Given as goal

-- the names that are copied and those that are left are all names
abbrev pub invariant-loop-name : goal.invariant-loop-name
invariant-loop-name l = map string_bytes l.names.items ++ map (λ name. name.now) (drop l.name-index l.way.names.items) ≡ map (λ name. name.now) l.way.names.items
