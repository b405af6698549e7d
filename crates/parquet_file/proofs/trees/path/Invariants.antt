use Rattle.std.proofs.Common.{◌≡◌, map, take, string_bytes}
use Rattle.thrift_core.specs.Tree as thrift
use Rattle.thrift_core.specs.View.{views}
use Rattle.parquet_file.proofs.trees.path.Given as goal

-- the names so far
abbrev pub invariant-loop-name : goal.invariant-loop-name
invariant-loop-name l = views l.path.items ≡ map thrift.binary (map string_bytes (take l.name-index l.names))
