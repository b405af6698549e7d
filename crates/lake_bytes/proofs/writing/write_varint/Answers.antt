use Rattle.std.proofs.Common.{lit<, arith}
use Rattle.lake_bytes.specs.Varint.{varint_bytes}
use Rattle.lake_bytes.proofs.writing.write_varint.Goals as goal

pub returns-else-is_err-clause-ok : goal.returns-else-is_err-clause-ok
unfolding varint_bytes
returns-else-is_err-clause-ok c = c.push_groups-written.ensures.ok 10 (lit< tt) (omega arith)
