use Rattle.std.proofs.Common.{replicate, append-nil, arith, refl}
use Rattle.lake_bytes.proofs.ReaderLemmas.{none_wanted}
use Rattle.lake_bytes.proofs.hybrid_reader.HybridReader.equal.Goals as goal

pub invariant_of-result : goal.invariant_of-result
invariant_of-result c = (omega arith, tt, rw (none_wanted 0 c.new.result) refl)

pub returns : goal.returns
returns c = rw (none_wanted 0 c.new.result) (append-nil (replicate c.args.count c.args.value))
