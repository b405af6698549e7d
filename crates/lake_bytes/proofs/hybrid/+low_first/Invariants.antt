use Rattle.std.proofs.Common.{length}
use Rattle.lake_bytes.proofs.hybrid.+low_first.Given as goal

abbrev pub decreases-low_first : goal.decreases-low_first
decreases-low_first l = length l.bytes.now
