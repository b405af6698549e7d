use Rattle.std.proofs.Common.{append_assoc}
use Rattle.snapshot_core.proofs.lines.path_line.Goals as goal

pub returns : goal.returns
returns c = simp append_assoc c.format.ensures.ok
