use Rattle.sink_core.proofs.SinkCounts.{knowing_few, sink_few}
use Rattle.sink_core.proofs.sink_laws.a_sink_asks_for_little.Goals as goal

pub returns-clause-listed : goal.returns-clause-listed
returns-clause-listed c = λ job before talk rest names asked is. sink_few job before talk rest names asked is

pub returns-clause-known : goal.returns-clause-known
returns-clause-known c = λ job before talk asked is. knowing_few job before talk asked is
