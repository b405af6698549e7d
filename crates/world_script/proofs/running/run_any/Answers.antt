use Rattle.std.proofs.Common.{rules}
use Rattle.world_script.proofs.running.run_any.Goals as goal

pub returns-then-needs_world-clause-runs : goal.returns-then-needs_world-clause-runs
returns-then-needs_world-clause-runs g c = λ reliable. record { plain = search rules; played = search rules }

pub returns-clause-runs : goal.returns-clause-runs
returns-clause-runs g c = λ reliable. record { plain = search rules; played = search rules }
