use Rattle.std.proofs.Common.{[], arith}
use Rattle.commit_core.proofs.RaceLaws.{all_little}
use Rattle.commit_core.proofs.commit_laws.a_commit_asks_for_little.Goals as goal

pub returns : goal.returns
returns c = λ job before talk asked. omega (arith, all_little job before [] talk asked (omega arith))
