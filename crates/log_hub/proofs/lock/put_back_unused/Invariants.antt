use Rattle.std.proofs.Common.{◌≡◌}
use Rattle.crossbeam_channel.specs.Claims.{view, IsSeatAt}
use Rattle.crossbeam_channel.specs.Ends.{sends_on}
use Rattle.log_hub.proofs.lock.put_back_unused.Given as goal

abbrev pub invariant-loop : goal.invariant-loop
invariant-loop g l = IsSeatAt (sends_on l.inlet) l.pass × (view l.pass ≡ view l.initial.pass) × (l.book ≡ l.initial.book)
