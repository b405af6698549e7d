use Rattle.std.proofs.Common.{sym, subst}
use Rattle.log_book.specs.Book.{BookView}
use Rattle.log_hub.specs.Sights.{Sight}
use Rattle.log_hub.specs.Lock.{IsUnused}
use Rattle.log_hub.proofs.Steps.{goes_back}
use Rattle.log_hub.proofs.lock.put_back_unused.Goals as goal

pub send_as-requires-clause-rule : goal.send_as-requires-clause-rule
send_as-requires-clause-rule g c =
    let f = subst (λ (y : Sight × BookView). IsUnused y.0 y.1) (λ i. (sym c.loop.invariant.1 i, sym c.loop.invariant.2 i)) c.requires.same in
    (goes_back _ _ _ _ c.requires.one f, λ items views h here. tt)
