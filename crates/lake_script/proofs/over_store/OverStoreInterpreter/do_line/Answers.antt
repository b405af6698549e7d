use Rattle.std.proofs.Common.{refl}
use Rattle.lake_script.proofs.StoreAnswers.{does_over}
use Rattle.lake_script.proofs.over_store.OverStoreInterpreter.do_line.Goals as goal

pub returns-clause-does : goal.returns-clause-does
returns-clause-does g c = λ reliable s stands.
    let ran = c.execute-reply.ensures in (
      record { objects = g.S.Store.objects c.execute-reply.new.store; use_checkpoints = c.args.self.now.use_checkpoints },
      does_over (g.S.Store.objects c.args.self.now.store.now) (g.S.Store.objects c.execute-reply.new.store) c.args.self.now.use_checkpoints s _ _ _ stands (ran.restores reliable) (ran.carried.told reliable) (ran.carried.grows reliable) (ran.carried.whole reliable)
          ran.carried.short,
      (refl, refl),
    )
