use Rattle.std.proofs.Common.{refl, subst, sym}
use Rattle.store_core.specs.Objects.{Objects}
use Rattle.table_log.specs.Loads.{IsFront}
use Rattle.stream_world.proofs.Worlds.{knows_other}
use Rattle.stream_world.proofs.world.World.forget.Goals as goal

pub returns-clause-stands : goal.returns-clause-stands
returns-clause-stands g c = λ w stands.
    let objects : Objects = g.S.Store.objects c.args.self.now.store.store in
    knows_other g.S.Store.objects c.args.self.now _ w stands refl refl (subst (IsFront objects) (sym c.replace.ensures.after) (c.new-nothing.ensures.front objects))
