use Rattle.std.proofs.Common.{refl}
use Rattle.stream_world.proofs.Worlds.{knows_other}
use Rattle.stream_world.proofs.world.World.learn.Goals as goal

pub returns-clause-stands : goal.returns-clause-stands
returns-clause-stands g c = λ w stands front. knows_other g.S.Store.objects c.args.self.now _ w stands refl refl front
