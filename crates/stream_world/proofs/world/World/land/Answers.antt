use Rattle.std.proofs.Common.{◌∙◌, ◌||◌, Bool, ap, refl}
use Rattle.stream_world.proofs.Worlds.{landed_as}
use Rattle.stream_world.proofs.world.World.land.Goals as goal

pub returns-clause-happens : goal.returns-clause-happens
returns-clause-happens g c = λ reliable w stands.
    let s = g.S.Store in
    landed_as s.objects c.args.self.now _ w stands s.in_flight c.args.place c.land-landed.result refl refl c.land-landed.ensures.nothing c.land-landed.ensures.landed (λ name bytes is. c.land-landed.ensures.told name bytes is reliable)
    (c.land-landed.ensures.never_lost reliable) c.land-landed.ensures.kept.sent (c.either-self.ensures ∙ ap (λ (b : Bool). b || c.args.self.now.is_short) c.is_out_of_memory.ensures)
