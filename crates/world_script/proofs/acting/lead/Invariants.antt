use Rattle.std.proofs.Common.{◌≡◌}
use Rattle.stream_world.specs.Worlds.{World}
use Rattle.stream_world.specs.Left.{calls_left}
use Rattle.stream_world.specs.Standing.{WorldStands, slot_at}
use Rattle.world_script.specs.Acting.{hand_at, next_at}
use Rattle.world_script.specs.declared.acting.Next.TheVariants.{Nothing}
use Rattle.world_script.proofs.Leading.{LedOn}
use Rattle.world_script.proofs.acting.lead.Given as goal

abbrev pub invariant-steps : goal.invariant-steps
invariant-steps g l = record {
  led : g.S.Store.is_reliable l.fn.world.store.store → (w : World) → WorldStands g.S.Store.objects l.fn.world w → (next_at (hand_at w l.fn.actor) ≡ Nothing → ⊥) → LedOn g.S.Store.objects l.fn.actor l.fn.halts_at_commit w l.world;
  reliable : g.S.Store.is_reliable l.fn.world.store.store → g.S.Store.is_reliable l.world.store.store;
}

abbrev pub decreases-steps : goal.decreases-steps
decreases-steps g l = calls_left (slot_at l.world l.fn.actor)
