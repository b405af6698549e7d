use Rattle.std.proofs.Common.{◌≡◌, ◌∙◌, Option, None, Some, refl, subst, sym, ap, IsSome}
use Rattle.std.specs.BTreeMap.{get}
use Rattle.std.specs.Option.{option_copied_mut}
use Rattle.std.specs.Ordering.{nat_cmp}
use Rattle.stream_world.specs.declared.actor.Actor as code
use Rattle.stream_world.proofs.Worlds.{gone, was_gone}
use Rattle.stream_world.proofs.world.World.die.Goals as goal

pub returns-in-Some-clause-happens : goal.returns-in-Some-clause-happens
returns-in-Some-clause-happens g c = λ w stands.
    let s = g.S.Store in
    let found : get nat_cmp c.args.self.now.actors c.args.actor ≡ Some c.in-Some.slot.now = sym c.get_mut.ensures.value ∙ ap option_copied_mut c.in-Some.is in
    let there : IsSome (get nat_cmp c.args.self.now.actors c.args.actor) = subst (λ (o : Option (Option code.Actor)). IsSome o) (sym found) refl in
    gone s.objects c.args.self.now _ w stands c.args.actor refl ((c.get_mut.follows.holds None).3 there) refl refl

pub returns-in_default-clause-happens : goal.returns-in_default-clause-happens
returns-in_default-clause-happens g c = λ w stands.
    let s = g.S.Store in
    let nowhere : get nat_cmp c.args.self.now.actors c.args.actor ≡ None = sym c.get_mut.ensures.value ∙ ap option_copied_mut c.in_default.is in
    was_gone s.objects c.args.self.now _ w stands c.args.actor nowhere refl c.get_mut.follows.holds-at-none refl refl
