use Rattle.std.proofs.Common.{◌≡◌, ◌∙◌, ◌||◌, Bool, Option, None, Some, refl, subst, sym, ap, IsSome}
use Rattle.std.specs.BTreeMap.{get}
use Rattle.std.specs.Option.{option_copied_mut}
use Rattle.std.specs.Ordering.{nat_cmp}
use Rattle.stream_model.specs.Events.{act}
use Rattle.stream_world.specs.EventViews.{how_view}
use Rattle.stream_world.specs.Standing.{SlotStands}
use Rattle.stream_world.specs.declared.actor.Actor as code
use Rattle.stream_world.proofs.Acted.{nobody_acted}
use Rattle.stream_world.proofs.OverCalls.{met_nowhere, met_there}
use Rattle.stream_world.proofs.Worlds.{either_still, kept_nowhere, kept_there, unwritten, wrote}
use Rattle.stream_world.proofs.world.World.act.Goals as goal

pub returns-in-Some-clause-happens : goal.returns-in-Some-clause-happens
returns-in-Some-clause-happens g c = λ reliable w stands.
    let s = g.S.Store in
    let found : get nat_cmp c.args.self.now.actors c.args.actor ≡ Some c.in-Some.slot.now = sym c.get_mut.ensures.value ∙ ap option_copied_mut c.in-Some.is in
    let there : IsSome (get nat_cmp c.args.self.now.actors c.args.actor) = subst (λ (o : Option (Option code.Actor)). IsSome o) (sym found) refl in
    let acts = c.act-is_out.ensures.acts reliable w c.args.actor stands.objects stands.flight (subst (λ (o : Option code.Actor). SlotStands o (w.actors c.args.actor)) (kept_there c.args.self.now.actors c.args.actor c.in-Some.slot.now found) (stands.actors c.args.actor)) in
    wrote s.objects c.args.self.now _ w stands (act c.args.actor (how_view c.args.how)) c.args.actor None c.act-is_out.new.slot ((c.get_mut.follows.holds c.act-is_out.new.slot).3 there) refl tt acts.became
    (c.either-self.ensures ∙ ap (λ (b : Bool). b || c.args.self.now.is_short) acts.out_so) (λ is. acts.asked (acts.out_so ∙ is))

pub returns-in_default-clause-happens : goal.returns-in_default-clause-happens
returns-in_default-clause-happens g c = λ reliable w stands.
    let s = g.S.Store in
    let nowhere : get nat_cmp c.args.self.now.actors c.args.actor ≡ None = sym c.get_mut.ensures.value ∙ ap option_copied_mut c.in_default.is in
    let acts = nobody_acted w c.args.actor (how_view c.args.how) (subst (λ (o : Option code.Actor). SlotStands o (w.actors c.args.actor)) (kept_nowhere c.args.self.now.actors c.args.actor nowhere) (stands.actors c.args.actor)) in
    unwritten s.objects c.args.self.now _ w stands (act c.args.actor (how_view c.args.how)) c.args.actor None nowhere refl c.get_mut.follows.holds-at-none refl tt acts.became
    (ap (λ (b : Bool). b || c.args.self.now.is_short) acts.out_so) (λ is. acts.asked (acts.out_so ∙ is))

-- ---- over any store

pub returns-in-Some-clause-over : goal.returns-in-Some-clause-over
returns-in-Some-clause-over g c =
    let found : get nat_cmp c.args.self.now.actors c.args.actor ≡ Some c.in-Some.slot.now = sym c.get_mut.ensures.value ∙ ap option_copied_mut c.in-Some.is in
    let there : IsSome (get nat_cmp c.args.self.now.actors c.args.actor) = subst (λ (o : Option (Option code.Actor)). IsSome o) (sym found) refl in
    met_there _ (how_view c.args.how) c.args.actor c.args.self.now _ (either_still c.act-is_out.result c.args.self.now.is_short c.either-self.result c.either-self.ensures) c.in-Some.slot.now c.act-is_out.new.slot found ((c.get_mut.follows.holds c.act-is_out.new.slot).3 there)
    c.act-is_out.ensures.over

pub returns-in_default-clause-over : goal.returns-in_default-clause-over
returns-in_default-clause-over g c =
    let nowhere : get nat_cmp c.args.self.now.actors c.args.actor ≡ None = sym c.get_mut.ensures.value ∙ ap option_copied_mut c.in_default.is in
    met_nowhere _ (how_view c.args.how) c.args.actor c.args.self.now _ (λ is. is) nowhere refl c.get_mut.follows.holds-at-none
