use Rattle.std.proofs.Common.{◌∙◌, refl, sym}
use Rattle.world_script.proofs.Scening.{named_done, named_gone, named_refused, named_unknown}
use Rattle.world_script.proofs.named.do_named.Goals as goal

pub returns-in_default-clause-comes : goal.returns-in_default-clause-comes
returns-in_default-clause-comes g c = λ reliable s stands. named_unknown g.S.Store.objects c.args.scene.now s stands c.args.name.now c.args.deed (sym c.part_of.ensures ∙ c.in_default.is)

pub returns-then-part-clause-comes : goal.returns-then-part-clause-comes
returns-then-part-clause-comes g c = λ reliable s stands.
    rw (c.refusal_told.ensures.told, c.refusal_told.ensures.short) (named_refused g.S.Store.objects c.args.scene.now s stands c.args.name.now c.args.deed c.in-Some.part (sym c.part_of.ensures ∙ c.in-Some.is) _ c.if-part.true refl c.set_refused.ensures.set c.set_refused.ensures.others refl refl refl refl)

pub returns-then-not-has_session-clause-comes : goal.returns-then-not-has_session-clause-comes
returns-then-not-has_session-clause-comes g c = λ reliable s stands.
    named_gone g.S.Store.objects c.args.scene.now s stands c.args.name.now c.args.deed c.in-Some.part (sym c.part_of.ensures ∙ c.in-Some.is) c.if-part.false
    (c.has_session.ensures.gone c.if-not-has_session.true s.world stands.world_stands)

pub returns-clause-comes : goal.returns-clause-comes
returns-clause-comes g c = λ reliable s stands.
    let alive = c.has_session.ensures.there c.if-not-has_session.false s.world stands.world_stands in
    named_done g.S.Store.objects c.args.scene.now s stands c.args.name.now c.args.deed c.in-Some.part (sym c.part_of.ensures ∙ c.in-Some.is) _ c.do_deed-outcome.result _ _ c.if-part.false alive
    (c.do_deed-outcome.ensures.came reliable s.world stands.world_stands alive) c.reply_in.ensures.told c.reply_in.ensures.short refl refl refl refl refl
