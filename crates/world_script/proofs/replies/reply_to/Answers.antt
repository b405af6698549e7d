use Rattle.std.proofs.Common.{subst, sym}
use Rattle.log_reading.specs.declared.log_cache.LogCache.{LogCache}
use Rattle.table_jobs.specs.Sessions.{end_view}
use Rattle.table_log.specs.Loads.{IsFront}
use Rattle.lake_script.specs.ReplyView.{is_short_reply}
use Rattle.world_script.proofs.Learnt.{learnt_front}
use Rattle.world_script.proofs.replies.reply_to.Goals as goal

pub returns-clause-stands : goal.returns-clause-stands
returns-clause-stands g c = λ w stands hands.
    let objects = g.S.Store.objects c.args.world.now.store.store in
    let reply = c.reply_learning-reply in
    let front = subst (IsFront objects) (sym c.forget.ensures.known) stands.known in
    let told = subst (λ (k : LogCache). IsFront objects k.loaded) (sym reply.ensures.learnt) (learnt_front objects (end_view c.args.end) (is_short_reply reply.result) _ front hands) in
    c.learn.ensures.stands w (c.forget.ensures.stands w stands)
    (subst (IsFront (g.S.Store.objects c.forget.new.self.store.store)) (sym c.replace.ensures.value)
    (subst (λ st. IsFront (g.S.Store.objects st.store) reply.new.cache.loaded) (sym c.forget.ensures.same.0) told))
