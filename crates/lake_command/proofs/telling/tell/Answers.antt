use Rattle.std.proofs.Common.{refl, sym, ◌∙◌}
use Rattle.lake_words.specs.Asked.{work_view}
use Rattle.lake_command.proofs.EndingLemmas.{refusal_told}
use Rattle.lake_command.proofs.telling.tell.Goals as goal

pub returns-clause-ended : goal.returns-clause-ended
returns-clause-ended g c =
    refusal_told g.W.Write.contents g.E.Write.contents (work_view c.args.job) c.args.rows c.args.reply.now c.args.output.now c.give.new.output c.args.err.now c.explain_reply.new.err c.hint_refusal.new.err _
    (sym c.if-not-is_refused.false ∙ c.is_refused.ensures) c.in_default.ensures.told c.explain_reply.ensures c.hint_refusal.ensures refl c.is_short-is_short.ensures
