use Rattle.std.proofs.Common.{arith, ◌≡◌, refl, rules}
use Rattle.lake_script.proofs.EndedLemmas.{ends_text}
use Rattle.lake_script.proofs.StoreAnswers.{first}
use Rattle.lake_script.proofs.StoreRuns.{is_text_run}
use Rattle.lake_script.proofs.engine.run_text.Goals as goal

pub returns-clause-runs : goal.returns-clause-runs
returns-clause-runs g c = λ reliable.
    let lines = c.answer_lines-ended in
    let same : lines.new.interpreter.store.now ≡ c.store-1.given.0 = search rules in
    let start = first (g.S.Store.objects c.args.store.now) c.args.use_checkpoints in
    let answers = lines.ensures.answers reliable start (refl, refl) in
    let ran = is_text_run _ _ c.args.text.now _ _ lines.new.is_short _ _ lines.result answers.answered answers.front c.of.result c.of.ensures.end c.of.ensures.short in
    rw (← same) ran

pub returns-clause-reliable : goal.returns-clause-reliable
returns-clause-reliable g c = λ reliable.
    let same : c.answer_lines-ended.new.interpreter.store.now ≡ c.store-1.given.0 = search rules in
    rw (← same) (c.answer_lines-ended.ensures.reliable reliable)

pub returns-clause-ends : goal.returns-clause-ends
returns-clause-ends g c = ends_text g.W.Write.contents c.args.text.now c.answer_lines-ended.result c.answer_lines-ended.new.is_short c.of.result c.args.output.now c.answer_lines-ended.new.output c.of.ensures.end c.of.ensures.short c.answer_lines-ended.ensures.leaves

pub answer_lines-ended-requires-clause-ready : goal.answer_lines-ended-requires-clause-ready
answer_lines-ended-requires-clause-ready g c = (omega arith, c.new-cache.ensures.cache (g.S.Store.objects c.args.store.now))
