use Rattle.std.proofs.Common.{length, rules, tests, sym, ap, ◌∙◌}
use Rattle.std.specs.Slice.Iter.{split_rest, split_done, split_callee}
use Rattle.std.proofs.lemmas.Iterator.Splits.{YieldsList-from_slice_split}
use Rattle.std.proofs.lemmas.Iterator.Consumers.{YieldsList-turn, YieldsList-end}
use Rattle.std.proofs.lemmas.List.{length_push}
use Rattle.delta_actions.specs.Commit.{lines_of}
use Rattle.lake_command.specs.Status.{is_refusal}
use Rattle.lake_command.proofs.LineLemmas.{any_all, any_front, any_more}
use Rattle.lake_command.proofs.telling.has_refusal.Goals as goal

pub returns-then-is_refusal : goal.returns-then-is_refusal
returns-then-is_refusal c =
    let started = c.into_iter-line-iterator.ensures.into_iter_gives in
    let all = YieldsList-from_slice_split _ _ _ (ap split_rest started ∙ c.split-line-items.ensures.rest) (ap split_done started ∙ c.split-line-items.ensures.done) (ap split_callee started ∙ c.split-line-items.ensures.closure) (λ x r q k. search (rules, tests)) in
    let t = YieldsList-turn all c.loop-line.yielded _ c.loop-line.yielded_by _ _ c.in-Some.line c.in-Some.is c.next.ensures.steps in
    let more = any_more is_refusal (lines_of c.args.text.now) (length c.loop-line.yielded) c.in-Some.line.now t.0 t.1 c.loop-line.invariant.none in
    sym (any_front is_refusal (lines_of c.args.text.now) _ (more ∙ sym c.is_refusal.ensures ∙ c.if-is_refusal.true))

pub loop-line-preserved : goal.loop-line-preserved
loop-line-preserved c =
    let started = c.into_iter-line-iterator.ensures.into_iter_gives in
    let all = YieldsList-from_slice_split _ _ _ (ap split_rest started ∙ c.split-line-items.ensures.rest) (ap split_done started ∙ c.split-line-items.ensures.done) (ap split_callee started ∙ c.split-line-items.ensures.closure) (λ x r q k. search (rules, tests)) in
    let t = YieldsList-turn all c.loop-line.yielded _ c.loop-line.yielded_by _ _ c.in-Some.line c.in-Some.is c.next.ensures.steps in
    let one = length_push c.loop-line.yielded c.in-Some.line in
    record {
      none = rw one (any_more is_refusal (lines_of c.args.text.now) (length c.loop-line.yielded) c.in-Some.line.now t.0 t.1 c.loop-line.invariant.none
          ∙ sym c.is_refusal.ensures ∙ c.if-is_refusal.false);
    }

pub returns : goal.returns
returns c =
    let started = c.into_iter-line-iterator.ensures.into_iter_gives in
    let all = YieldsList-from_slice_split _ _ _ (ap split_rest started ∙ c.split-line-items.ensures.rest) (ap split_done started ∙ c.split-line-items.ensures.done) (ap split_callee started ∙ c.split-line-items.ensures.closure) (λ x r q k. search (rules, tests)) in
    let t = YieldsList-end all c.loop-line.yielded _ c.loop-line.yielded_by _ _ c.in-None.is c.next.ensures.steps in
    sym (any_all is_refusal (lines_of c.args.text.now) (length c.loop-line.yielded) t.1 c.loop-line.invariant.none)
