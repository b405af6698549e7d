use Rattle.std.proofs.Common.{ℕ, ◌+◌, length, rules, tests, option_map, sym, ap, ◌∙◌}
use Rattle.std.specs.Slice.Iter.{split_rest, split_done, split_callee}
use Rattle.std.proofs.lemmas.Iterator.Splits.{YieldsList-from_slice_split}
use Rattle.std.proofs.lemmas.Iterator.Consumers.{YieldsList-turn, YieldsList-end}
use Rattle.std.proofs.lemmas.List.{length_push}
use Rattle.json_text.specs.Rows.{text_data}
use Rattle.json_lines.proofs.Objects.{parts_of, lines_are_parts, reads_on, text_more, all_read, all_texts, first_bad}
use Rattle.json_lines.proofs.objects_in.Goals as goal

pub returns-in_default-clause-fault : goal.returns-in_default-clause-fault
returns-in_default-clause-fault c =
    let some = sym c.is_empty.ensures ∙ c.if-is_empty.false in
    let started = c.into_iter-line-iterator.ensures.into_iter_gives in
    let all = YieldsList-from_slice_split _ _ _ (ap split_rest started ∙ c.split-line-items.ensures.rest ∙ c.without_last_newline.ensures) (ap split_done started ∙ c.split-line-items.ensures.done) (ap split_callee started ∙ c.split-line-items.ensures.closure) (λ x r q k. search (rules, tests)) in
    let t = YieldsList-turn all c.loop-line.yielded _ c.loop-line.yielded_by _ _ c.in-Some.line c.in-Some.is c.next.ensures.steps in
    first_bad c.args.text.now c.loop-line.objects.items (length c.loop-line.yielded) c.in-Some.line.now (c.loop-line.number + 1) some t.0 t.1 (ap (option_map (λ text. text_data text.now)) (sym c.in_default.is) ∙ c.in_ok-object.ensures.object) c.loop-line.invariant.read (ap (λ (n : ℕ). n + 1) c.loop-line.invariant.counted)

pub loop-line-preserved : goal.loop-line-preserved
loop-line-preserved c =
    let started = c.into_iter-line-iterator.ensures.into_iter_gives in
    let all = YieldsList-from_slice_split _ _ _ (ap split_rest started ∙ c.split-line-items.ensures.rest ∙ c.without_last_newline.ensures) (ap split_done started ∙ c.split-line-items.ensures.done) (ap split_callee started ∙ c.split-line-items.ensures.closure) (λ x r q k. search (rules, tests)) in
    let t = YieldsList-turn all c.loop-line.yielded _ c.loop-line.yielded_by _ _ c.in-Some.line c.in-Some.is c.next.ensures.steps in
    let one = length_push c.loop-line.yielded c.in-Some.line in
    record {
      counted = ap (λ (n : ℕ). n + 1) c.loop-line.invariant.counted ∙ sym one;
      texts = rw (one, c.in_ok-push.ensures.items) (text_more (parts_of c.args.text.now) c.loop-line.objects.items (length c.loop-line.yielded) c.in-Some.line.now c.in-Some-2.object t.0 t.1 (rw c.in-Some-2.is at c.in_ok-object.ensures.line) c.loop-line.invariant.texts);
      read = rw (one, c.in_ok-push.ensures.items) (reads_on (parts_of c.args.text.now) c.loop-line.objects.items (length c.loop-line.yielded) c.in-Some.line.now c.in-Some-2.object t.0 t.1 (ap (option_map (λ text. text_data text.now)) (sym c.in-Some-2.is) ∙ c.in_ok-object.ensures.object) c.loop-line.invariant.read);
    }

pub returns-clause-objects : goal.returns-clause-objects
returns-clause-objects c =
    let some = sym c.is_empty.ensures ∙ c.if-is_empty.false in
    let started = c.into_iter-line-iterator.ensures.into_iter_gives in
    let all = YieldsList-from_slice_split _ _ _ (ap split_rest started ∙ c.split-line-items.ensures.rest ∙ c.without_last_newline.ensures) (ap split_done started ∙ c.split-line-items.ensures.done) (ap split_callee started ∙ c.split-line-items.ensures.closure) (λ x r q k. search (rules, tests)) in
    let t = YieldsList-end all c.loop-line.yielded _ c.loop-line.yielded_by _ _ c.in-None.is c.next.ensures.steps in
    rw (lines_are_parts c.args.text.now some) (all_read (parts_of c.args.text.now) c.loop-line.objects.items (length c.loop-line.yielded) t.1 c.loop-line.invariant.read)

pub returns-clause-texts : goal.returns-clause-texts
returns-clause-texts c =
    let some = sym c.is_empty.ensures ∙ c.if-is_empty.false in
    let started = c.into_iter-line-iterator.ensures.into_iter_gives in
    let all = YieldsList-from_slice_split _ _ _ (ap split_rest started ∙ c.split-line-items.ensures.rest ∙ c.without_last_newline.ensures) (ap split_done started ∙ c.split-line-items.ensures.done) (ap split_callee started ∙ c.split-line-items.ensures.closure) (λ x r q k. search (rules, tests)) in
    let t = YieldsList-end all c.loop-line.yielded _ c.loop-line.yielded_by _ _ c.in-None.is c.next.ensures.steps in
    rw (lines_are_parts c.args.text.now some) (all_texts (parts_of c.args.text.now) c.loop-line.objects.items (length c.loop-line.yielded) t.1 c.loop-line.invariant.texts)
