use Rattle.std.proofs.Common.{◌≡◌, ◌+◌, true, false, bytes_eq, drop, refl, ap, sym, ◌∙◌, arith}
use Rattle.std.proofs.lemmas.Bool.{false≢true}
use Rattle.std.proofs.lemmas.Slice.Eq.{bytes_eq-Decides}
use Rattle.schema_tree.specs.View.{field_view, field_views}
use Rattle.row_core.specs.InOrder.{field_names, member_names}
use Rattle.row_core.proofs.Fields.{name_seen, next_seen}
use Rattle.row_core.proofs.InOrder.{not_same, as_many, next_name, none_left, next_same, next_differs}
use Rattle.row_core.proofs.Truths.{not_true, not_false}
use Rattle.row_core.proofs.reading.stands_in_order.Goals as goal

pub returns-then-fields-members : goal.returns-then-fields-members
returns-then-fields-members g c = not_same (λ e. c.if-fields-members.true (sym (as_many c.args.fields.now c.args.members.now e)))

pub returns-then-ne : goal.returns-then-ne
returns-then-ne g c =
    let fs = c.args.fields.now in
    let ms = c.args.members.now in
    let i = c.loop-i.i in
    let f = c.index-fields-i.result in
    let m = c.index-members-i.result in
    let name = c.as_str.result.now in
    let other : bytes_eq name m.0.now ≡ false = ap (λ x. bytes_eq name x.0.now) c.index-members-i.is ∙ not_true _ (sym c.ne.ensures ∙ c.if-ne.true) in
    let apart = λ (e : m.0.now ≡ (field_view f).name). false≢true (sym other ∙ (bytes_eq-Decides name m.0.now).1 (c.as_str.ensures.value ∙ name_seen f ∙ sym e)) in
    not_same (λ e. next_differs (member_names (drop i ms)) (member_names (drop (i + 1) ms)) (field_names (field_views (drop i fs))) (field_names (field_views (drop (i + 1) fs))) m.0.now (field_view f).name
    (next_seen (λ m. m.0.now) ms i m (omega arith) c.index-members-i.is) (next_name fs i f c.loop-i-test.true c.index-fields-i.is) apart (c.loop-i.invariant.1 e))

pub loop-i-preserved : goal.loop-i-preserved
loop-i-preserved g c =
    let fs = c.args.fields.now in
    let ms = c.args.members.now in
    let i = c.loop-i.i in
    let f = c.index-fields-i.result in
    let m = c.index-members-i.result in
    let name = c.as_str.result.now in
    let is : bytes_eq name m.0.now ≡ true = ap (λ x. bytes_eq name x.0.now) c.index-members-i.is ∙ not_false _ (sym c.ne.ensures ∙ c.if-ne.false) in
    let same : m.0.now ≡ (field_view f).name = sym ((bytes_eq-Decides name m.0.now).0 is) ∙ (c.as_str.ensures.value ∙ name_seen f) in
    let step = next_same (member_names (drop i ms)) (member_names (drop (i + 1) ms)) (field_names (field_views (drop i fs))) (field_names (field_views (drop (i + 1) fs))) m.0.now (field_view f).name
    (next_seen (λ m. m.0.now) ms i m (omega arith) c.index-members-i.is) (next_name fs i f c.loop-i-test.true c.index-fields-i.is) same in
    (λ e. c.loop-i.invariant.0 (step.1 e), λ e. step.0 (c.loop-i.invariant.1 e))

pub returns : goal.returns
returns g c =
    let fs = c.args.fields.now in
    let ms = c.args.members.now in
    let i = c.loop-i.i in
    let none = none_left fs ms i (omega arith) (omega arith) in
    (λ e. c.loop-i.invariant.0 none, λ e. refl)
