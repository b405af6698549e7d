use Rattle.std.proofs.Common.{◌≡◌, ◌∷◌, ◌+◌, w16, to_z, of_z, ap, ◌∙◌, add-one, drop, rules, get_or, pos, ℤ, drop-cons}
use Rattle.std.proofs.lemmas.Bool.{false≢true}
use Rattle.std.proofs.lemmas.Int.{to_z-of_z}
use Rattle.thrift_core.specs.Form.{field_form_views, form_at}
use Rattle.thrift_core.specs.declared.form.Form as forms
use Rattle.thrift_core.specs.declared.form.Form.{the_lemmas}
use Rattle.thrift_core.specs.declared.form.FieldForm.{roll-FieldForm}
use Rattle.thrift_core.proofs.FormsFound.{form_here, form_not_here, form_nowhere}
use Rattle.thrift_core.proofs.writing.find_form.Goals as goal

pub loop-field-preserved : goal.loop-field-preserved
loop-field-preserved c =
    let fs = c.args.forms.now in
    let i = c.loop-field.field-index in
    let f = get_or fs i (roll-FieldForm (record { id = pos 0; form = forms.Bool })) in
    let id = to_z w16 (of_z w16 c.args.id) in
    let here : drop i fs ≡ f ∷ drop (i + 1) fs = rw add-one (drop-cons fs i (roll-FieldForm (record { id = pos 0; form = forms.Bool })) c.loop-field-test.true) in
    form_not_here id fs i f (form_at id (field_form_views fs)) here (λ e. absurd (false≢true (c.if-is_field.ensures.1 e))) c.loop-field.invariant

pub returns-then-is_field : goal.returns-then-is_field
returns-then-is_field c =
    let fs = c.args.forms.now in
    let i = c.loop-field.field-index in
    let f = get_or fs i (roll-FieldForm (record { id = pos 0; form = forms.Bool })) in
    let id = to_z w16 (of_z w16 c.args.id) in
    let fits : id ≡ c.args.id = to_z-of_z w16 c.args.id c.ranges.id in
    let here : drop i fs ≡ f ∷ drop (i + 1) fs = rw add-one (drop-cons fs i (roll-FieldForm (record { id = pos 0; form = forms.Bool })) c.loop-field-test.true) in
    let found = form_here id fs i f (form_at id (field_form_views fs)) here (c.is_field.ensures.0 (search rules)) c.loop-field.invariant in
    search (rules, the_lemmas) ∙ found ∙ ap (λ (z : ℤ). form_at z (field_form_views fs)) fits

pub returns : goal.returns
returns c =
    let fs = c.args.forms.now in
    let i = c.loop-field.field-index in
    let id = to_z w16 (of_z w16 c.args.id) in
    let fits : id ≡ c.args.id = to_z-of_z w16 c.args.id c.ranges.id in
    form_nowhere id fs i (form_at id (field_form_views fs)) c.loop-field-test.false c.loop-field.invariant ∙ ap (λ (z : ℤ). form_at z (field_form_views fs)) fits
