use Rattle.std.proofs.Common.{sym, ◌∙◌}
use Rattle.thrift_core.specs.Form.{form_view}
use Rattle.thrift_values.specs.View.{view}
use Rattle.thrift_core.proofs.Conditions.{has_form, conditions}
use Rattle.thrift_core.proofs.Tested.{tested, passes}
use Rattle.thrift_core.proofs.writable.is_writable.Goals as goal

pub returns-clause-ids_rise : goal.returns-clause-ids_rise
returns-clause-ids_rise g c = λ yes.
    let f = form_view c.args.form.now in
    let t = view c.args.tree.now in
    (conditions f t (tested f t (sym c.is_value.ensures ∙ yes))).ids

pub returns-clause-types_named : goal.returns-clause-types_named
returns-clause-types_named g c = λ yes.
    let f = form_view c.args.form.now in
    let t = view c.args.tree.now in
    (conditions f t (tested f t (sym c.is_value.ensures ∙ yes))).types

pub returns-clause-sizes_fit : goal.returns-clause-sizes_fit
returns-clause-sizes_fit g c = λ yes.
    let f = form_view c.args.form.now in
    let t = view c.args.tree.now in
    (conditions f t (tested f t (sym c.is_value.ensures ∙ yes))).sizes

pub returns-clause-nothing_skipped : goal.returns-clause-nothing_skipped
returns-clause-nothing_skipped g c = λ yes.
    let f = form_view c.args.form.now in
    let t = view c.args.tree.now in
    (conditions f t (tested f t (sym c.is_value.ensures ∙ yes))).kept

pub returns-clause-only : goal.returns-clause-only
returns-clause-only g c = λ ids types sizes kept.
    let f = form_view c.args.form.now in
    let t = view c.args.tree.now in
    c.is_value.ensures ∙ passes f t (has_form f t ids types sizes kept)
