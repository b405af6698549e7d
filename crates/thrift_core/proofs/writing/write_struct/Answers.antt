use Rattle.std.proofs.Common.{ℕ, ◌≤◌, List, length, sym, subst}
use Rattle.std.proofs.lemmas.Result.{IfOk-weaker}
use Rattle.thrift_core.specs.Form.{form_view}
use Rattle.thrift_core.specs.SpellsAs.{SpellsAs}
use Rattle.thrift_values.specs.View.{view}
use Rattle.thrift_core.proofs.Again.{struct_at_again}
use Rattle.thrift_core.proofs.Conditions.{has_form}
use Rattle.thrift_core.proofs.Shortest.{shortest}
use Rattle.thrift_core.proofs.WrittenSpells.{written_spells, struct_written}
use Rattle.thrift_core.proofs.writing.write_struct.Goals as goal

pub returns-clause-spells : goal.returns-clause-spells
returns-clause-spells g c =
    let f = form_view c.args.form.now in
    let t = view c.args.tree.now in
    let h = has_form f t c.requires.ids_rise c.requires.types_named c.requires.sizes_fit c.requires.nothing_skipped in
    IfOk-weaker c.struct_bytes.result _ _ (λ bytes is. struct_written f t bytes.items h c.requires.is_struct is) c.struct_bytes.ensures

pub returns-clause-with_these_types : goal.returns-clause-with_these_types
returns-clause-with_these_types g c =
    let f = form_view c.args.form.now in
    let t = view c.args.tree.now in
    let h = has_form f t c.requires.ids_rise c.requires.types_named c.requires.sizes_fit c.requires.nothing_skipped in
    IfOk-weaker c.struct_bytes.result _ _ (λ bytes is. subst (λ (b : List ℕ). SpellsAs f b t) (sym is) (written_spells f t h)) c.struct_bytes.ensures

pub returns-clause-shortest : goal.returns-clause-shortest
returns-clause-shortest g c =
    let f = form_view c.args.form.now in
    let t = view c.args.tree.now in
    IfOk-weaker c.struct_bytes.result _ _ (λ bytes is other spelled. subst (λ (b : List ℕ). length b ≤ length other) (sym is) (shortest f t other spelled)) c.struct_bytes.ensures

pub returns-clause-read_again : goal.returns-clause-read_again
returns-clause-read_again g c = λ nesting values.
    let f = form_view c.args.form.now in
    let t = view c.args.tree.now in
    let h = has_form f t c.requires.ids_rise c.requires.types_named c.requires.sizes_fit c.requires.nothing_skipped in
    IfOk-weaker c.struct_bytes.result _ _
    (λ bytes is rest. struct_at_again bytes.items t rest (record { spelled = struct_written f t bytes.items h c.requires.is_struct is; nesting = nesting; values = values })) c.struct_bytes.ensures
