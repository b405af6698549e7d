use Rattle.std.proofs.Common.{◌≡◌, ◌++◌, ◌∷◌, [], Ok, string_bytes, sym, ap, ◌∙◌, rules}
use Rattle.json.specs.Token.{key}
use Rattle.json.specs.Tree.{json_tokens, members_tokens}
use Rattle.serde_json.specs.Written.{outline, members_outline}
use Rattle.row_core.specs.Printer.{value_at, members_data, layout_view, layout_views}
use Rattle.row_core.specs.Printing.{leaf_data}
use Rattle.row_core.specs.Rows.{null, values_of}
use Rattle.row_core.specs.Views.{value_view, row_views}
use Rattle.row_core.specs.declared.printer.Layout.{out-Layout}
use Rattle.row_core.specs.declared.value.Value.{the_lemmas}
use Rattle.row_core.specs.declared.value.Value.TheVariants.{Null}
use Rattle.row_core.proofs.PrintedMembers.{value_at-within, value_at-past, place_seen, null_printed, one_written}
use Rattle.row_core.proofs.printer.+write.Goals as goal
use Rattle.row_core.proofs.printer.+write.Goals.{write_members-in-Some-get, write_members-in-None-get}

pub write_members-loop-name-preserved : goal.write_members-loop-name-preserved
write_members-loop-name-preserved t c =
    let old = c.loop-name.out in
    let l = c.in-Some.layout.now in
    let vs = c.args.values.now in
    let name = string_bytes c.in-Some.name.now in
    let place = (out-Layout l).place in
    let m = layout_view l in
    let left = members_outline (members_data (layout_views c.next.new.self) (values_of (row_views vs))) in
    let named : c.key.new.self.tokens ≡ old.tokens ++ key name ∷ [] = search rules in
    let kept : c.key.new.self.before ≡ old.before = search rules in
    let ok : c.match-get.written ≡ Ok tt = search rules in
    let left_was : old.tokens ++ members_tokens (members_outline (members_data (layout_views c.loop-name.name-iterator) (values_of (row_views vs))))
    ≡ old.tokens ++ members_tokens (members_outline (members_data (layout_views ((c.in-Some.name.now, l) ∷ c.next.new.self)) (values_of (row_views vs)))) =
    ap (λ es. old.tokens ++ members_tokens (members_outline (members_data (layout_views es) (values_of (row_views vs))))) c.in-Some.ensures.steps in
    elim c.match-get.branch [
      | write_members-in-Some-get w ↦
          (let v = w.in-Some-get.value.now in
          let written : w.write_value-written.new.out.tokens ≡ c.key.new.self.tokens ++ json_tokens (outline (m.printed (value_view v))) = rw (sym w.written-is ∙ ok) at w.write_value-written.ensures.ok in
          let here : value_view v ≡ value_at m.place (values_of (row_views vs)) =
          sym (ap (λ i. value_at i (values_of (row_views vs))) (sym (place_seen l)) ∙ value_at-within vs place v w.in-Some-get.ensures.lookup.3.0 w.in-Some-get.ensures.lookup.1) in
          rw w.out-is (
            w.write_value-written.ensures.before ∙ kept ∙ c.loop-name.invariant.0,
            one_written old.tokens c.key.new.self.tokens w.write_value-written.new.out.tokens name _ _ left named written (ap m.printed here) ∙ sym left_was ∙ c.loop-name.invariant.1,
          ))
      | write_members-in-None-get w ↦
          (let none : value_view Null ≡ null = search (rules, the_lemmas) in
          let written : w.write_leaf-written.new.out.tokens ≡ c.key.new.self.tokens ++ json_tokens (outline (leaf_data (value_view Null))) = rw (sym w.written-is ∙ ok) at w.write_leaf-written.ensures.ok in
          let here : null ≡ value_at m.place (values_of (row_views vs)) =
          sym (ap (λ i. value_at i (values_of (row_views vs))) (sym (place_seen l)) ∙ value_at-past vs place w.in-None-get.ensures.lookup.3) in
          rw w.out-is (
            w.write_leaf-written.ensures.before ∙ kept ∙ c.loop-name.invariant.0,
            one_written old.tokens c.key.new.self.tokens w.write_leaf-written.new.out.tokens name _ _ left named written (ap leaf_data none ∙ null_printed l ∙ ap m.printed here) ∙ sym left_was ∙ c.loop-name.invariant.1,
          ))
    ]
