use Rattle.std.proofs.Common.{◌≡◌, sym, ◌∙◌, arith, rules, tests}
use Rattle.std.proofs.lemmas.Iterator.{YieldsList-from_slice}
use Rattle.std.proofs.lemmas.Iterator.Search.{position_from_yields_List}
use Rattle.std.proofs.lemmas.Bool.Decides.{nat_tests}
use Rattle.schema_tree.specs.Primitives.{decimal_in, decimal_type}
use Rattle.schema_tree.proofs.Decimals.{is_comma, place_of_comma, no_comma, bad_precision, bad_bracket, bad_scale, both_numbers}
use Rattle.schema_tree.proofs.primitive.decimal_in.Goals as goal

pub returns-in_err-comma : goal.returns-in_err-comma
returns-in_err-comma c =
    let text = c.args.text.now in
    let at : c.position.result ≡ place_of_comma text = position_from_yields_List is_comma _ _ c.position.result c.position.ensures.ran (YieldsList-from_slice text c.iter.ensures.rest) (λ x b q k. search (rules, tests)) in
    c.from_residual.ensures ∙ no_comma text (sym at ∙ c.in_err-comma.was)

pub returns-in_err-precision : goal.returns-in_err-precision
returns-in_err-precision c =
    let text = c.args.text.now in
    let at : c.position.result ≡ place_of_comma text = position_from_yields_List is_comma _ _ c.position.result c.position.ensures.ran (YieldsList-from_slice text c.iter.ensures.rest) (λ x b q k. search (rules, tests)) in
    c.from_residual-in_err-precision.ensures ∙ bad_precision text c.in_ok-comma.comma (sym at ∙ c.in_ok-comma.was) c.in_err-precision.ensures

pub returns-then-bracket-ne41 : goal.returns-then-bracket-ne41
returns-then-bracket-ne41 c =
    let text = c.args.text.now in
    let at : c.position.result ≡ place_of_comma text = position_from_yields_List is_comma _ _ c.position.result c.position.ensures.ran (YieldsList-from_slice text c.iter.ensures.rest) (λ x b q k. search (rules, tests)) in
    bad_bracket text c.in_ok-bracket.inside.now c.in_ok-comma.comma c.in_ok-bracket.bracket.now (sym at ∙ c.in_ok-comma.was) c.in_ok-bracket.ensures.cases.0 c.if-bracket-ne41.true

pub returns-in_err-scale : goal.returns-in_err-scale
returns-in_err-scale c =
    let text = c.args.text.now in
    let at : c.position.result ≡ place_of_comma text = position_from_yields_List is_comma _ _ c.position.result c.position.ensures.ran (YieldsList-from_slice text c.iter.ensures.rest) (λ x b q k. search (rules, tests)) in
    c.from_residual-in_err-scale.ensures ∙ bad_scale text c.in_ok-bracket.inside.now c.in_ok-comma.comma c.in_ok-bracket.bracket.now (sym at ∙ c.in_ok-comma.was) c.in_ok-bracket.ensures.cases.0 c.if-bracket-ne41.false c.in_err-scale.ensures

pub returns-then-scale-precision : goal.returns-then-scale-precision
returns-then-scale-precision c =
    let text = c.args.text.now in
    let at : c.position.result ≡ place_of_comma text = position_from_yields_List is_comma _ _ c.position.result c.position.ensures.ran (YieldsList-from_slice text c.iter.ensures.rest) (λ x b q k. search (rules, tests)) in
    let e : decimal_in text ≡ decimal_type c.in_ok-precision.precision c.in_ok-scale.scale = both_numbers text c.in_ok-bracket.inside.now c.in_ok-comma.comma c.in_ok-bracket.bracket.now c.in_ok-precision.precision c.in_ok-scale.scale (sym at ∙ c.in_ok-comma.was) c.in_ok-bracket.ensures.cases.0 c.if-bracket-ne41.false c.in_ok-precision.ensures c.in_ok-scale.ensures in
    rw e (grind (arith, nat_tests))

pub returns-else-precision-ge1 : goal.returns-else-precision-ge1
returns-else-precision-ge1 c =
    let text = c.args.text.now in
    let at : c.position.result ≡ place_of_comma text = position_from_yields_List is_comma _ _ c.position.result c.position.ensures.ran (YieldsList-from_slice text c.iter.ensures.rest) (λ x b q k. search (rules, tests)) in
    let e : decimal_in text ≡ decimal_type c.in_ok-precision.precision c.in_ok-scale.scale = both_numbers text c.in_ok-bracket.inside.now c.in_ok-comma.comma c.in_ok-bracket.bracket.now c.in_ok-precision.precision c.in_ok-scale.scale (sym at ∙ c.in_ok-comma.was) c.in_ok-bracket.ensures.cases.0 c.if-bracket-ne41.false c.in_ok-precision.ensures c.in_ok-scale.ensures in
    rw e (grind (arith, nat_tests, c.else-precision-ge1.either))
