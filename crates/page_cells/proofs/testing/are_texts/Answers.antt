use Rattle.std.proofs.Common.{rules, ◌≡◌, true, false}
use Rattle.page_cells.specs.Texts.{is_proper}
use Rattle.row_core.specs.Rows.{text}
use Rattle.page_cells.specs.Plain.{values_at}
use Rattle.page_cells.specs.declared.types.LeafType.TheVariants.{String}
use Rattle.page_cells.proofs.CodeValues.{text_value, text_fails, test_goes_on, test_fails, test_stops, test_done}
use Rattle.page_cells.proofs.testing.are_texts.Goals as goal

pub returns-in_default : goal.returns-in_default
returns-in_default c values rest is =
    absurd (test_stops String is_proper c.args.count c.loop-value._value c.loop-value.cursor c.in_default.field-0 values
    rest (values_at String c.args.count c.args.cursor.now) c.loop-value-test.true
    (text_fails c.loop-value.cursor c.in_default.field-0 c.in_default.ensures) c.loop-value.invariant is)

pub returns-then-not-is_text : goal.returns-then-not-is_text
returns-then-not-is_text c values rest is =
    let fails : is_proper (text c.in-Ok.content.now) ≡ false = search rules in
    test_fails String is_proper c.args.count c.loop-value._value c.loop-value.cursor c.content.new.cursor
    (text c.in-Ok.content.now) values rest (values_at String c.args.count c.args.cursor.now) c.loop-value-test.true
    (text_value c.loop-value.cursor c.content.new.cursor c.in-Ok.content.now c.in-Ok.ensures) fails
    c.loop-value.invariant is

pub loop-value-preserved : goal.loop-value-preserved
loop-value-preserved c =
    let passes : is_proper (text c.in-Ok.content.now) ≡ true = search rules in
    test_goes_on String is_proper c.args.count c.loop-value._value c.loop-value.cursor c.content.new.cursor
    (text c.in-Ok.content.now) _ c.loop-value-test.true
    (text_value c.loop-value.cursor c.content.new.cursor c.in-Ok.content.now c.in-Ok.ensures) passes
    c.loop-value.invariant

pub returns : goal.returns
returns c values rest is = test_done String is_proper c.args.count c.loop-value._value c.loop-value.cursor values rest
    (values_at String c.args.count c.args.cursor.now) c.loop-value-test.false c.loop-value.invariant is
