use Rattle.std.proofs.Common.{rules, ◌≡◌, w32, to_z, of_z, true, false, ◌∙◌}
use Rattle.std.proofs.lemmas.Int.{to_z-of_z}
use Rattle.row_core.specs.Rows.{whole}
use Rattle.page_cells.specs.Internal.{is_between}
use Rattle.page_cells.specs.Plain.{values_at}
use Rattle.page_cells.proofs.CodeValues.{int32_value, number_value, number_fails, test_goes_on, test_fails, test_stops, test_done}
use Rattle.page_cells.proofs.testing.are_within.Goals as goal

pub returns-in_default : goal.returns-in_default
returns-in_default c type physical values rest is =
    let least : to_z w32 (of_z w32 c.args.least) ≡ c.args.least = to_z-of_z w32 c.args.least (search rules) in
    let most : to_z w32 (of_z w32 c.args.most) ≡ c.args.most = to_z-of_z w32 c.args.most (search rules) in
    let fails = int32_value type physical c.loop-value.cursor
    ∙ number_fails c.loop-value.cursor c.in_default.field-0 c.in_default.ensures.exact.0 in
    absurd (test_stops type (is_between c.args.least c.args.most) c.args.count c.loop-value._value c.loop-value.cursor
    c.in_default.field-0 values rest (values_at type c.args.count c.args.bytes.now) c.loop-value-test.true fails
    (rw (least, most) at (c.loop-value.invariant type physical)) is)

pub returns-then-not-is_between : goal.returns-then-not-is_between
returns-then-not-is_between c type physical values rest is =
    let least : to_z w32 (of_z w32 c.args.least) ≡ c.args.least = to_z-of_z w32 c.args.least (search rules) in
    let most : to_z w32 (of_z w32 c.args.most) ≡ c.args.most = to_z-of_z w32 c.args.most (search rules) in
    let given = int32_value type physical c.loop-value.cursor
    ∙ number_value c.loop-value.cursor c.i32_le.new.self c.in-Ok.number c.in-Ok.ensures.exact in
    let fails : is_between c.args.least c.args.most (whole c.in-Ok.number) ≡ false = search rules in
    test_fails type (is_between c.args.least c.args.most) c.args.count c.loop-value._value c.loop-value.cursor
    c.i32_le.new.self (whole c.in-Ok.number) values rest (values_at type c.args.count c.args.bytes.now)
    c.loop-value-test.true given fails (rw (least, most) at (c.loop-value.invariant type physical)) is

pub loop-value-preserved : goal.loop-value-preserved
loop-value-preserved c type physical =
    let least : to_z w32 (of_z w32 c.args.least) ≡ c.args.least = to_z-of_z w32 c.args.least (search rules) in
    let most : to_z w32 (of_z w32 c.args.most) ≡ c.args.most = to_z-of_z w32 c.args.most (search rules) in
    let given = int32_value type physical c.loop-value.cursor
    ∙ number_value c.loop-value.cursor c.i32_le.new.self c.in-Ok.number c.in-Ok.ensures.exact in
    let passes : is_between c.args.least c.args.most (whole c.in-Ok.number) ≡ true = search rules in
    rw (least, most) (test_goes_on type (is_between c.args.least c.args.most) c.args.count c.loop-value._value
    c.loop-value.cursor c.i32_le.new.self (whole c.in-Ok.number) _ c.loop-value-test.true given passes
    (rw (least, most) at (c.loop-value.invariant type physical)))

pub returns : goal.returns
returns c type physical values rest is =
    let least : to_z w32 (of_z w32 c.args.least) ≡ c.args.least = to_z-of_z w32 c.args.least (search rules) in
    let most : to_z w32 (of_z w32 c.args.most) ≡ c.args.most = to_z-of_z w32 c.args.most (search rules) in
    test_done type (is_between c.args.least c.args.most) c.args.count c.loop-value._value c.loop-value.cursor values
    rest (values_at type c.args.count c.args.bytes.now) c.loop-value-test.false
    (rw (least, most) at (c.loop-value.invariant type physical)) is
