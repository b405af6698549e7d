use Rattle.std.proofs.Common.{rules, ◌≡◌, ◌||◌, nat_lt, length}
use Rattle.std.proofs.lemmas.Result.{err_from_is_err_and}
use Rattle.page_cells.specs.Plain.{values_at}
use Rattle.row_core.specs.Rows.{text, bytes}
use Rattle.page_cells.specs.declared.types.LeafType.TheVariants.{String, Binary}
use Rattle.page_cells.proofs.CodeValues.{text_value, text_fails, binary_value, binary_fails, pass_goes_on, pass_stops, pass_done}
use Rattle.page_cells.proofs.plain.pass_contents.Goals as goal
use Rattle.page_cells.proofs.plain.pass_contents.Goals.{then-is_too_long, else-is_too_long}

pub returns-in_err-content-clause-text : goal.returns-in_err-content-clause-text
returns-in_err-content-clause-text c =
    let p = err_from_is_err_and c.from_residual.result c.from_residual.ensures.1 in
    rw (p.1, p.2) (pass_stops String c.loop-value.is_too_long c.args.count c.loop-value._value c.loop-value.cursor
    c.in_err-content.field-0.0 (values_at String c.args.count c.args.cursor.now) c.loop-value-test.true
    (text_fails c.loop-value.cursor c.in_err-content.field-0.0 c.in_err-content.ensures)
    c.loop-value.invariant.text)

pub returns-in_err-content-clause-binary : goal.returns-in_err-content-clause-binary
returns-in_err-content-clause-binary c =
    let p = err_from_is_err_and c.from_residual.result c.from_residual.ensures.1 in
    rw (p.1, p.2) (pass_stops Binary c.loop-value.is_too_long c.args.count c.loop-value._value c.loop-value.cursor
    c.in_err-content.field-0.0 (values_at Binary c.args.count c.args.cursor.now) c.loop-value-test.true
    (binary_fails c.loop-value.cursor c.in_err-content.field-0.0 c.in_err-content.ensures)
    c.loop-value.invariant.binary)

pub loop-value-preserved : goal.loop-value-preserved
loop-value-preserved c =
    let is : c.if-is_too_long.is_too_long ≡
    (c.loop-value.is_too_long || nat_lt 1048576 (length c.in_ok-content.content.now)) =
    elim c.if-is_too_long.branch [ then-is_too_long w ↦ search rules | else-is_too_long w ↦ search rules ] in
    record {
      text = pass_goes_on String c.loop-value.is_too_long c.if-is_too_long.is_too_long c.args.count c.loop-value._value
          c.loop-value.cursor c.content.new.cursor (text c.in_ok-content.content.now) _ c.loop-value-test.true
          (text_value c.loop-value.cursor c.content.new.cursor c.in_ok-content.content.now c.in_ok-content.ensures) is
          c.loop-value.invariant.text;
      binary = pass_goes_on Binary c.loop-value.is_too_long c.if-is_too_long.is_too_long c.args.count
          c.loop-value._value c.loop-value.cursor c.content.new.cursor (bytes c.in_ok-content.content.now) _
          c.loop-value-test.true (binary_value c.loop-value.cursor c.content.new.cursor c.in_ok-content.content.now
          c.in_ok-content.ensures) is c.loop-value.invariant.binary;
    }

pub returns-clause-text : goal.returns-clause-text
returns-clause-text c = pass_done String c.loop-value.is_too_long c.args.count c.loop-value._value c.loop-value.cursor
    (values_at String c.args.count c.args.cursor.now) c.loop-value-test.false c.loop-value.invariant.text

pub returns-clause-binary : goal.returns-clause-binary
returns-clause-binary c = pass_done Binary c.loop-value.is_too_long c.args.count c.loop-value._value c.loop-value.cursor
    (values_at Binary c.args.count c.args.cursor.now) c.loop-value-test.false c.loop-value.invariant.binary
