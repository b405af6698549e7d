use Rattle.std.proofs.Common.{refl, sym, ◌∙◌}
use Rattle.std.proofs.lemmas.Result.{err_from_is_err_and}
use Rattle.page_cells.proofs.CodeFixed.{passed_int32, passed_int64, passed_truths, plain_boolean, plain_int32, plain_int64, short_int32, short_int64, short_truths}
use Rattle.page_cells.proofs.plain.pass_values.Goals as goal

pub returns-in_err-pass_bytes-in-Boolean : goal.returns-in_err-pass_bytes-in-Boolean
returns-in_err-pass_bytes-in-Boolean c =
    let type = sym c.physical_type.ensures ∙ c.in-Boolean.is in
    let e = c.in_err-pass_bytes-in-Boolean.field-0.0 in
    let p = err_from_is_err_and c.from_residual.result c.from_residual.ensures.1 in
    let short = rw c.bytes_for_bits.ensures at (c.in_err-pass_bytes-in-Boolean.ensures.short e refl) in
    rw (p.1, p.2) (plain_boolean c.args.leaf_type c.args.count c.args.cursor.now type
    ∙ short_truths c.args.count c.args.cursor.now e short)

pub returns-in_ok-pass_bytes-in-Boolean : goal.returns-in_ok-pass_bytes-in-Boolean
returns-in_ok-pass_bytes-in-Boolean c =
    let type = sym c.physical_type.ensures ∙ c.in-Boolean.is in
    let b = rw c.bytes_for_bits.ensures at c.in_ok-pass_bytes-in-Boolean.ensures.passed in
    let passed = passed_truths c.args.count c.args.cursor.now b.0 c.pass_bytes.new.cursor b.1 in
    (passed.0, plain_boolean c.args.leaf_type c.args.count c.args.cursor.now type ∙ passed.1, passed.2)

pub returns-in_err-pass_bytes-in-Int32 : goal.returns-in_err-pass_bytes-in-Int32
returns-in_err-pass_bytes-in-Int32 c =
    let type = sym c.physical_type.ensures ∙ c.in-Int32.is in
    let e = c.in_err-pass_bytes-in-Int32.field-0.0 in
    let p = err_from_is_err_and c.from_residual-in_err-pass_bytes-in-Int32.result
    c.from_residual-in_err-pass_bytes-in-Int32.ensures.1 in
    let short = c.in_err-pass_bytes-in-Int32.ensures.short e refl in
    rw (p.1, p.2) (plain_int32 c.args.leaf_type c.args.count c.args.cursor.now type
    ∙ short_int32 c.args.leaf_type type c.args.count c.args.cursor.now e short)

pub returns-in_ok-pass_bytes-in-Int32 : goal.returns-in_ok-pass_bytes-in-Int32
returns-in_ok-pass_bytes-in-Int32 c =
    let type = sym c.physical_type.ensures ∙ c.in-Int32.is in
    let b = c.in_ok-pass_bytes-in-Int32.ensures.passed in
    let passed = passed_int32 c.args.leaf_type type c.args.count c.args.cursor.now b.0 c.pass_bytes-in-Int32.new.cursor
    b.1 in
    (passed.0, plain_int32 c.args.leaf_type c.args.count c.args.cursor.now type ∙ passed.1, passed.2)

pub returns-in_err-pass_bytes-in-Int64 : goal.returns-in_err-pass_bytes-in-Int64
returns-in_err-pass_bytes-in-Int64 c =
    let type = sym c.physical_type.ensures ∙ c.in-Int64.is in
    let e = c.in_err-pass_bytes-in-Int64.field-0.0 in
    let p = err_from_is_err_and c.from_residual-in_err-pass_bytes-in-Int64.result
    c.from_residual-in_err-pass_bytes-in-Int64.ensures.1 in
    let short = c.in_err-pass_bytes-in-Int64.ensures.short e refl in
    rw (p.1, p.2) (plain_int64 c.args.leaf_type c.args.count c.args.cursor.now type
    ∙ short_int64 c.args.count c.args.cursor.now e short)

pub returns-in_ok-pass_bytes-in-Int64 : goal.returns-in_ok-pass_bytes-in-Int64
returns-in_ok-pass_bytes-in-Int64 c =
    let type = sym c.physical_type.ensures ∙ c.in-Int64.is in
    let b = c.in_ok-pass_bytes-in-Int64.ensures.passed in
    let passed = passed_int64 c.args.count c.args.cursor.now b.0 c.pass_bytes-in-Int64.new.cursor b.1 in
    (passed.0, plain_int64 c.args.leaf_type c.args.count c.args.cursor.now type ∙ passed.1, passed.2)
