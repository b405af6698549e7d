use Rattle.std.proofs.Common.{ℕ, ◌≤◌, Ok, arith}
use Rattle.std.proofs.lemmas.Result.{err_from_is_err_and}
use Rattle.outcomes.proofs.Callers.{said_too}
use Rattle.schema_tree.specs.Schema.{tree_of}
use Rattle.parquet_file.specs.Outcome.{says_of_rows}
use Rattle.parquet_file.specs.Reading.{part_at, rows_at}
use Rattle.parquet_file.specs.Views.{file_part_view}
use Rattle.parquet_file.proofs.PartSteps.{part_read_fails, whole_read}
use Rattle.parquet_file.proofs.RowsTold.{IsAnswer, is_found, is_read}
use Rattle.parquet_file.proofs.rows.read_rows.Goals as goal

pub returns-in_err-part_in-clause-only : goal.returns-in_err-part_in-clause-only
returns-in_err-part_in-clause-only g c =
    let bytes = c.args.bytes.now in
    let t = tree_of c.args.schema.now in
    let all : ℕ = 18446744073709551615 in
    let e = c.in_err-part_in.field-0.0 in
    let p = err_from_is_err_and c.from_residual.result c.from_residual.ensures.1 in
    let answer : IsAnswer bytes t c.from_residual.result =
    rw (p.1, p.2) (said_too (says_of_rows e) (part_at bytes t 0 all) (rows_at bytes t) (part_read_fails 0 all (rows_at bytes t))
    c.in_err-part_in.ensures.exact) in
    is_read bytes t c.from_residual.result c.args.schema.now.within_limits answer

pub returns-clause-exact : goal.returns-clause-exact
returns-clause-exact g c =
    let part = c.in_ok-part_in.field-0 in
    let few : part.total ≤ 18446744073709551615 = omega arith in
    whole_read 18446744073709551615 (rows_at c.args.bytes.now (tree_of c.args.schema.now)) (file_part_view part)
    c.in_ok-part_in.ensures.exact few

pub returns-clause-found : goal.returns-clause-found
returns-clause-found g c =
    is_found c.args.bytes.now (tree_of c.args.schema.now) (Ok c.in_ok-part_in.field-0.rows)
    c.args.schema.now.within_limits (λ i. (c.type_inv.bytes i).fits) (returns-clause-exact g c)

pub returns-clause-only : goal.returns-clause-only
returns-clause-only g c =
    is_read c.args.bytes.now (tree_of c.args.schema.now) (Ok c.in_ok-part_in.field-0.rows)
    c.args.schema.now.within_limits (returns-clause-exact g c)
