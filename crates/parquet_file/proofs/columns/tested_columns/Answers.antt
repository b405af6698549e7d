use Rattle.std.proofs.Common.{◌+◌, drop, take, ap}
use Rattle.std.proofs.lemmas.Result.{err_from_is_err_and}
use Rattle.thrift_core.specs.Fields.{each}
use Rattle.parquet_footer.specs.Outcome.{says}
use Rattle.parquet_footer.specs.Views.{chunk_views}
use Rattle.parquet_schema.specs.Views.{leaf_view, leaf_views}
use Rattle.parquet_file.specs.Reading.{column_at}
use Rattle.parquet_file.proofs.CodeSteps.{member_here, members_passed}
use Rattle.parquet_file.proofs.TestedColumns.{test_all, test_begun, test_next, test_refused}
use Rattle.parquet_file.proofs.columns.tested_columns.Goals as goal

pub loop-leaf-init : goal.loop-leaf-init
loop-leaf-init g c =
    let read = column_at c.args.bytes.now (chunk_views c.args.chunks.now) in
    test_begun c.args.passed _ (each read (leaf_views c.args.leaves.now)) c.in_ok-readers.ensures.items

pub returns-in_err-tested_column : goal.returns-in_err-tested_column
returns-in_err-tested_column g c =
    let ls = c.args.leaves.now in
    let i = c.loop-leaf.leaf-index in
    let l = c.leaf-item.result in
    let read = column_at c.args.bytes.now (chunk_views c.args.chunks.now) in
    let here = member_here leaf_view ls i l c.loop-leaf-test.true c.leaf-item.is in
    let from = c.from_residual-in_err-tested_column in
    let p = err_from_is_err_and from.result from.ensures.1 in
    rw (p.1, p.2) (test_refused (says c.in_err-tested_column.field-0.0) c.args.passed (leaf_views (take i ls))
    c.loop-leaf.readers.items (read (leaf_view l)) (each read (leaf_views (drop i ls)))
    (each read (leaf_views (drop (i + 1) ls))) (each read (leaf_views ls)) (ap (each read) here)
    c.in_err-tested_column.ensures c.loop-leaf.invariant)

pub loop-leaf-preserved : goal.loop-leaf-preserved
loop-leaf-preserved g c =
    let ls = c.args.leaves.now in
    let i = c.loop-leaf.leaf-index in
    let l = c.leaf-item.result in
    let read = column_at c.args.bytes.now (chunk_views c.args.chunks.now) in
    let here = member_here leaf_view ls i l c.loop-leaf-test.true c.leaf-item.is in
    let passed = members_passed leaf_view ls i l c.loop-leaf-test.true c.leaf-item.is in
    let a = c.in_ok-tested_column.ensures in
    rw (passed, c.in_ok-push.ensures.items) (test_next c.args.passed (leaf_views (take i ls)) c.loop-leaf.readers.items
    (leaf_view l) c.in_ok-tested_column.field-0 (read (leaf_view l)) (each read (leaf_views (drop i ls)))
    (each read (leaf_views (drop (i + 1) ls))) (each read (leaf_views ls)) a.0 (ap (each read) here) a.1 a.2
    c.loop-leaf.invariant)

pub returns : goal.returns
returns g c =
    let read = column_at c.args.bytes.now (chunk_views c.args.chunks.now) in
    test_all leaf_view c.args.leaves.now c.loop-leaf.leaf-index c.args.passed c.loop-leaf.readers.items read
    (each read (leaf_views c.args.leaves.now)) c.loop-leaf-test.false c.loop-leaf.invariant
