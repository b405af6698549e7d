use Rattle.std.proofs.Common.{◌+◌, drop, ap}
use Rattle.std.proofs.lemmas.List.{drop_all}
use Rattle.std.proofs.lemmas.Result.{err_from_is_err_and}
use Rattle.shred.specs.Views.{shape_view}
use Rattle.parquet_footer.specs.Outcome.{says}
use Rattle.parquet_footer.specs.Views.{group_view, group_views}
use Rattle.parquet_file.specs.Reading.{rows_of_group, rows_of_groups}
use Rattle.parquet_file.proofs.CodeGroups.{groups_first, groups_fail, groups_none}
use Rattle.parquet_file.proofs.CodeSteps.{member_here, test_on, test_fails, test_done, unkept}
use Rattle.parquet_file.proofs.groups.test_groups.Goals as goal

pub returns-in_err-add_group : goal.returns-in_err-add_group
returns-in_err-add_group g c = λ t fits.
    let gs = c.args.groups.now in
    let i = c.loop-group.group-index in
    let m = c.group-item.result in
    let bytes = c.args.bytes.now in
    let shape = shape_view c.args.file.now.shape in
    let rest = group_views (drop i gs) in
    let e = c.in_err-add_group.field-0.0 in
    let p = err_from_is_err_and c.from_residual.result c.from_residual.ensures.1 in
    let here = member_here group_view gs i m c.loop-group-test.true c.group-item.is in
    rw (p.1, p.2) (test_fails (says e) (rows_of_group bytes t shape (group_view m)) (rows_of_groups bytes t shape rest) (rows_of_groups bytes t shape (group_views gs)) (λ fault is. groups_fail bytes t shape rest (group_views (drop (i + 1) gs)) (group_view m) fault here is) (c.in_err-add_group.ensures t fits) (c.loop-group.invariant t fits))

pub loop-group-preserved : goal.loop-group-preserved
loop-group-preserved g c = λ t fits.
    let gs = c.args.groups.now in
    let i = c.loop-group.group-index in
    let m = c.group-item.result in
    let bytes = c.args.bytes.now in
    let shape = shape_view c.args.file.now.shape in
    let rest = group_views (drop i gs) in
    let behind = group_views (drop (i + 1) gs) in
    let a = c.in_ok-add_group.ensures t fits in
    let here = member_here group_view gs i m c.loop-group-test.true c.group-item.is in
    test_on a.0 (rows_of_groups bytes t shape rest) (rows_of_groups bytes t shape behind) (unkept (rows_of_groups bytes t shape (group_views gs))) (groups_first bytes t shape rest behind (group_view m) a.0 here a.1) (c.loop-group.invariant t fits)

pub returns : goal.returns
returns g c = λ t fits.
    let gs = c.args.groups.now in
    let i = c.loop-group.group-index in
    let bytes = c.args.bytes.now in
    let shape = shape_view c.args.file.now.shape in
    let rest = group_views (drop i gs) in
    test_done (rows_of_groups bytes t shape rest) (rows_of_groups bytes t shape (group_views gs)) (groups_none bytes t shape rest (ap group_views (drop_all i gs c.loop-group-test.false))) (c.loop-group.invariant t fits)
