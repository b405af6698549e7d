use Rattle.std.proofs.Common.{◌≡◌, ◌+◌, length, drop, ap, arith, length-append}
use Rattle.std.proofs.lemmas.List.{drop_all, length-map}
use Rattle.std.proofs.lemmas.Result.{err_from_is_err_and}
use Rattle.row_core.specs.Views.{row_views, value_view}
use Rattle.shred.specs.Parts.{part_of}
use Rattle.shred.specs.Views.{shape_view}
use Rattle.parquet_footer.specs.Outcome.{says}
use Rattle.parquet_footer.specs.Views.{group_view, group_views}
use Rattle.parquet_file.specs.Reading.{rows_of_group, rows_of_groups}
use Rattle.parquet_file.proofs.CodeGroups.{groups_first, groups_fail, groups_none, group_many}
use Rattle.parquet_file.proofs.CodeSteps.{member_here}
use Rattle.parquet_file.proofs.PartSteps.{part_begun, part_done, part_fails, part_goes_on}
use Rattle.parquet_file.proofs.groups.add_groups.Goals as goal

pub loop-group-init : goal.loop-group-init
loop-group-init g c = λ t leaves. part_begun c.args.first c.args.most (row_views c.args.rows.now.items) (rows_of_groups c.args.bytes.now t (shape_view c.args.file.now.shape) (group_views c.args.groups.now))

pub returns-in_err-add_group : goal.returns-in_err-add_group
returns-in_err-add_group g c = λ t leaves.
    let gs = c.args.groups.now in
    let i = c.loop-group.group-index in
    let m = c.group-item.result in
    let bytes = c.args.bytes.now in
    let shape = shape_view c.args.file.now.shape in
    let rest = group_views (drop i gs) in
    let e = c.in_err-add_group.field-0.0 in
    let p = err_from_is_err_and c.from_residual.result c.from_residual.ensures.1 in
    let here = member_here group_view gs i m c.loop-group-test.true c.group-item.is in
    rw (p.1, p.2) (part_fails (says e) (rows_of_group bytes t shape (group_view m)) c.args.first c.args.most (row_views c.args.rows.now.items) (row_views c.loop-group.rows.items) (rows_of_groups bytes t shape rest) (rows_of_groups bytes t shape (group_views gs)) c.loop-group.skip c.loop-group.wanted (c.loop-group.invariant t leaves) (λ fault is. groups_fail bytes t shape rest (group_views (drop (i + 1) gs)) (group_view m) fault here is) (c.in_err-add_group.ensures t leaves))

pub loop-group-preserved : goal.loop-group-preserved
loop-group-preserved g c = λ t leaves.
    let gs = c.args.groups.now in
    let i = c.loop-group.group-index in
    let m = c.group-item.result in
    let bytes = c.args.bytes.now in
    let shape = shape_view c.args.file.now.shape in
    let rest = group_views (drop i gs) in
    let behind = group_views (drop (i + 1) gs) in
    let skip = c.loop-group.skip in
    let wanted = c.loop-group.wanted in
    let old = c.loop-group.rows.items in
    let new = c.add_group.new.rows.items in
    let a = c.in_ok-add_group.ensures t leaves in
    let here = member_here group_view gs i m c.loop-group-test.true c.group-item.is in
    let many : length a.0 ≡ m.num_rows = group_many bytes t shape (group_view m) a.0 (rw (← leaves.are) leaves.some) a.1 in
    let grown : length new ≡ length old + length (part_of skip wanted a.0) = omega (arith, length-map new value_view, length-map old value_view, ap length a.2, length-append (row_views old) (part_of skip wanted a.0)) in
    part_goes_on c.args.first c.args.most (row_views c.args.rows.now.items) (row_views old) (row_views new) a.0 (rows_of_groups bytes t shape rest) (rows_of_groups bytes t shape behind) (rows_of_groups bytes t shape (group_views gs)) skip wanted c.saturating_sub-skip.result c.saturating_sub-wanted.result (c.loop-group.invariant t leaves) (groups_first bytes t shape rest behind (group_view m) a.0 here a.1) a.2 (omega (arith, many, c.saturating_sub-skip.ensures)) (omega (arith, grown, c.len.ensures, c.len-before.ensures, c.saturating_sub.ensures, c.saturating_sub-wanted.ensures))

pub returns : goal.returns
returns g c = λ t leaves.
    let gs = c.args.groups.now in
    let i = c.loop-group.group-index in
    let bytes = c.args.bytes.now in
    let shape = shape_view c.args.file.now.shape in
    let rest = group_views (drop i gs) in
    part_done c.args.first c.args.most (row_views c.args.rows.now.items) (row_views c.loop-group.rows.items) (rows_of_groups bytes t shape rest) (rows_of_groups bytes t shape (group_views gs)) c.loop-group.skip c.loop-group.wanted (c.loop-group.invariant t leaves) (groups_none bytes t shape rest (ap group_views (drop_all i gs c.loop-group-test.false)))
