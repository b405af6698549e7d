use Rattle.std.proofs.Common.{rules, ◌≡◌, eqb, true, false, length, ◌++◌, Some, Ok, Err, refl, ap, ◌∙◌}
use Rattle.std.proofs.lemmas.Bool.{eqb-true}
use Rattle.std.proofs.lemmas.Result.{err_from_is_err_and}
use Rattle.outcomes.specs.Outcome.{IsSaid}
use Rattle.outcomes.proofs.Callers.{said_too}
use Rattle.row_core.specs.Views.{row_views}
use Rattle.schema_tree.specs.Schema.{tree_of}
use Rattle.shred.specs.Parts.{part_of}
use Rattle.shred.specs.Views.{shape_view}
use Rattle.parquet_footer.specs.Outcome.{says}
use Rattle.parquet_footer.specs.Views.{footer_view}
use Rattle.parquet_footer.specs.declared.fault.FileFault.TheVariants.{CountMismatch}
use Rattle.parquet_schema.specs.Fitting.{fitted_list}
use Rattle.parquet_schema.specs.Views.{leaf_views}
use Rattle.parquet_file.specs.Reading.{RowsPart, claimed_rows, part_among, part_read, footer_rows, rows_of_groups}
use Rattle.parquet_file.proofs.CodeGroups.{groups_many, rows_by_claims, rows_fail}
use Rattle.parquet_file.proofs.CodeLeaves.{list_leaf_there, list_leaves}
use Rattle.parquet_file.proofs.rows.part_by_footer.Goals as goal

pub returns-then-not-claims_add_up : goal.returns-then-not-claims_add_up
returns-then-not-claims_add_up g c =
    let bytes = c.args.bytes.now in
    let t = tree_of c.args.schema.now in
    let metadata = footer_view c.args.footer.now in
    let shape = shape_view c.in_ok-file.file.shape in
    let sound = c.args.schema.now.within_limits.sound in
    let fit : fitted_list t metadata.schema ≡ Some shape = rw (← c.deref.ensures.value) c.in_ok-file.ensures.shape in
    let some = list_leaf_there t metadata.schema shape sound fit in
    let leaves = list_leaves t metadata.schema shape (leaf_views c.in_ok-file.file.leaves.items) sound fit c.in_ok-file.ensures.leaves in
    let differ : eqb (claimed_rows metadata.row_groups) metadata.num_rows ≡ false = search rules in
    let read = c.in_ok-test_groups.ensures t leaves in
    let seen : rows_of_groups bytes t shape metadata.row_groups ≡ Ok read.0 = rw (← c.deref-then-not-claims_add_up.ensures.value) read.1 in
    let answer : footer_rows bytes t metadata ≡ Err CountMismatch = rows_by_claims bytes t metadata shape read.0 fit some seen ∙ rw differ refl in
    rw (c.into.ensures, answer) refl

pub returns-in_err-test_groups : goal.returns-in_err-test_groups
returns-in_err-test_groups g c =
    let bytes = c.args.bytes.now in
    let t = tree_of c.args.schema.now in
    let metadata = footer_view c.args.footer.now in
    let shape = shape_view c.in_ok-file.file.shape in
    let sound = c.args.schema.now.within_limits.sound in
    let fit : fitted_list t metadata.schema ≡ Some shape = rw (← c.deref.ensures.value) c.in_ok-file.ensures.shape in
    let leaves = list_leaves t metadata.schema shape (leaf_views c.in_ok-file.file.leaves.items) sound fit c.in_ok-file.ensures.leaves in
    let e = c.in_err-test_groups.field-0.0 in
    let p = err_from_is_err_and c.from_residual-in_err-test_groups.result c.from_residual-in_err-test_groups.ensures.1 in
    let read = rows_of_groups bytes t shape metadata.row_groups in
    let said : IsSaid (says e) read = rw (← c.deref-then-not-claims_add_up.ensures.value) (c.in_err-test_groups.ensures t leaves) in
    rw (p.1, p.2) (said_too (says e) read (part_read c.args.first c.args.most (footer_rows bytes t metadata)) (λ fault is. rw (rows_fail bytes t metadata shape fault fit is) refl) said)

pub returns-in_err-add_groups : goal.returns-in_err-add_groups
returns-in_err-add_groups g c =
    let bytes = c.args.bytes.now in
    let t = tree_of c.args.schema.now in
    let metadata = footer_view c.args.footer.now in
    let shape = shape_view c.in_ok-file.file.shape in
    let sound = c.args.schema.now.within_limits.sound in
    let fit : fitted_list t metadata.schema ≡ Some shape = rw (← c.deref.ensures.value) c.in_ok-file.ensures.shape in
    let leaves = list_leaves t metadata.schema shape (leaf_views c.in_ok-file.file.leaves.items) sound fit c.in_ok-file.ensures.leaves in
    let e = c.in_err-add_groups.field-0.0 in
    let p = err_from_is_err_and c.from_residual-in_err-add_groups.result c.from_residual-in_err-add_groups.ensures.1 in
    let read = rows_of_groups bytes t shape metadata.row_groups in
    let said : IsSaid (says e) read = rw (← c.deref-3.ensures.value) (c.in_err-add_groups.ensures t leaves) in
    rw (p.1, p.2) (said_too (says e) read (part_read c.args.first c.args.most (footer_rows bytes t metadata)) (λ fault is. rw (rows_fail bytes t metadata shape fault fit is) refl) said)

pub returns : goal.returns
returns g c =
    let bytes = c.args.bytes.now in
    let t = tree_of c.args.schema.now in
    let metadata = footer_view c.args.footer.now in
    let shape = shape_view c.in_ok-file.file.shape in
    let sound = c.args.schema.now.within_limits.sound in
    let fit : fitted_list t metadata.schema ≡ Some shape = rw (← c.deref.ensures.value) c.in_ok-file.ensures.shape in
    let some = list_leaf_there t metadata.schema shape sound fit in
    let leaves = list_leaves t metadata.schema shape (leaf_views c.in_ok-file.file.leaves.items) sound fit c.in_ok-file.ensures.leaves in
    let agree : eqb (claimed_rows metadata.row_groups) metadata.num_rows ≡ true = search rules in
    let read = c.in_ok-add_groups.ensures t leaves in
    let seen : rows_of_groups bytes t shape metadata.row_groups ≡ Ok read.0 = rw (← c.deref-3.ensures.value) read.1 in
    let kept : row_views c.add_groups.new.rows.items ≡ part_of c.args.first c.args.most read.0 = read.2 ∙ ap (λ rows. row_views rows ++ part_of c.args.first c.args.most read.0) c.new-rows.ensures.items in
    let many : length read.0 ≡ metadata.num_rows = groups_many bytes t shape metadata.row_groups read.0 some seen ∙ eqb-true (claimed_rows metadata.row_groups) metadata.num_rows agree in
    let answer : footer_rows bytes t metadata ≡ Ok read.0 = rows_by_claims bytes t metadata shape read.0 fit some seen ∙ rw agree refl in
    let part : part_among c.args.first c.args.most read.0 ≡ record { rows = row_views c.add_groups.new.rows.items; total = metadata.num_rows } = rw (kept, many) refl in
    rw answer (ap (λ (p : RowsPart). Ok p) part)
