use Rattle.std.proofs.Common.{rules, ◌≡◌, false, true, Ok, ◌∙◌}
use Rattle.std.specs.List.{list_all}
use Rattle.std.proofs.lemmas.Result.{err_from_is_err_and}
use Rattle.outcomes.specs.Outcome.{IsSaid}
use Rattle.outcomes.specs.Bytes.{IsBytes}
use Rattle.row_core.specs.Views.{row_views}
use Rattle.shred.specs.Views.{shape_view}
use Rattle.shred.specs.Ways.{ways}
use Rattle.row_assembly.specs.Parts.{rests}
use Rattle.parquet_footer.specs.Outcome.{says}
use Rattle.parquet_footer.specs.Views.{group_view}
use Rattle.parquet_schema.specs.Views.{leaf_views}
use Rattle.parquet_file.specs.Internal.{are_counted, levels_of, AreAllLeft}
use Rattle.parquet_file.specs.Reading.{columns_at, has_rows}
use Rattle.parquet_file.proofs.CodeGroups.{columns_counted, group_counted, group_refused, group_uncounted}
use Rattle.parquet_file.proofs.PassedRows.{added_behind}
use Rattle.parquet_file.proofs.TestedColumns.{columns_read, rests_have, rests_sound}
use Rattle.parquet_file.proofs.groups.add_group.Goals as goal

pub returns-in_err-readers : goal.returns-in_err-readers
returns-in_err-readers g c = λ t leaves.
    let bytes = c.args.bytes.now in
    let group = group_view c.args.group.now in
    let ls = leaf_views c.args.file.now.leaves.items in
    let shape = shape_view c.args.file.now.shape in
    let said = says c.in_err-readers.field-0.0 in
    let here : IsSaid said (columns_at bytes group.columns ls) =
    rw (← c.deref.ensures.value, ← c.deref-2.ensures.value) c.in_err-readers.ensures in
    let p = err_from_is_err_and c.from_residual.result c.from_residual.ensures.1 in
    rw (p.1, p.2) (group_refused said bytes t shape group ls leaves.are here)

pub returns-then-not-are_counted : goal.returns-then-not-are_counted
returns-then-not-are_counted g c = λ t leaves.
    let bytes = c.args.bytes.now in
    let group = group_view c.args.group.now in
    let ls = leaf_views c.args.file.now.leaves.items in
    let few : are_counted group ls ≡ false = search rules in
    let a = c.in_ok-readers.ensures in
    let seen : columns_at bytes group.columns ls ≡ Ok a.0 =
    rw (← c.deref.ensures.value, ← c.deref-2.ensures.value) a.1 in
    let fits : IsBytes bytes = λ i. (c.type_inv.bytes i).fits in
    let shape = shape_view c.args.file.now.shape in
    rw c.into.ensures (group_uncounted bytes t shape group ls a.0 fits leaves.are seen few)

pub returns : goal.returns
returns g c = λ t leaves.
    let bytes = c.args.bytes.now in
    let group = group_view c.args.group.now in
    let ls = leaf_views c.args.file.now.leaves.items in
    let shape = shape_view c.args.file.now.shape in
    let rows = group.num_rows in
    let n = c.rows_to_pass-passed.result in
    let told = c.rows_to_pass-passed.ensures in
    let counted : are_counted group ls ≡ true = search rules in
    let a = c.in_ok-readers.ensures in
    let cs = a.0 in
    let rest = rests n (levels_of ls) cs in
    let seen : columns_at bytes group.columns ls ≡ Ok cs =
    rw (← c.deref.ensures.value, ← c.deref-2.ensures.value) a.1 in
    let held : AreAllLeft ls c.in_ok-readers.readers.items rest = rw (← c.deref-2.ensures.value) a.2 in
    let here : AreAllLeft ls c.deref_mut.result.now rest = rw c.deref_mut.ensures.value held in
    let fits : IsBytes bytes = λ i. (c.type_inv.bytes i).fits in
    let all : list_all (has_rows rows) cs ≡ true = columns_counted bytes group ls cs fits seen ∙ counted in
    let known = columns_read bytes group.columns rows ls (ways shape) cs fits leaves.levels seen all in
    let added = c.add_rows.ensures ls rest here leaves.levels leaves.some
    (rests_have rows n (levels_of ls) cs known.sound all) (rests_sound n (levels_of ls) cs known.sound) in
    let whole = added_behind shape c.args.first c.args.most n rows ls cs (row_views c.args.rows.now.items)
    (row_views c.add_rows.new.rows.items) c.add_rows.result leaves.levels leaves.some told.few told.before told.flat known
    added in
    rw (group_counted bytes t shape group ls cs fits leaves.are seen counted) whole
