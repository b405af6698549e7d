use Rattle.std.proofs.Common.{◌≡◌, ◌-◌, ◌≤◌, ◌^◌, min, Result, Ok, Err, sym, ap, ◌∙◌, subst, arith}
use Rattle.std.proofs.lemmas.Result.{err_from_is_err_and}
use Rattle.outcomes.specs.Outcome.{IsSaid}
use Rattle.outcomes.proofs.Callers.{said_too}
use Rattle.row_core.specs.Views.{row_views}
use Rattle.shred.specs.Views.{column_views, shape_view}
use Rattle.row_assembly.specs.Faults.{Fault, says}
use Rattle.row_assembly.specs.Assembly.{assembled, cells_of_columns, row_count, rows_made}
use Rattle.row_assembly.specs.Levels.{tested, rows_left, tests_of, kept_of, AreLong}
use Rattle.row_assembly.specs.Parts.{parts_of, rows_part}
use Rattle.row_assembly.specs.Views.{level_views, reader_views}
use Rattle.row_assembly.proofs.KeptRows.{behind_long, fails_before, fails_there, fails_behind, opens, part_given, rows_there, tests, tests_long, views_behind}
use Rattle.row_assembly.proofs.parts.rows_between.Goals as goal

never_fails : {A : Type 0} (r : Result A Fault) (x : A) (e : Fault) → r ≡ Ok x → r ≡ Err e → ⊥
never_fails r x e h k = let both = sym h ∙ k in cc

pub returns-in_err-test_rows : goal.returns-in_err-test_rows
returns-in_err-test_rows c most given tops_are leaves levels kept even plain small =
    let s = shape_view c.args.shape.now in
    let first = c.args.first in
    let p = err_from_is_err_and c.from_residual.result c.from_residual.ensures.1 in
    let said = says c.in_err-test_rows.field-0.0 in
    let views = levels ∙ ap (λ ts. tests_of ts (parts_of first most ts given)) tops_are in
    let told = subst (λ css. AreLong (rows_left css) css → IsSaid said (tested s (min first (rows_left css)) css)) views (c.in_err-test_rows.ensures.tested leaves) (tests_long s first most given even plain) in
    rw (p.1, p.2) (said_too said (tested s (min first (rows_left (tests s first most given even plain))) (tests s first most given even plain)) (rows_part first most (assembled s given)) (fails_before s first most given even plain) told)

pub returns-in_err-readers : goal.returns-in_err-readers
returns-in_err-readers c most given tops_are leaves levels kept even plain small =
    let s = shape_view c.args.shape.now in
    let first = c.args.first in
    let p = err_from_is_err_and c.from_residual-in_err-readers.result c.from_residual-in_err-readers.ensures.1 in
    let said = says c.in_err-readers.field-0.0 in
    let columns = column_views c.args.kept.items in
    let kept_are = kept ∙ ap (λ ts. kept_of ts (parts_of first most ts given)) tops_are in
    let counted = c.row_count-count.ensures ∙ ap (λ ks. row_count (column_views ks)) c.deref.ensures.value in
    let opened = opens s first most given even plain c.row_count-count.result c.args.tops.now columns tops_are kept_are counted in
    rw (p.1, p.2) (said_too said (cells_of_columns c.row_count-count.result c.args.tops.now columns) (rows_part first most (assembled s given)) (λ e h. absurd (never_fails _ _ e opened h)) c.in_err-readers.ensures)

pub returns-in_err-rows : goal.returns-in_err-rows
returns-in_err-rows c most given tops_are leaves levels kept even plain small =
    let s = shape_view c.args.shape.now in
    let first = c.args.first in
    let p = err_from_is_err_and c.from_residual-in_err-rows.result c.from_residual-in_err-rows.ensures.1 in
    let said = says c.in_err-rows.field-0.0 in
    let columns = column_views c.args.kept.items in
    let views = levels ∙ ap (λ ts. tests_of ts (parts_of first most ts given)) tops_are in
    let kept_are = kept ∙ ap (λ ts. kept_of ts (parts_of first most ts given)) tops_are in
    let counted = c.row_count-count.ensures ∙ ap (λ ks. row_count (column_views ks)) c.deref.ensures.value in
    let done = subst (λ css. AreLong (rows_left css) css → tested s (min first (rows_left css)) css ≡ Ok tt) views (c.in_ok-test_rows.ensures.tested leaves) (tests_long s first most given even plain) in
    let read = ap reader_views c.deref_mut.ensures.value in
    let there = rows_there s first most given even plain c.row_count-count.result c.args.tops.now columns (reader_views c.in_ok-readers.readers.items) tops_are kept_are counted c.in_ok-readers.ensures
    ∙ ap (rows_made s c.row_count-count.result) (sym read) in
    rw (p.1, p.2) (said_too said (rows_made s c.row_count-count.result (reader_views c.deref_mut.result.now)) (rows_part first most (assembled s given)) (λ e h. fails_there s first most given even plain e done (there ∙ h)) c.in_err-rows.ensures)

pub returns-in_err-test_rows-2 : goal.returns-in_err-test_rows-2
returns-in_err-test_rows-2 c most given tops_are leaves levels kept even plain small =
    let s = shape_view c.args.shape.now in
    let first = c.args.first in
    let p = err_from_is_err_and c.from_residual-in_err-test_rows-2.result c.from_residual-in_err-test_rows-2.ensures.1 in
    let said = says c.in_err-test_rows-2.field-0.0 in
    let columns = column_views c.args.kept.items in
    let views = levels ∙ ap (λ ts. tests_of ts (parts_of first most ts given)) tops_are in
    let kept_are = kept ∙ ap (λ ts. kept_of ts (parts_of first most ts given)) tops_are in
    let counted = c.row_count-count.ensures ∙ ap (λ ks. row_count (column_views ks)) c.deref.ensures.value in
    let done = subst (λ css. AreLong (rows_left css) css → tested s (min first (rows_left css)) css ≡ Ok tt) views (c.in_ok-test_rows.ensures.tested leaves) (tests_long s first most given even plain) in
    let read = ap reader_views c.deref_mut.ensures.value in
    let there = rows_there s first most given even plain c.row_count-count.result c.args.tops.now columns (reader_views c.in_ok-readers.readers.items) tops_are kept_are counted c.in_ok-readers.ensures
    ∙ ap (rows_made s c.row_count-count.result) (sym read) in
    let last = views_behind s first most given even plain c.row_count-count.result columns (level_views c.args.left.now) (level_views c.test_rows.new.readers) (level_views c.pass_rows.new.readers) kept_are counted views c.in_ok-test_rows.ensures.left c.pass_rows.ensures.left in
    let told = subst (λ css. AreLong (rows_left css) css → IsSaid said (tested s (min (2 ^ 64 - 1) (rows_left css)) css)) last (c.in_err-test_rows-2.ensures.tested (c.pass_rows.ensures.leaves ∙ (c.in_ok-test_rows.ensures.leaves ∙ leaves))) (behind_long s first most given even plain) in
    let many : row_count given ≤ 2 ^ 64 - 1 = omega (arith, small) in
    rw (p.1, p.2) (said_too said _ (rows_part first most (assembled s given)) (λ e h. fails_behind s first most given even plain (2 ^ 64 - 1) many (row_views c.in_ok-rows.rows.items) e done (there ∙ c.in_ok-rows.ensures) h) told)

pub returns : goal.returns
returns c most given tops_are leaves levels kept even plain small =
    let s = shape_view c.args.shape.now in
    let first = c.args.first in
    let columns = column_views c.args.kept.items in
    let views = levels ∙ ap (λ ts. tests_of ts (parts_of first most ts given)) tops_are in
    let kept_are = kept ∙ ap (λ ts. kept_of ts (parts_of first most ts given)) tops_are in
    let counted = c.row_count-count.ensures ∙ ap (λ ks. row_count (column_views ks)) c.deref.ensures.value in
    let done = subst (λ css. AreLong (rows_left css) css → tested s (min first (rows_left css)) css ≡ Ok tt) views (c.in_ok-test_rows.ensures.tested leaves) (tests_long s first most given even plain) in
    let read = ap reader_views c.deref_mut.ensures.value in
    let there = rows_there s first most given even plain c.row_count-count.result c.args.tops.now columns (reader_views c.in_ok-readers.readers.items) tops_are kept_are counted c.in_ok-readers.ensures
    ∙ ap (rows_made s c.row_count-count.result) (sym read) in
    let last = views_behind s first most given even plain c.row_count-count.result columns (level_views c.args.left.now) (level_views c.test_rows.new.readers) (level_views c.pass_rows.new.readers) kept_are counted views c.in_ok-test_rows.ensures.left c.pass_rows.ensures.left in
    let ended = subst (λ css. AreLong (rows_left css) css → tested s (min (2 ^ 64 - 1) (rows_left css)) css ≡ Ok tt) last (c.in_ok-test_rows-2.ensures.tested (c.pass_rows.ensures.leaves ∙ (c.in_ok-test_rows.ensures.leaves ∙ leaves))) (behind_long s first most given even plain) in
    let many : row_count given ≤ 2 ^ 64 - 1 = omega (arith, small) in
    part_given s first most given even plain (2 ^ 64 - 1) many (row_views c.in_ok-rows.rows.items) done (there ∙ c.in_ok-rows.ensures) ended
