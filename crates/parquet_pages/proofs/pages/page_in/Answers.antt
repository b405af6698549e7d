use Rattle.std.proofs.Common.{◌≡◌, ◌<◌, ◌^◌, ℕ, List, length, Ok, refl, sym, ◌∙◌, arith}
use Rattle.std.specs.List.{list_all}
use Rattle.std.proofs.lemmas.Result.{err_from_is_err_and}
use Rattle.shred.specs.Columns.{Column}
use Rattle.parquet_pages.specs.Internal.{HasCells}
use Rattle.page_cells.specs.Levels.{AreTold, levels_at, may_stand, present}
use Rattle.page_cells.specs.declared.levels.LevelsTold.{LevelsTold}
use Rattle.parquet_pages.specs.Pages.{Leaf, highest}
use Rattle.page_cells.specs.Plain.{plain_at}
use Rattle.parquet_pages.specs.Views.{leaf_view}
use Rattle.parquet_pages.proofs.CodePages.{levels_fail, values_fail, cells_there, tested_passes}
use Rattle.page_cells.proofs.Callers.{levels_count}
use Rattle.parquet_pages.proofs.pages.page_in.Goals as goal

-- These levels stand in front of the bytes, and this is told of them.
record AreRead (l : Leaf) (count : ℕ) (body levels behind : List ℕ) (told : LevelsTold) : Type 0 where
  read : levels_at (highest l) count body ≡ Ok (levels, behind)
  counted : length levels ≡ count
  each : told.present ≡ present (highest l) levels
  nulls : told.nulls_may_stand ≡ list_all (may_stand l.nullable) levels

are_read : (l : Leaf) (count : ℕ) (given body levels behind : List ℕ) (told : LevelsTold) → count < 2 ^ 64
    → given ≡ body → (levels_at (highest l) count given ≡ Ok (levels, behind)) × AreTold l.nullable levels told
    → AreRead l count body levels behind told
are_read l count given body levels behind told fits same h =
    let read : levels_at (highest l) count body ≡ Ok (levels, behind) = rw same at h.0 in
    let counted = levels_count (highest l) count body levels behind read in
    record {
      read = read;
      counted = counted;
      each = h.1.present (omega (arith, counted, fits));
      nulls = h.1.nulls;
    }

pub returns-in-Err-clause-cells : goal.returns-in-Err-clause-cells
returns-in-Err-clause-cells c =
    let l = leaf_view c.args.leaf.now in
    rw c.bad_bytes.ensures (levels_fail l c.args.left c.args.count c.args.body.now c.in-Err.fault
    (rw c.new-cursor.ensures at c.in-Err.ensures))

pub returns-in-Err-pass_values-clause-cells : goal.returns-in-Err-pass_values-clause-cells
returns-in-Err-pass_values-clause-cells c =
    let l = leaf_view c.args.leaf.now in
    let body = c.args.body.now in
    let x = c.in-Ok.tested in
    let a = are_read l c.args.count c.new-cursor.result body x.0 c.test_levels.new.cursor x.1 (omega arith)
    c.new-cursor.ensures c.in-Ok.ensures in
    let short = rw a.each at c.in-Err-pass_values.ensures in
    rw c.bad_bytes-in-Err-pass_values.ensures (values_fail l c.args.left c.args.count body x.0
    c.test_levels.new.cursor c.in-Err-pass_values.fault a.read short)

pub returns-in_err-test_cells-clause-cells : goal.returns-in_err-test_cells-clause-cells
returns-in_err-test_cells-clause-cells c =
    let l = leaf_view c.args.leaf.now in
    let body = c.args.body.now in
    let x = c.in-Ok.tested in
    let a = are_read l c.args.count c.new-cursor.result body x.0 c.test_levels.new.cursor x.1 (omega arith)
    c.new-cursor.ensures c.in-Ok.ensures in
    let v = c.in-Ok-pass_values.ensures in
    let values : plain_at l.leaf_type (present (highest l) x.0) c.test_levels.new.cursor ≡
    Ok (v.0, c.pass_values.new.cursor) = rw a.each at v.1 in
    let col : Column = record { levels = x.0; values = v.0 } in
    let rest = c.left.result.now in
    let ends : c.left.result.now ≡ c.pass_values.new.cursor = c.left.ensures in
    let value_bytes : c.left-values.result.now ≡ c.test_levels.new.cursor = c.left-values.ensures in
    let has : HasCells l (record {
      levels = x.0;
      values = c.left-values.result;
      num_values =
          c.args.count;
      present = x.1.present;
      next = c.args.next;
    }) col rest =
    record { counted = sym a.counted; present_each = a.each; levels = refl; values = rw (value_bytes, ends) values } in
    let p = err_from_is_err_and c.from_residual.result c.from_residual.ensures.1 in
    let all = cells_there l c.args.left c.args.count body x.0 c.test_levels.new.cursor rest v.0 a.read
    (rw ends values) in
    rw (p.1, p.2) (all ∙ c.in_err-test_cells.ensures col has a.nulls v.2)

pub returns-clause-cells : goal.returns-clause-cells
returns-clause-cells c =
    let l = leaf_view c.args.leaf.now in
    let body = c.args.body.now in
    let x = c.in-Ok.tested in
    let a = are_read l c.args.count c.new-cursor.result body x.0 c.test_levels.new.cursor x.1 (omega arith)
    c.new-cursor.ensures c.in-Ok.ensures in
    let v = c.in-Ok-pass_values.ensures in
    let values : plain_at l.leaf_type (present (highest l) x.0) c.test_levels.new.cursor ≡
    Ok (v.0, c.pass_values.new.cursor) = rw a.each at v.1 in
    let col : Column = record { levels = x.0; values = v.0 } in
    let rest = c.left.result.now in
    let ends : c.left.result.now ≡ c.pass_values.new.cursor = c.left.ensures in
    let value_bytes : c.left-values.result.now ≡ c.test_levels.new.cursor = c.left-values.ensures in
    let has : HasCells l (record {
      levels = x.0;
      values = c.left-values.result;
      num_values =
          c.args.count;
      present = x.1.present;
      next = c.args.next;
    }) col rest =
    record { counted = sym a.counted; present_each = a.each; levels = refl; values = rw (value_bytes, ends) values } in
    let all = cells_there l c.args.left c.args.count body x.0 c.test_levels.new.cursor rest v.0 a.read
    (rw ends values) in
    let tested = c.in_ok-test_cells.ensures col has a.nulls v.2 in
    let none = tested_passes l c.args.left col rest col tested in (
      col,
      all ∙ tested,
      record {
        counted = sym a.counted;
        present_each = a.each;
        levels = refl;
        values =
            rw (sym none.ends) has.values;
      },
    )
