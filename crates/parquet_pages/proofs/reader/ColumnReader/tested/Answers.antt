use Rattle.std.proofs.Common.{◌≡◌, ◌-◌, ℤ, Ok, refl, subst, to_z-of_z}
use Rattle.std.proofs.lemmas.Result.{err_from_is_err_and}
use Rattle.shred.specs.Columns.{Column}
use Rattle.shred.specs.Parts.{cut_off}
use Rattle.parquet_pages.specs.Held.{AreLeft, IsMark}
use Rattle.parquet_pages.specs.Pages.{highest}
use Rattle.parquet_pages.specs.Reading.{chunk_at}
use Rattle.parquet_pages.specs.Views.{leaf_view}
use Rattle.parquet_pages.proofs.PassedCells.{finds_fails, marked_left, tested_left}
use Rattle.parquet_pages.proofs.reader.ColumnReader.tested.Goals as goal

pub returns-in_err-pass : goal.returns-in_err-pass
returns-in_err-pass c =
    let l = leaf_view c.args.leaf in
    let given = c.args.bytes.now in
    let n = c.args.num_values in
    let mark = c.in_ok-mark.mark in
    let a = subst (λ (z : ℤ). (x : Column) × (chunk_at l given z n ≡ Ok x) × IsMark l given n c.args.passed mark x)
    (to_z-of_z c.ranges.stated) c.in_ok-mark.ensures in
    let p = err_from_is_err_and c.from_residual-in_err-pass.result c.from_residual-in_err-pass.ensures.1 in
    let left = marked_left l _ n c.args.passed mark a.0 a.2 refl refl c.equal.ensures c.none.ensures refl refl in
    let rest = cut_off (n - mark.left) (highest l) a.0 in
    let told = finds_fails (λ (x : Unit {0}). AreLeft l c.pass.new.self
    (cut_off c.saturating_sub.result (highest l) rest)) c.in_err-pass.field-0.0
    (c.in_err-pass.ensures.passed l rest left) in
    rw (p.1, p.2, told) tt

pub returns : goal.returns
returns c =
    let l = leaf_view c.args.leaf in
    let given = c.args.bytes.now in
    let n = c.args.num_values in
    let mark = c.in_ok-mark.mark in
    let a = subst (λ (z : ℤ). (x : Column) × (chunk_at l given z n ≡ Ok x) × IsMark l given n c.args.passed mark x)
    (to_z-of_z c.ranges.stated) c.in_ok-mark.ensures in
    let left = marked_left l _ n c.args.passed mark a.0 a.2 refl refl c.equal.ensures c.none.ensures refl refl in
    let behind = c.in_ok-pass.ensures.passed l (cut_off (n - mark.left) (highest l) a.0) left in (
      a.0,
      a.1,
      tested_left l c.pass.new.self given n c.args.passed c.saturating_sub-before.result
          c.saturating_sub.result mark a.0 a.2 c.saturating_sub-before.ensures c.saturating_sub.ensures behind,
    )
