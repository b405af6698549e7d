use Rattle.std.proofs.Common.{◌≡◌, ◌-◌, ◌≤◌, ◌<◌, ◌^◌, ◌++◌, ℕ, List, length, take, drop, refl, sym, ap, subst, ◌∙◌, arith}
use Rattle.std.proofs.lemmas.List.{length-take}
use Rattle.std.proofs.lemmas.Result.{err_from_is_err_and}
use Rattle.lake_bytes.specs.Hybrid.{values_of}
use Rattle.lake_bytes.specs.declared.run.Run.{Run}
use Rattle.row_core.specs.Rows.{Value}
use Rattle.row_core.specs.Views.{row_views}
use Rattle.shred.specs.Columns.{Column}
use Rattle.shred.specs.Parts.{cut_out, part_of}
use Rattle.row_core.specs.declared.value.Value as owned
use Rattle.shred.specs.declared.columns.ColumnPart.{ColumnPart}
use Rattle.page_cells.specs.Left.{HasValuesLeft}
use Rattle.parquet_pages.specs.Pages.{highest}
use Rattle.page_cells.specs.Levels.{present}
use Rattle.parquet_pages.specs.Parts.{IsPartOf}
use Rattle.parquet_pages.proofs.HeldCells.{are_there, cut_front, front_each, front_plain, kept_is, no_fault, present_is, same_part}
use Rattle.parquet_pages.proofs.PassedCells.{left_behind}
use Rattle.parquet_pages.proofs.reader.ColumnReader.take.Goals as goal

-- ---- the values that are passed over are there

pub returns-in_err-pass : goal.returns-in_err-pass
returns-in_err-pass c = record {
  taken = λ l col left less.
      let held = left.held in
      let here = left.here in
      let top = highest l in
      let front = take c.args.count here.levels in
      let there = are_there top c.args.count c.args.first c.args.most here held.value_each in
      let told : c.highest-highest.result ≡ top = c.highest-highest.ensures ∙ ap highest held.leaf in
      let levels : values_of c.in_ok-levels.levels.items ≡ front =
      c.in_ok-levels.ensures.taken ∙ ap (take c.args.count) held.levels in
      let before : values_of c.in_ok-before.before.items ≡ take c.args.first front =
      c.in_ok-before.ensures ∙ ap (λ (rs : List Run). take c.args.first (values_of rs)) c.deref.ensures.value
      ∙ ap (take c.args.first) levels in
      let few : length front < 2 ^ 64 = omega (arith, length-take c.args.count here.levels, c.ranges.count.fits) in
      let fewer : length (take c.args.first front) < 2 ^ 64 = omega (arith, length-take c.args.first front) in
      let skipped = present_is c.highest-highest.result top c.present-skipped.result c.deref-3.result.now
      (take c.args.first front) told (ap (λ (rs : List Run). values_of rs) c.deref-3.ensures.value ∙ before) fewer
      c.present-skipped.ensures in
      let found = (c.in_err-pass.ensures l.leaf_type here.values held.values (omega (arith, skipped, there.passed))) in
      let never = found.0 in
      absurd cc;
}

-- ---- memory ran out where values were added

pub returns-in_err-add : goal.returns-in_err-add
returns-in_err-add c = record {
  taken = λ l col left less.
      let held = left.held in
      let here = left.here in
      let top = highest l in
      let front = take c.args.count here.levels in
      let there = are_there top c.args.count c.args.first c.args.most here held.value_each in
      let told : c.highest-highest.result ≡ top = c.highest-highest.ensures ∙ ap highest held.leaf in
      let levels : values_of c.in_ok-levels.levels.items ≡ front =
      c.in_ok-levels.ensures.taken ∙ ap (take c.args.count) held.levels in
      let before : values_of c.in_ok-before.before.items ≡ take c.args.first front =
      c.in_ok-before.ensures ∙ ap (λ (rs : List Run). take c.args.first (values_of rs)) c.deref.ensures.value
      ∙ ap (take c.args.first) levels in
      let kept : values_of c.in_ok-kept.kept.items ≡ part_of c.args.first c.args.most front =
      c.in_ok-kept.ensures
      ∙ ap (λ (rs : List Run). part_of c.args.first c.args.most (values_of rs)) c.deref-2.ensures.value
      ∙ ap (part_of c.args.first c.args.most) levels in
      let few : length front < 2 ^ 64 = omega (arith, length-take c.args.count here.levels, c.ranges.count.fits) in
      let fewer : length (take c.args.first front) < 2 ^ 64 = omega (arith, length-take c.args.first front) in
      let fewest : length (part_of c.args.first c.args.most front) < 2 ^ 64 =
      omega (arith, length-take c.args.most (drop c.args.first front), c.ranges.most.fits) in
      let skipped = present_is c.highest-highest.result top c.present-skipped.result c.deref-3.result.now
      (take c.args.first front) told (ap (λ (rs : List Run). values_of rs) c.deref-3.ensures.value ∙ before) fewer
      c.present-skipped.ensures in
      let wanted = present_is c.highest-highest.result top c.present.result c.deref-6.result.now
      (part_of c.args.first c.args.most front) told
      (ap (λ (rs : List Run). values_of rs) c.deref-6.ensures.value ∙ kept)
      fewest c.present.ensures in
      let passed : HasValuesLeft l.leaf_type c.pass.new.self (drop (present top (take c.args.first front)) here.values) =
      subst (λ (n : ℕ). HasValuesLeft l.leaf_type c.pass.new.self (drop n here.values)) skipped
      ((c.in_ok-pass.ensures l.leaf_type here.values held.values (omega (arith, skipped, there.passed))).1) in
      let memory = no_fault _
      (c.in_err-add.ensures l.leaf_type (drop (present top (take c.args.first front)) here.values) passed
      (omega (arith, wanted, there.kept))) in
      let p = err_from_is_err_and c.from_residual-in_err-add.result c.from_residual-in_err-add.ensures.1 in
      rw (p.1, p.2, memory) tt;
}

-- ---- those behind them are there too

pub returns-in_err-pass-2 : goal.returns-in_err-pass-2
returns-in_err-pass-2 c = record {
  taken = λ l col left less.
      let held = left.held in
      let here = left.here in
      let top = highest l in
      let front = take c.args.count here.levels in
      let there = are_there top c.args.count c.args.first c.args.most here held.value_each in
      let told : c.highest-highest.result ≡ top = c.highest-highest.ensures ∙ ap highest held.leaf in
      let levels : values_of c.in_ok-levels.levels.items ≡ front =
      c.in_ok-levels.ensures.taken ∙ ap (take c.args.count) held.levels in
      let before : values_of c.in_ok-before.before.items ≡ take c.args.first front =
      c.in_ok-before.ensures ∙ ap (λ (rs : List Run). take c.args.first (values_of rs)) c.deref.ensures.value
      ∙ ap (take c.args.first) levels in
      let few : length front < 2 ^ 64 = omega (arith, length-take c.args.count here.levels, c.ranges.count.fits) in
      let fewer : length (take c.args.first front) < 2 ^ 64 = omega (arith, length-take c.args.first front) in
      let skipped = present_is c.highest-highest.result top c.present-skipped.result c.deref-3.result.now
      (take c.args.first front) told (ap (λ (rs : List Run). values_of rs) c.deref-3.ensures.value ∙ before) fewer
      c.present-skipped.ensures in
      let taken = present_is c.highest-highest.result top c.present-taken.result c.deref-4.result.now front told
      (ap (λ (rs : List Run). values_of rs) c.deref-4.ensures.value ∙ levels) few c.present-taken.ensures in
      let passed : HasValuesLeft l.leaf_type c.pass.new.self (drop (present top (take c.args.first front)) here.values) =
      subst (λ (n : ℕ). HasValuesLeft l.leaf_type c.pass.new.self (drop n here.values)) skipped
      ((c.in_ok-pass.ensures l.leaf_type here.values held.values (omega (arith, skipped, there.passed))).1) in
      let found = (c.in_err-pass-2.ensures l.leaf_type (drop (present top (take c.args.first front)) here.values) passed
      (omega (arith, skipped, taken, there.others, c.saturating_sub.ensures))) in
      let never = found.0 in
      absurd cc;
}

-- ---- what is kept, and what is left

pub returns : goal.returns
returns c = record {
  taken = λ l col left less.
      let held = left.held in
      let here = left.here in
      let top = highest l in
      let count = c.args.count in
      let first = c.args.first in
      let most = c.args.most in
      let front = take count here.levels in
      let there = are_there top count first most here held.value_each in
      let told : c.highest-highest.result ≡ top = c.highest-highest.ensures ∙ ap highest held.leaf in
      let levels : values_of c.in_ok-levels.levels.items ≡ front =
      c.in_ok-levels.ensures.taken ∙ ap (take count) held.levels in
      let before : values_of c.in_ok-before.before.items ≡ take first front =
      c.in_ok-before.ensures ∙ ap (λ (rs : List Run). take first (values_of rs)) c.deref.ensures.value
      ∙ ap (take first) levels in
      let kept : values_of c.in_ok-kept.kept.items ≡ part_of first most front =
      c.in_ok-kept.ensures ∙ ap (λ (rs : List Run). part_of first most (values_of rs)) c.deref-2.ensures.value
      ∙ ap (part_of first most) levels in
      let few : length front < 2 ^ 64 = omega (arith, length-take count here.levels, c.ranges.count.fits) in
      let fewer : length (take first front) < 2 ^ 64 = omega (arith, length-take first front) in
      let fewest : length (part_of first most front) < 2 ^ 64 =
      omega (arith, length-take most (drop first front), c.ranges.most.fits) in
      let skipped = present_is c.highest-highest.result top c.present-skipped.result c.deref-3.result.now
      (take first front) told (ap (λ (rs : List Run). values_of rs) c.deref-3.ensures.value ∙ before) fewer
      c.present-skipped.ensures in
      let wanted = present_is c.highest-highest.result top c.present.result c.deref-6.result.now
      (part_of first most front) told (ap (λ (rs : List Run). values_of rs) c.deref-6.ensures.value ∙ kept) fewest
      c.present.ensures in
      let taken = present_is c.highest-highest.result top c.present-taken.result c.deref-4.result.now front told
      (ap (λ (rs : List Run). values_of rs) c.deref-4.ensures.value ∙ levels) few c.present-taken.ensures in
      let passed : HasValuesLeft l.leaf_type c.pass.new.self (drop (present top (take first front)) here.values) =
      subst (λ (n : ℕ). HasValuesLeft l.leaf_type c.pass.new.self (drop n here.values)) skipped
      ((c.in_ok-pass.ensures l.leaf_type here.values held.values (omega (arith, skipped, there.passed))).1) in
      let others : c.saturating_sub.result ≡ present top front - present top (take first front) =
      omega (arith, skipped, taken, c.saturating_sub.ensures) in
      let behind : HasValuesLeft l.leaf_type c.pass-2.new.self (drop (present top front) here.values) =
      subst (λ (vs : List Value). HasValuesLeft l.leaf_type c.pass-2.new.self vs)
      (ap (λ (n : ℕ). drop n (drop (present top (take first front)) here.values)) others ∙ there.all)
      (c.in_ok-pass-2.ensures l.leaf_type (drop (present top (take first front)) here.values) passed
      (omega (arith, others, there.others))).1 in
      let added : c.add_levels.new.levels.items ≡ part_of first most front =
      c.in_ok-add_levels.ensures ∙ ap (λ (ls : List ℕ). ls ++ values_of c.deref-5.result.now) c.no_cells-column.ensures.levels
      ∙ ap (λ (rs : List Run). values_of rs) c.deref-5.ensures.value ∙ kept in
      let skip = present top (take first front) in
      let values : row_views c.add.new.out.items
      ≡ take (present top (part_of first most front)) (drop skip here.values) =
      c.in_ok-add.ensures l.leaf_type (drop skip here.values) passed (omega (arith, wanted, there.kept))
      ∙ ap (λ vs. row_views vs ++ take c.present.result (drop skip here.values)) c.no_cells-column.ensures.values
      ∙ ap (λ (n : ℕ). take n (drop skip here.values)) wanted in
      let within : count ≤ length here.levels = omega (arith, less, held.counted) in
      let cut : cut_out 0 count top col ≡ cut_out 0 count top here =
      ap (cut_out 0 count top) left.parts ∙ cut_front top count here left.behind within held.value_each in
      let kept_front = kept_is top count first most here c.add_levels.new.levels.items
      (row_views c.add.new.out.items) added values in
      let made : ColumnPart owned.Value =
      record {
        levels = c.in_ok-levels.levels;
        kept = record { levels = c.add_levels.new.levels; values = c.add.new.out };
      } in
      let part : IsPartOf l first most made (cut_out 0 count top here) =
      record {
        kept = same_part (values_of c.in_ok-levels.levels.items) front
            (record { levels = c.add_levels.new.levels.items; values = row_views c.add.new.out.items })
            (cut_out first most top (cut_out 0 count top here)) levels kept_front;
        value_each = front_each top count here held.value_each;
        plain = front_plain top count here held.plain;
      } in (
        subst (λ (front : Column). IsPartOf l first most made front) (sym cut) part,
        left_behind l c.args.self.now _ count col left less refl refl refl refl c.saturating_sub-self.ensures
            c.in_ok-levels.ensures.left behind,
      );
}
