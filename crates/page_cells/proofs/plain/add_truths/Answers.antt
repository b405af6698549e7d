use Rattle.std.proofs.Common.{◌≡◌, ◌+◌, get_or, add-one, ◌++◌, ◌∷◌, List, [], ℕ, drop, map, refl, sym, ap, ◌∙◌, drop-cons}
use Rattle.std.proofs.lemmas.List.{append-nil}
use Rattle.lake_bytes.specs.Hybrid.{values_of, low_first, unpacked}
use Rattle.row_core.specs.Views.{row_views}
use Rattle.lake_bytes.specs.declared.run.Run.{Run}
use Rattle.std.proofs.Math.ListN.{drop_of_length-le}
use Rattle.page_cells.specs.Plain.{truth_of}
use Rattle.page_cells.proofs.CodeFixed.{truths_read}
use Rattle.page_cells.proofs.CodeRuns.{truths_go_on}
use Rattle.page_cells.proofs.plain.add_truths.Goals as goal

pub loop-run-preserved : goal.loop-run-preserved
loop-run-preserved c =
    let runs = c.deref-run-items.result.now in
    let run = get_or runs c.loop-run.run-index (record { value = 0; count = 0 }) in
    let within = c.loop-run-test.true in
    let here : drop c.loop-run.run-index runs ≡ run ∷ drop (c.loop-run.run-index + 1) runs =
    rw (add-one, drop-cons runs c.loop-run.run-index (record { value = 0; count = 0 }) within) refl in
    let so_far = c.loop-run.invariant in
    truths_go_on (row_views c.loop-run.out.items) (row_views c.add_truth.new.out.items) run
    (drop (c.loop-run.run-index + 1) runs) c.in_ok-add_truth.ensures
    ∙ ap (λ (rs : List Run). row_views c.loop-run.out.items ++ map truth_of (values_of rs)) (sym here) ∙ so_far

pub returns : goal.returns
returns c =
    let bits = unpacked 1 c.args.count (low_first c.in-Ok.packed.now) in
    let runs = c.deref-run-items.result.now in
    let old = row_views c.args.out.now.items in
    let new = row_views c.loop-run.out.items in
    let all : values_of runs ≡ bits = ap values_of c.deref-run-items.ensures.value ∙ c.in_ok-runs.ensures in
    let none : drop c.loop-run.run-index runs ≡ [] = drop_of_length-le runs c.loop-run-test.false in
    let so_far : new ++ [] ≡ old ++ map truth_of (values_of runs) = rw none at c.loop-run.invariant in (
      map truth_of bits,
      c.take.new.self,
      truths_read c.args.count c.bytes_for_bits.result c.args.cursor.now
          c.in-Ok.packed.now c.take.new.self c.bytes_for_bits.ensures c.in-Ok.ensures.exact,
      sym (append-nil new) ∙ so_far ∙ ap (λ (ls : List ℕ). old ++ map truth_of ls) all,
    )
