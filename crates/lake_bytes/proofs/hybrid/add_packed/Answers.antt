use Rattle.std.proofs.Common.{◌≡◌, ℕ, List, ◌++◌, replicate, ◌∙◌, sym, ap, subst, arith}
use Rattle.std.specs.Prelude.{OnOk}
use Rattle.lake_bytes.specs.Hybrid.{low_first, unpacked, values_of}
use Rattle.lake_bytes.proofs.BitLemmas.{unpacked-none, value_given, values_given}
use Rattle.lake_bytes.proofs.hybrid.add_packed.Goals as goal

pub returns-then-width-eq0 : goal.returns-then-width-eq0
returns-then-width-eq0 c =
    let low = low_first c.args.body.now in
    let none : replicate c.args.count 0 ≡ unpacked c.args.width c.args.count low =
    sym (unpacked-none c.args.count low) ∙ ap (λ (w : ℕ). unpacked w c.args.count low) (sym c.if-width-eq0.true) in
    subst (λ (t : List ℕ). OnOk c.push_run.result (values_of c.push_run.new.runs.items
    ≡ values_of c.args.runs.now.items ++ t)) none c.push_run.ensures

pub loop-index-preserved : goal.loop-index-preserved
loop-index-preserved c = record {
  held = c.next-value.ensures.held;
  left = value_given _ _ _ _ _ _ _ _ _ c.loop-index-test.true c.loop-index.invariant.left c.in_ok-push_run.ensures
      c.next-value.ensures.value c.next-value.ensures.left;
}

pub returns : goal.returns
returns c = values_given _ _ _ _ _ (omega arith) c.loop-index.invariant.left
