use Rattle.std.proofs.Common.{◌≡◌, ℕ, Bool, true, false, ◌==◌, ◌<◌, ◌^◌, ◌+◌, ◌*◌, cond, arith}
use Rattle.lake_bytes.proofs.ReaderLemmas.{found_more, not_cut_off}
use Rattle.lake_bytes.proofs.hybrid_reader.HybridReader.pass.Goals as goal
use Rattle.lake_bytes.proofs.hybrid_reader.HybridReader.pass.Goals.{then-run-value, else-run-value}

pub loop-wanted-preserved : goal.loop-wanted-preserved
loop-wanted-preserved c =
    let run = c.in-Some.run' in
    let some = c.in-Some.ensures.some in
    let p : ℕ → Bool = λ x. x == c.args.value in
    found_more p c.args.count c.args.self.now c.loop-wanted.wanted c.loop-wanted.found c.if-run-value.found run.count
    run.value c.loop-wanted.self c.next.new.self some.1 some.2 (λ few.
    let less : c.loop-wanted.found + run.count * cond (run.value == c.args.value) 1 0 < 2 ^ 64 =
    not_cut_off p c.args.count c.args.self.now c.loop-wanted.wanted c.loop-wanted.found run.count run.value
    c.loop-wanted.self c.next.new.self some.1 some.2 few c.loop-wanted.invariant in
    elim c.if-run-value.branch [
      | then-run-value w ↦
          let yes : (run.value == c.args.value) ≡ true = grind (arith, w.if-run-value.true) in
          let small : c.loop-wanted.found + run.count * 1 < 2 ^ 64 = rw yes at less in
          rw yes (omega (arith, small, w.found-is, w.saturating_add-found.ensures))
      | else-run-value w ↦
          let no : (run.value == c.args.value) ≡ false = grind (arith, w.if-run-value.false) in
          rw no (omega (arith, w.found-is))
    ]) c.loop-wanted.invariant
