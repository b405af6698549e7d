use Rattle.std.proofs.Common.{List, ℕ, ◌-◌, subst, sym}
use Rattle.lake_bytes.specs.Hybrid.{values_of}
use Rattle.lake_bytes.proofs.ReaderLemmas.{TakesOn, taken_more}
use Rattle.lake_bytes.proofs.hybrid_reader.HybridReader.take.Goals as goal

pub loop-wanted-preserved : goal.loop-wanted-preserved
loop-wanted-preserved c =
    let run = c.in-Some.run' in
    let some = c.in-Some.ensures.some in
    subst
    (λ (taken : List ℕ). TakesOn c.args.count c.args.self.now (c.loop-wanted.wanted - run.count) taken c.next.new.self)
    (sym c.in_ok-push_run.ensures)
    (taken_more c.args.count c.args.self.now c.loop-wanted.wanted run.count run.value
    (values_of c.loop-wanted.runs.items) c.loop-wanted.self c.next.new.self some.1 some.2 c.loop-wanted.invariant)
