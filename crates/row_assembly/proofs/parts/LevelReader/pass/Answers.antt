use Rattle.std.proofs.Common.{◌≤◌, drop, ap, ◌∙◌, arith}
use Rattle.lake_bytes.specs.Hybrid.{values_of}
use Rattle.row_assembly.proofs.LevelLoops.{passed_on}
use Rattle.row_assembly.proofs.parts.LevelReader.pass.Goals as goal

pub loop-left-preserved : goal.loop-left-preserved
loop-left-preserved c =
    let now = c.to_next_run.new.self in
    let step = c.min-step.result in
    let fewer : step ≤ now.count = omega (arith, c.min-step.ensures) in
    let less : step ≤ c.loop-left.left = omega (arith, c.min-step.ensures) in
    record {
      left = passed_on now.top now.level now.count step c.loop-left.left (values_of now.rest.items) fewer less ∙ (ap (drop c.loop-left.left) c.to_next_run.ensures.same ∙ c.loop-left.invariant.left);
      leaf = c.to_next_run.ensures.leaf ∙ c.loop-left.invariant.leaf;
    }
