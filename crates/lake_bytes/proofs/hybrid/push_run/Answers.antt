use Rattle.std.proofs.Common.{◌≡◌, ℕ, suc, ◌-◌, ◌++◌, length, replicate, ◌∙◌, ap, refl, arith}
use Rattle.std.specs.Vec.{vec_len}
use Rattle.lake_bytes.specs.Hybrid.{values_of}
use Rattle.lake_bytes.proofs.ValueLemmas.{values_of-grown}
use Rattle.lake_bytes.proofs.hybrid.push_run.Goals as goal

pub returns-then-last-count : goal.returns-then-last-count
returns-then-last-count c =
    let runs = c.args.runs.now in
    let last = c.in-Some.last.now in
    let len : suc (vec_len runs - 1) ≡ length runs.items = omega (arith, c.in-Some.ensures.variant.0 refl, runs.ok.0) in
    values_of-grown runs.items (vec_len runs - 1) c.args.count last last len c.in-Some.ensures.value
    ∙ ap (λ (value : ℕ). values_of runs.items ++ replicate c.args.count value) c.if-last-value.true
