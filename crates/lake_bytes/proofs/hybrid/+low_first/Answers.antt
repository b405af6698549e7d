use Rattle.std.proofs.Common.{◌≡◌, suc, length, ap, arith}
use Rattle.lake_bytes.proofs.BitLemmas.{three_bytes}
use Rattle.lake_bytes.proofs.hybrid.+low_first.Goals as goal

pub overflow_mul-result : goal.overflow_mul-result
overflow_mul-result t c =
    let len : length c.args.bytes.now ≡ suc (length c.in-Some.rest.now) = ap length c.in-Some.ensures.cases.0 in
    let few = three_bytes (length c.in-Some.rest.now) (omega (arith, len, c.requires)) in
    omega (arith, few, c.low_first.ensures.small)

pub overflow_add-result : goal.overflow_add-result
overflow_add-result t c =
    let len : length c.args.bytes.now ≡ suc (length c.in-Some.rest.now) = ap length c.in-Some.ensures.cases.0 in
    let few = three_bytes (length c.in-Some.rest.now) (omega (arith, len, c.requires)) in
    omega (arith, few, c.low_first.ensures.small)
