use Rattle.std.proofs.Common.{arith}
use Rattle.std.proofs.lemmas.Result.{err_from_is_err_and}
use Rattle.lake_script.proofs.StreamLemmas.{length-consumed, length-consumed_rest}
use Rattle.lake_script.proofs.inputs.Input.read_to_end.Goals as goal

pub returns-in_err-read_more-clause-too_long : goal.returns-in_err-read_more-clause-too_long
returns-in_err-read_more-clause-too_long g c = λ e.
    let p = err_from_is_err_and c.from_residual-in_err-read_more.result c.from_residual-in_err-read_more.ensures.1 in
    let is = p.1 in
    let same = p.2 in
    length-consumed_rest _ _ _ _ c.loop.invariant.moved (c.in_err-read_more.ensures.too_long (cc))

pub returns-clause-too_many : goal.returns-clause-too_many
returns-clause-too_many g c = λ e.
    length-consumed _ _ _ _ c.loop.invariant.moved (omega arith)
