use Rattle.lake_script.proofs.StreamLemmas.{towards_stands, towards_more, kept_stands}
use Rattle.lake_script.proofs.outputs.write_through.Goals as goal

pub returns-in-Ok-eq0-clause-front : goal.returns-in-Ok-eq0-clause-front
returns-in-Ok-eq0-clause-front g c = λ _. towards_stands _ _ _ _ (towards_more _ _ _ _ _ _ c.loop-rest.invariant c.in-Ok-eq0.ensures.bytes)

pub loop-rest-preserved : goal.loop-rest-preserved
loop-rest-preserved g c = towards_more _ _ _ _ _ _ c.loop-rest.invariant c.in-Ok.ensures.bytes

pub returns-in-Err-clause-front : goal.returns-in-Err-clause-front
returns-in-Err-clause-front g c = λ _. kept_stands _ _ _ _ _ c.loop-rest.invariant c.in-Err.ensures.bytes
