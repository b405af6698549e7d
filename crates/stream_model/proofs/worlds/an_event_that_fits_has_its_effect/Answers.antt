use Rattle.stream_model.proofs.Effects.{has_effect, has_none}
use Rattle.stream_model.proofs.worlds.an_event_that_fits_has_its_effect.Goals as goal

pub returns-clause-effect : goal.returns-clause-effect
returns-clause-effect c = has_effect

pub returns-clause-nothing : goal.returns-clause-nothing
returns-clause-nothing c = has_none
