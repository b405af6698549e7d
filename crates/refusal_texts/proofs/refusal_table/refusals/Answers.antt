use Rattle.std.proofs.Common.{refl}
use Rattle.refusal_texts.specs.Codes.{refusal_codes}
use Rattle.refusal_texts.proofs.refusal_table.refusals.Goals as goal

-- by evaluation
pub returns : goal.returns
unfolding refusal_codes
returns c = refl
