use Rattle.std.proofs.Common.{refl}
use Rattle.refusal_texts.specs.Codes.{fault_codes}
use Rattle.refusal_texts.proofs.fault_table.faults.Goals as goal

-- by evaluation
pub returns : goal.returns
unfolding fault_codes
returns c = refl
