use Rattle.row_core.specs.Conforms.{is_short}
use Rattle.row_core.proofs.ByteLists.{all_bytes, fit_bytes}
use Rattle.row_core.proofs.Truths.{and_true}
use Rattle.row_core.proofs.conforming.are_short.Goals as goal

pub returns : goal.returns
returns c = rw (all_bytes c.args.bytes.now (fit_bytes c.args.bytes.now c.type_inv.bytes)) (and_true (is_short c.args.bytes.now))
