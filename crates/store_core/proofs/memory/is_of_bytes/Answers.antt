use Rattle.store_core.proofs.memory.is_of_bytes.Goals as goal

pub returns : goal.returns
returns c = λ i. (c.type_inv.bytes i).fits
