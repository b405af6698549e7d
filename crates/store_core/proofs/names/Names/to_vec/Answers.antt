use Rattle.std.proofs.Common.{◌≡◌, String, Global, Vec, map, subst}
use Rattle.std.specs.Prelude.{IfOk}
use Rattle.std.specs.String.{string_bytes}
use Rattle.store_core.proofs.Placing.{made_copies}
use Rattle.store_core.proofs.names.Names.to_vec.Goals as goal

pub returns : goal.returns
returns c =
    subst (λ (shared : Vec (String Global) Global). IfOk c.clone.result (λ copies. map string_bytes copies.items ≡ map string_bytes shared.items)) c.deref.ensures
    (made_copies _ _ c.clone.result c.deref.result.now c.clone.ensures.cases)
