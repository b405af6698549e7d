use Rattle.std.proofs.Common.{sym, subst, refl}
use Rattle.std.specs.Prelude.{IsSome}
use Rattle.shred.proofs.Matrix.{columns_found}
use Rattle.shred.proofs.laws.rows_that_fit_have_columns.Goals as goal

pub returns : goal.returns
returns c = λ shape rows fit. subst (λ o. IsSome o) (sym (columns_found shape rows fit)) refl
