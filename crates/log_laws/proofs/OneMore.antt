-- A table with one more batch.
use Rattle.std.proofs.Common.{◌≡◌, List, [], ◌∷◌, ◌++◌, length, sym, subst}
use Rattle.table_model.specs.Appends.{appended, with_batch}
use Rattle.table_model.specs.declared.table.AppendAnswer.TheVariants.{Committed}
use Rattle.table_model.specs.Lawful.{IsLawful}
use Rattle.table_model.specs.Table.{Batch, Entry, creation, group}
use Rattle.table_model.proofs.Callers.{append_keeps}

-- The table with a batch that it takes is lawful.
pub lawful_with : (b : Batch) (entries rest : List Entry) → entries ≡ creation ∷ rest → IsLawful entries → appended b entries ≡ Committed (length entries) → IsLawful (entries ++ group (b ∷ []) ∷ [])
lawful_with b entries rest begins lawful new =
    let kept : IsLawful (with_batch (appended b entries) b entries) =
    subst (λ (es : List Entry). IsLawful (with_batch (appended b es) b es)) (sym begins) (append_keeps b creation rest (subst IsLawful begins lawful)) in
    rw new at kept
