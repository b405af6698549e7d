-- The file of an application's last batch, where its number is handed in again.
use Rattle.std.proofs.Common.{◌≡◌, ℕ, List, Some, Contains, sym, ap, ◌∙◌}
use Rattle.std.specs.Bool.{one_answer}
use Rattle.row_core.specs.Rows.{Row, same_rows}
use Rattle.table_model.specs.Table.{Batch, ToldNumber, told_of, Entry, batches, last_told}
use Rattle.row_core.proofs.Callers.{same_rows-is}
use Rattle.table_model.proofs.Callers.{last_stands, told_batch}

-- ---- the last batch of an application

-- What is told last of an application is told of a batch, which is one of the table's and of the application.
pub record IsLastBatch (application : List ℕ) (entries : List Entry) (t : ToldNumber) : Type 0 where
  pub b : Batch
  pub told : told_of b ≡ t
  pub stands : Contains (batches entries) b
  pub own : b.application ≡ application

pub last_batch : (application : List ℕ) (entries : List Entry) (t : ToldNumber) → last_told application entries ≡ Some t → IsLastBatch application entries t
last_batch application entries t is =
    let there = last_stands application entries t is in
    let found = told_batch entries t there.0 in
    record { b = found.0; told = found.2; stands = found.1; own = ap (λ (u : ToldNumber). u.application) found.2 ∙ there.1 }

-- ---- the same rows

-- whether two lists of rows are equal doesn't depend on their order
pub same_either_way : (xs ys : List Row) → same_rows xs ys ≡ same_rows ys xs
same_either_way xs ys =
    let back = same_rows-is ys xs in
    one_answer {P = xs ≡ ys} (same_rows xs ys) (same_rows ys xs) (same_rows-is xs ys) (λ e. sym (back.0 e), λ e. back.1 (sym e))
