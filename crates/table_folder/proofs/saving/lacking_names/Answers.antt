use Rattle.std.proofs.Common.{◌≡◌, ℕ, List, Bool, map, subst}
use Rattle.std.specs.Prelude.{IfOk, filter, not, string_bytes}
use Rattle.table_folder.proofs.saving.lacking_names.Goals as goal

pub returns : goal.returns
returns c =
    subst (λ (test : List ℕ → Bool). IfOk c.names_outside.result (λ lacking. map string_bytes lacking.items ≡ filter test (map string_bytes c.args.names.now)))
    (λ i name. not (c.in_ok-files.ensures name i)) c.names_outside.ensures
