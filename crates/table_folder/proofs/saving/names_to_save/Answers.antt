use Rattle.std.proofs.Common.{◌≡◌, ◌∙◌, ap, map}
use Rattle.std.specs.Prelude.{filter, not, bytes_eq, string_bytes}
use Rattle.std.specs.List.{list_any}
use Rattle.store_core.specs.Listed.{listed}
use Rattle.table_folder.proofs.SaveLemmas.{saves}
use Rattle.table_folder.proofs.saving.names_to_save.Goals as goal

pub returns-clause-names : goal.returns-clause-names
returns-clause-names g c =
    let bytes : map string_bytes c.in_ok-lacking.lacking.items ≡ filter (λ name. not (list_any (bytes_eq name) (map string_bytes c.args.loaded.now))) (listed c.in_ok-names.names) =
    c.in_ok-lacking.ensures ∙ (λ i. filter (λ name. not (list_any (bytes_eq name) (map string_bytes c.args.loaded.now))) (c.as_slice.ensures i)) in
    let ordered = c.in_ok-names_in_order.ensures in
    saves (map string_bytes c.args.loaded.now) _ _ (map string_bytes c.deref.result.now) _ c.in_ok-names.ensures.names (ap (map string_bytes) c.deref.ensures.value ∙ bytes) ordered
