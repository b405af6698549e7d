use Rattle.std.proofs.Common.{◌≡◌, ℕ, Some, sym, ap, ◌∙◌, option_map}
use Rattle.std.specs.Prelude.{option_and_then}
use Rattle.serde_json.specs.Data.{Data, array}
use Rattle.serde_json.specs.Events.{items_len}
use Rattle.serde_json.specs.Find.{as_array}
use Rattle.serde_json.specs.Read.{read}
use Rattle.json_text.specs.Arrays.{array_in}
use Rattle.json_text.specs.View.{view, items_view}
use Rattle.json_text.proofs.Views.{view-Array, items_len-map}
use Rattle.json_text.proofs.array.ArrayText.from_text.Goals as goal

pub invariant_of-result : goal.invariant_of-result
invariant_of-result c =
    let items = c.in-Array.items in
    let seen : read c.args.text.now ≡ Some (array (items_view items.items)) =
    c.in_ok-items.ensures.read ∙ (ap (λ v. Some (view v)) c.in-Array.is ∙ ap (λ (d : Data). Some d) (view-Array items)) in
    let count : items_len (items_view items.items) ≡ c.len-len.result = items_len-map view items.items ∙ sym (c.len-len.ensures ∙ items.ok.0) in
    record { counted = ap (λ s. option_map items_len (array_in s)) c.in_ok-text.ensures.ok ∙ (ap (λ r. option_map items_len (option_and_then as_array r)) seen ∙ ap (λ (n : ℕ). Some n) count) }
