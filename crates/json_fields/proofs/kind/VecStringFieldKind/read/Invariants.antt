use Rattle.std.proofs.Common.{◌≡◌, drop, map, string_bytes}
use Rattle.serde_json.specs.View.{items_view}
use Rattle.json_fields.specs.Kinds.{item_texts}
use Rattle.json_fields.proofs.Texts.{with_front}
use Rattle.json_fields.proofs.kind.VecStringFieldKind.read.Given as goal

abbrev pub invariant-loop-item : goal.invariant-loop-item
invariant-loop-item l = with_front (map (λ s. string_bytes s) l.texts.items) (item_texts (items_view (drop l.item-index l.item-items))) ≡ item_texts (items_view l.item-items)
