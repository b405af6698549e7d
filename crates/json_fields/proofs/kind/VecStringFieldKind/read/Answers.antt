use Rattle.std.proofs.Common.{◌≡◌, ◌+◌, ◌∷◌, ◌++◌, [], drop, map, Some, None, string_bytes, refl, sym, ap, ◌∙◌, arith}
use Rattle.std.proofs.lemmas.List.{drop_more, drop_all, map_push}
use Rattle.serde_json.specs.Find.{as_str}
use Rattle.serde_json.specs.View.{view, items_view}
use Rattle.json_fields.specs.Kinds.{item_texts}
use Rattle.json_fields.proofs.Texts.{goes_on, ends, is_done}
use Rattle.json_fields.proofs.kind.VecStringFieldKind.read.Goals as goal

pub loop-item-preserved : goal.loop-item-preserved
loop-item-preserved c =
    let xs = c.deref-item-items.result.now in
    let i = c.loop-item.item-index in
    let x = c.item-item.result in
    let here : drop i xs ≡ x ∷ drop (i + 1) xs = drop_more xs i x (omega arith) ∙ ap (λ y. y ∷ drop (i + 1) xs) (sym c.item-item.is) in
    let s = c.in_ok-from_str.field-0 in
    let text : as_str (view x) ≡ Some (string_bytes s) = sym c.in-Some-as_str.ensures ∙ ap Some (sym c.in_ok-from_str.ensures.ok) in
    let made : map (λ s. string_bytes s) c.push.new.self.items ≡ map (λ s. string_bytes s) c.loop-item.texts.items ++ string_bytes s ∷ [] = rw c.in_ok-push.ensures.items (map_push _ c.loop-item.texts.items s) in
    rw made (goes_on (map (λ s. string_bytes s) c.loop-item.texts.items) (drop i xs) (drop (i + 1) xs) x (string_bytes s) (item_texts (items_view xs)) here text c.loop-item.invariant)

pub returns-in_default-as_str : goal.returns-in_default-as_str
returns-in_default-as_str c =
    let xs = c.deref-item-items.result.now in
    let i = c.loop-item.item-index in
    let x = c.item-item.result in
    let here : drop i xs ≡ x ∷ drop (i + 1) xs = drop_more xs i x (omega arith) ∙ ap (λ y. y ∷ drop (i + 1) xs) (sym c.item-item.is) in
    let none : item_texts (items_view xs) ≡ None = ends (map (λ s. string_bytes s) c.loop-item.texts.items) (drop i xs) (drop (i + 1) xs) x (item_texts (items_view xs)) here (sym c.in_default-as_str.ensures) c.loop-item.invariant in
    rw (← c.in-Some.ensures, ← c.deref-item-items.ensures.value, none) refl

pub returns : goal.returns
returns c =
    let xs = c.deref-item-items.result.now in
    let all : item_texts (items_view xs) ≡ Some (map (λ s. string_bytes s) c.loop-item.texts.items) = is_done (map (λ s. string_bytes s) c.loop-item.texts.items) (drop c.loop-item.item-index xs) (item_texts (items_view xs)) (drop_all c.loop-item.item-index xs (omega arith)) c.loop-item.invariant in
    rw (← c.in-Some.ensures, ← c.deref-item-items.ensures.value, all) refl
