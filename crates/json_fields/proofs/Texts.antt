-- Lists of texts, and maps of texts, as loops read them.
use Rattle.std.proofs.Common.{◌≡◌, ℕ, List, [], ◌∷◌, ◌++◌, Option, Some, None, option_map, refl, sym, ap, ◌∙◌, append_assoc}
use Rattle.std.proofs.lemmas.List.{append-nil}
use Rattle.serde_json.specs.declared.value.Value.{Value}
use Rattle.serde_json.specs.Find.{as_str}
use Rattle.serde_json.specs.View.{view, items_view}
use Rattle.json_fields.specs.Kinds.{item_texts}

-- what was read before, and what is still read
abbrev pub with_front : List (List ℕ) → Option (List (List ℕ)) → Option (List (List ℕ))
with_front front read = option_map (λ ts. front ++ ts) read

regroup : (front : List (List ℕ)) (t : List ℕ) (read : Option (List (List ℕ))) → with_front front (option_map (λ ts. t ∷ ts) read) ≡ with_front (front ++ t ∷ []) read
regroup front t None = refl
regroup front t (Some ts) = ap Some (sym (append_assoc front (t ∷ []) ts))

pub goes_on : (front : List (List ℕ)) (left after : List Value) (v : Value) (t : List ℕ) (total : Option (List (List ℕ))) → left ≡ v ∷ after → as_str (view v) ≡ Some t
    → with_front front (item_texts (items_view left)) ≡ total → with_front (front ++ t ∷ []) (item_texts (items_view after)) ≡ total
goes_on front left after v t total is text so_far =
    let one : with_front front (item_texts (items_view left)) ≡ with_front (front ++ t ∷ []) (item_texts (items_view after)) = rw (is, text) (regroup front t (item_texts (items_view after))) in
    sym one ∙ so_far

pub ends : (front : List (List ℕ)) (left after : List Value) (v : Value) (total : Option (List (List ℕ))) → left ≡ v ∷ after → as_str (view v) ≡ None
    → with_front front (item_texts (items_view left)) ≡ total → total ≡ None
ends front left after v total is text so_far =
    let one : with_front front (item_texts (items_view left)) ≡ None = rw (is, text) refl in
    sym so_far ∙ one

pub is_done : (front : List (List ℕ)) (left : List Value) (total : Option (List (List ℕ))) → left ≡ [] → with_front front (item_texts (items_view left)) ≡ total → total ≡ Some front
is_done front left total is so_far =
    let one : with_front front (item_texts (items_view left)) ≡ Some front = rw is (ap Some (append-nil front)) in
    sym so_far ∙ one
