-- A loop that makes something of each field, in order.
use Rattle.std.proofs.Common.{◌≡◌, ℕ, ◌+◌, ◌<◌, ◌≤◌, List, [], ◌∷◌, ◌++◌, length, get_or, take, map, ◌∙◌, sym, ap}
use Rattle.std.proofs.lemmas.List.{map_push, map_more, take_all}

-- one more is made
pub one_more : {X Y Z : Type 0} (f : X → Z) (g : Y → Z) (new old : List X) (x : X) (ys : List Y) (y : Y) (i : ℕ) → i < length ys → new ≡ old ++ x ∷ [] → y ≡ get_or ys i y → f x ≡ g y → map f old ≡ map g (take i ys) → map f new ≡ map g (take (i + 1) ys)
one_more f g new old x ys y i h pushed at made before =
    ap (map f) pushed ∙ (map_push f old x ∙ (ap (λ zs. zs ++ f x ∷ []) before ∙ (ap (λ z. map g (take i ys) ++ z ∷ []) (made ∙ ap g at) ∙ sym (map_more g ys i y h))))

-- all are made
pub all_made : {X Y Z : Type 0} (f : X → Z) (g : Y → Z) (xs : List X) (ys : List Y) (i : ℕ) → length ys ≤ i → map f xs ≡ map g (take i ys) → map f xs ≡ map g ys
all_made f g xs ys i h before = before ∙ ap (map g) (take_all i ys h)
