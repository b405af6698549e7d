-- A list whose elements are each found, one after another.
use Rattle.std.proofs.Common.{◌≡◌, ℕ, ◌+◌, ◌<◌, ◌≤◌, length, get_or, drop, List, [], ◌∷◌, ◌++◌, map, Option, Some, None, option_map, refl, sym, ap, ◌∙◌, append_assoc}
use Rattle.std.proofs.lemmas.List.{drop_more, drop_all, append-nil, map_push}
use Rattle.shred.specs.Columns.{all_some}

regroup : {B : Type 0} (front : List B) (y : B) (rest : Option (List B)) → option_map (λ ys. front ++ ys) (option_map (λ ys. y ∷ ys) rest) ≡ option_map (λ ys. (front ++ y ∷ []) ++ ys) rest
regroup front y None = refl
regroup {B} front y (Some ys) = ap (λ (zs : List B). Some zs) (sym (append_assoc front (y ∷ []) ys))

-- one more is found
pub one_found : {A B : Type 0} (f : A → Option B) (xs : List A) (i : ℕ) (x : A) (front : List B) (y : B) (total : Option (List B)) → i < length xs → x ≡ get_or xs i x → f x ≡ Some y
    → option_map (λ ys. front ++ ys) (all_some (map f (drop i xs))) ≡ total → option_map (λ ys. (front ++ y ∷ []) ++ ys) (all_some (map f (drop (i + 1) xs))) ≡ total
one_found f xs i x front y total h at found so_far =
    let here : drop i xs ≡ x ∷ drop (i + 1) xs = drop_more xs i x h ∙ ap (λ z. z ∷ drop (i + 1) xs) (sym at) in
    let one : option_map (λ ys. front ++ ys) (all_some (map f (drop i xs))) ≡ option_map (λ ys. (front ++ y ∷ []) ++ ys) (all_some (map f (drop (i + 1) xs))) = rw (here, found) (regroup front y (all_some (map f (drop (i + 1) xs)))) in
    sym one ∙ so_far

-- one is missing
pub one_missing : {A B : Type 0} (f : A → Option B) (xs : List A) (i : ℕ) (x : A) (front : List B) (total : Option (List B)) → i < length xs → x ≡ get_or xs i x → f x ≡ None
    → option_map (λ ys. front ++ ys) (all_some (map f (drop i xs))) ≡ total → None ≡ total
one_missing f xs i x front total h at found so_far =
    let here : drop i xs ≡ x ∷ drop (i + 1) xs = drop_more xs i x h ∙ ap (λ z. z ∷ drop (i + 1) xs) (sym at) in
    let one : option_map (λ ys. front ++ ys) (all_some (map f (drop i xs))) ≡ None = rw (here, found) refl in
    sym one ∙ so_far

-- all are found
pub all_found : {A B : Type 0} (f : A → Option B) (xs : List A) (i : ℕ) (front : List B) (total : Option (List B)) → length xs ≤ i → option_map (λ ys. front ++ ys) (all_some (map f (drop i xs))) ≡ total → Some front ≡ total
all_found {A} {B} f xs i front total h so_far =
    let end : option_map (λ ys. front ++ ys) (all_some (map f (drop i xs))) ≡ Some front = rw (drop_all i xs h) (ap (λ (zs : List B). Some zs) (append-nil front)) in
    sym end ∙ so_far

-- ---- a loop that makes something of each element

-- one more is made
pub one_made : {X Y Z : Type 0} (f : X → Z) (g : Y → Z) (new old : List X) (x : X) (ys : List Y) (y : Y) (i : ℕ) (total : List Z) → i < length ys → new ≡ old ++ x ∷ [] → y ≡ get_or ys i y → f x ≡ g y
    → map f old ++ map g (drop i ys) ≡ total → map f new ++ map g (drop (i + 1) ys) ≡ total
one_made f g new old x ys y i total h pushed at made so_far =
    let here : drop i ys ≡ y ∷ drop (i + 1) ys = drop_more ys i y h ∙ ap (λ z. z ∷ drop (i + 1) ys) (sym at) in
    let more : map f new ≡ map f old ++ f x ∷ [] = ap (map f) pushed ∙ map_push f old x in
    let one : map f old ++ map g (drop i ys) ≡ map f new ++ map g (drop (i + 1) ys) = rw (here, more, made) (sym (append_assoc (map f old) (g y ∷ []) (map g (drop (i + 1) ys)))) in
    sym one ∙ so_far

-- all are made
pub all_made : {X Y Z : Type 0} (f : X → Z) (g : Y → Z) (xs : List X) (ys : List Y) (i : ℕ) (total : List Z) → length ys ≤ i → map f xs ++ map g (drop i ys) ≡ total → map f xs ≡ total
all_made f g xs ys i total h so_far =
    let end : map f xs ++ map g (drop i ys) ≡ map f xs = rw (drop_all i ys h) (append-nil (map f xs)) in
    sym end ∙ so_far
