-- What a loop over the members of a list tells of the list: members that are all structs, and texts one behind the other.
use Rattle.std.proofs.Common.{◌≡◌, ℕ, ◌+◌, ◌<◌, ◌≤◌, ℤ, Bool, true, false, cond, List, [], ◌∷◌, ◌++◌, length, drop, get_or, Option, Some, None, is_some, option_map, option_and_then, refl, sym, ap, ◌∙◌}
use Rattle.std.specs.List.{list_all}
use Rattle.std.proofs.lemmas.List.{append-nil, append_assoc, at_drop_more, drop_all}
use Rattle.std.proofs.lemmas.List.Folds.{list_all-map}
use Rattle.thrift_values.specs.Fields.{as_text, as_struct, all_as, as_list, needed, or_missing}
use Rattle.thrift_values.specs.Tree.{Tree, Trees, boolean, integer, binary, list, struct, skipped, trees_of, value_of_field}
use Rattle.thrift_values.specs.Tree as trees
use Rattle.thrift_values.specs.View.{view, views}
use Rattle.thrift_values.specs.declared.value.TValue.{TValue}

-- ---- structs

mapped_if : {A B : Type 0} (f : A → B) (b : Bool) (x : A) → option_map f (cond b (Some x) None) ≡ cond b (Some (f x)) None
mapped_if f true x = refl
mapped_if f false x = refl

structs_tested : (ts : List Tree) → all_as as_struct (trees_of ts) ≡ cond (list_all (λ t. is_some (as_struct t)) ts) (Some ts) None
structs_tested [] = refl
structs_tested (boolean b ∷ ts) = refl
structs_tested (integer z ∷ ts) = refl
structs_tested (binary text ∷ ts) = refl
structs_tested (list us ∷ ts) = refl
structs_tested (trees.map es ∷ ts) = refl
structs_tested (struct fs ∷ ts) = rw (structs_tested ts) (mapped_if (λ (xs : List Tree). struct fs ∷ xs) (list_all (λ t. is_some (as_struct t)) ts) ts)
structs_tested (skipped ∷ ts) = refl

pub all_structs : {A : Type 0} (ms : List (TValue A)) (b : Bool) → b ≡ list_all (λ m. is_some (as_struct (view m))) ms → all_as as_struct (trees_of (views ms)) ≡ cond b (Some (views ms)) None
all_structs ms b e = structs_tested (views ms) ∙ ap (λ (c : Bool). cond c (Some (views ms)) None) (list_all-map (λ t. is_some (as_struct t)) view ms ∙ sym e)

-- ---- texts

abbrev pub with_texts : List (List ℕ) → Option (List (List ℕ)) → Option (List (List ℕ))
with_texts front read = option_map (λ texts. front ++ texts) read

texts_regrouped : (front : List (List ℕ)) (t : List ℕ) (read : Option (List (List ℕ))) → with_texts front (option_map (λ ts. t ∷ ts) read) ≡ with_texts (front ++ t ∷ []) read
texts_regrouped front t None = refl
texts_regrouped front t (Some ts) = ap (λ (r : List (List ℕ)). Some r) (sym (append_assoc front (t ∷ []) ts))

-- the members from one on are that one, as a text, and those behind it
text_first : {A : Type 0} (ms : List (TValue A)) (i : ℕ) (m : TValue A) → i < length ms → m ≡ get_or ms i m
    → all_as as_text (trees_of (views (drop i ms))) ≡ option_and_then (λ t. option_map (λ ts. t ∷ ts) (all_as as_text (trees_of (views (drop (i + 1) ms))))) (as_text (view m))
text_first {A} ms i m lt is = at_drop_more (λ (vs : List (TValue A)). all_as as_text (trees_of (views vs))) ms i m lt ∙ ap (λ (v : TValue A). all_as as_text (trees_of (views (v ∷ drop (i + 1) ms)))) (sym is)

pub text_goes_on : {A : Type 0} (front : List (List ℕ)) (ms : List (TValue A)) (i : ℕ) (m : TValue A) (t : List ℕ) (total : Option (List (List ℕ))) → i < length ms → m ≡ get_or ms i m → Some t ≡ as_text (view m)
    → with_texts front (all_as as_text (trees_of (views (drop i ms)))) ≡ total → with_texts (front ++ t ∷ []) (all_as as_text (trees_of (views (drop (i + 1) ms)))) ≡ total
text_goes_on front ms i m t total lt is text so_far =
    let rest = all_as as_text (trees_of (views (drop (i + 1) ms))) in
    let one : with_texts front (all_as as_text (trees_of (views (drop i ms)))) ≡ with_texts front (option_map (λ ts. t ∷ ts) rest) = rw (text_first ms i m lt is, ← text) refl in
    sym (texts_regrouped front t rest) ∙ (sym one ∙ so_far)

pub text_fails : {A : Type 0} (front : List (List ℕ)) (ms : List (TValue A)) (i : ℕ) (m : TValue A) (total : Option (List (List ℕ))) → i < length ms → m ≡ get_or ms i m → None ≡ as_text (view m)
    → with_texts front (all_as as_text (trees_of (views (drop i ms)))) ≡ total → total ≡ None
text_fails front ms i m total lt is text so_far =
    let one : with_texts front (all_as as_text (trees_of (views (drop i ms)))) ≡ None = rw (text_first ms i m lt is, ← text) refl in
    sym so_far ∙ one

pub texts_done : {A : Type 0} (front : List (List ℕ)) (ms : List (TValue A)) (i : ℕ) (total : Option (List (List ℕ))) → length ms ≤ i → with_texts front (all_as as_text (trees_of (views (drop i ms)))) ≡ total → total ≡ Some front
texts_done front ms i total le so_far =
    let one : with_texts front (all_as as_text (trees_of (views (drop i ms)))) ≡ Some front = rw (drop_all i ms le) (ap (λ (r : List (List ℕ)). Some r) (append-nil front)) in
    sym so_far ∙ one

-- ---- fields

pub list_in_field : {A : Type 0} (kind : Tree → Option A) (id : ℤ) (t : Tree) (ts : Trees) → value_of_field id t ≡ Some (list ts) → needed (as_list kind) id t ≡ or_missing id (all_as kind ts)
list_in_field kind id t ts h = rw h refl
