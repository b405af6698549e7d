-- A name is listed just where it is found by halving.
use Rattle.std.proofs.Common.{◌≡◌, ◌<◌, ℕ, zero, suc, List, [], ◌∷◌, Bool, true, false, String, Result, Ok, Err, refl, sym, ap, subst, ◌∙◌, inl, inr, ◌⊎◌, ◌≤◌, arith, map, length}
use Rattle.std.specs.Prelude.{Contains, IfOk, bytes_eq, is_ok, slice_index_or, string_bytes}
use Rattle.std.specs.Global.{Global}
use Rattle.std.specs.List.{HoldsAt, list_any}
use Rattle.std.specs.List.Sorted.{IsBinarySearchResult, IsPartitionPoint, IsSearchInRange, IsStrictlySortedBy}
use Rattle.std.specs.Ordering.{ordering_reverse}
use Rattle.std.specs.declared.cmp.Ordering.TheVariants.{Less, Equal, Greater}
use Rattle.std.specs.String.{string_cmp}
use Rattle.std.proofs.lemmas.Cmp.{nat_list_cmp_total, nat_list_eq_equiv}
use Rattle.std.proofs.lemmas.List.{get_or-map, length-map}
use Rattle.std.proofs.lemmas.List.Elements.{Contains-get_or}
use Rattle.std.proofs.lemmas.Map.Lookups.{exact_bytes}
use Rattle.std.proofs.lemmas.Map.Views.{list_any-from_Contains}
use Rattle.std.proofs.lemmas.Slice.Eq.{bytes_eq-Decides}
use Rattle.store_core.specs.Objects.{name_order}
use Rattle.store_core.proofs.Callers.{searchable}

-- a name is neither below itself nor above
not_below : (name : List ℕ) → name_order name name ≡ Less → ⊥
not_below name below = let wrong : Less ≡ Greater = sym below ∙ (nat_list_cmp_total.antisymm name name ∙ ap ordering_reverse below) in absurd cc

not_above : (name : List ℕ) → name_order name name ≡ Greater → ⊥
not_above name above = let wrong : Greater ≡ Less = sym above ∙ (nat_list_cmp_total.antisymm name name ∙ ap ordering_reverse above) in absurd cc

-- what no name is isn't among them
not_among : (names : List (String Global)) (key : List ℕ) → ((k : ℕ) (d : String Global) → k < length names → string_bytes (slice_index_or names k d) ≡ key → ⊥) → list_any (bytes_eq key) (map string_bytes names) ≡ false
not_among [] key none = refl
not_among (first ∷ names) key none = by_first (bytes_eq key (string_bytes first)) refl (not_among names key (λ k d within. none (suc k) d (omega (arith, within))))
  where
    by_first : (same : Bool) → bytes_eq key (string_bytes first) ≡ same → list_any (bytes_eq key) (map string_bytes names) ≡ false → list_any (bytes_eq key) (map string_bytes (first ∷ names)) ≡ false
    by_first true is rest = absurd (none zero first (omega arith) (sym ((bytes_eq-Decides key (string_bytes first)).0 is)))
    by_first false is rest = rw is rest

below_or_not : (k i : ℕ) → (k < i) ⊎ (i ≤ k)
below_or_not k zero = inr (omega arith)
below_or_not zero (suc i) = inl (omega arith)
below_or_not (suc k) (suc i) = one_more (below_or_not k i)
  where
    one_more : (k < i) ⊎ (i ≤ k) → (suc k < suc i) ⊎ (suc i ≤ suc k)
    one_more (inl below) = inl (omega (arith, below))
    one_more (inr above) = inr (omega (arith, above))

-- names at a place where one would be put aren't that one
not_there : (names : List (String Global)) (name : String Global) (i : ℕ) → IsPartitionPoint (λ other. string_cmp other name ≡ Less) (λ other. string_cmp other name ≡ Greater) names i → (k : ℕ) (d : String Global) → k < length names
    → string_bytes (slice_index_or names k d) ≡ string_bytes name → ⊥
not_there names name i point k d within same = by_place (below_or_not k i)
  where
    by_place : (k < i) ⊎ (i ≤ k) → ⊥
    by_place (inl below) = not_below (string_bytes name) (subst (λ (other : List ℕ). name_order other (string_bytes name) ≡ Less) same (point.0 k d (omega arith) below))
    by_place (inr above) = not_above (string_bytes name) (subst (λ (other : List ℕ). name_order other (string_bytes name) ≡ Greater) same (point.1 k d above within))

pub not_listed : (names : List (String Global)) (name : String Global) (found : Result ℕ ℕ) → IsStrictlySortedBy name_order (map string_bytes names) → IsBinarySearchResult (λ other. string_cmp other name) names found → is_ok found ≡ false
    → Contains (map string_bytes names) (string_bytes name) → ⊥
not_listed names name (Ok i) rising is none among = absurd cc
not_listed names name (Err i) rising is none among =
    let not = not_among names (string_bytes name) (not_there names name i (is (searchable names name rising))) in
    let wrong : true ≡ false = sym (list_any-from_Contains nat_list_eq_equiv (string_bytes name) (map string_bytes names) among) ∙ not in absurd cc

pub is_listed : (names : List (String Global)) (name : String Global) (found : Result ℕ ℕ) → IsSearchInRange found (length names) → IfOk found (HoldsAt (λ other. string_cmp other name ≡ Equal) names) → is_ok found ≡ true → Contains (map string_bytes names) (string_bytes name)
is_listed names name (Ok i) within here is =
    subst (Contains (map string_bytes names)) (get_or-map string_bytes names i name (string_bytes name) within ∙ exact_bytes (string_bytes (slice_index_or names i name)) (string_bytes name) (here name))
    (Contains-get_or (map string_bytes names) i (string_bytes name) (subst (λ (n : ℕ). i < n) (sym (length-map names string_bytes)) within))
is_listed names name (Err i) within here is = absurd cc
