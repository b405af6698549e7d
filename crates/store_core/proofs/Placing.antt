-- A name that is put into its place among names that rise.
use Rattle.std.proofs.Common.{◌≡◌, ◌≤◌, ◌<◌, ◌+◌, ◌++◌, ◌∷◌, [], ℕ, zero, suc, List, String, Global, false, refl, sym, ◌∙◌, ap, subst, map, take, drop, length, slice_index_or, arith}
use Rattle.std.specs.declared.cmp.Ordering.{Ordering}
use Rattle.std.specs.declared.cmp.Ordering.TheVariants.{Less, Equal, Greater}
use Rattle.std.specs.Ordering.{is_ge, is_lt, match_ordering, ordering_reverse, ordering_index}
use Rattle.std.specs.BTreeSet.{insert_key}
use Rattle.std.specs.List.{AllByRecursion, AllZip}
use Rattle.std.specs.List.Sorted.{IsNonDecreasingBy, IsPartitionPoint, IsStrictlySortedBy}
use Rattle.std.specs.BTreeMap.{insert_entry}
use Rattle.std.specs.String.{string_bytes, string_cmp}
use Rattle.std.proofs.lemmas.Cmp.{nat_list_cmp_total}
use Rattle.std.proofs.lemmas.List.Sorted.{searchable_from_sorted}
use Rattle.std.specs.Prelude.{Result, Ok, Err, IfOk, IfSome, MatchResult, Vec}
use Rattle.std.specs.Result.{result_ok}
use Rattle.store_core.specs.Listed.{listed}
use Rattle.store_core.specs.Objects.{Objects, name_order, names_of}
use Rattle.store_core.specs.declared.names.Names.{Names}

-- a name is behind what is in front of it
behind : (other name : List ℕ) → name_order other name ≡ Less → name_order name other ≡ Greater
behind other name h = nat_list_cmp_total.antisymm name other ∙ ap ordering_reverse h

-- a name is in front of what is behind it
before : (other name : List ℕ) → name_order other name ≡ Greater → name_order name other ≡ Less
before other name h = nat_list_cmp_total.antisymm name other ∙ ap ordering_reverse h

-- of names that rise none is below the one in front of it
rises_at : (names : List (String Global)) → IsStrictlySortedBy name_order (map string_bytes names) → (k : ℕ) (d : String Global) → suc k < length names
    → is_lt (name_order (string_bytes (slice_index_or names (suc k) d)) (string_bytes (slice_index_or names k d))) ≡ false
unfolding IsStrictlySortedBy
rises_at [] h k d within = absurd (omega (arith, within))
rises_at (x ∷ []) h k d within = absurd (omega (arith, within))
rises_at (x ∷ y ∷ rest) h zero d within = ap is_lt (behind (string_bytes x) (string_bytes y) h.0.0)
rises_at (x ∷ y ∷ rest) h (suc k) d within = rises_at (y ∷ rest) h.1 k d (omega (arith, within))

-- so a name's place among them can be searched for by halving
pub searchable : (names : List (String Global)) (name : String Global) → IsStrictlySortedBy name_order (map string_bytes names) → IsNonDecreasingBy (λ other. ordering_index (string_cmp other name)) names
searchable names name h =
    searchable_from_sorted nat_list_cmp_total string_bytes names (string_bytes name)
    (λ k d low within.
    let next : k + 1 ≡ suc k = omega arith in
    subst (λ (n : ℕ). is_lt (name_order (string_bytes (slice_index_or names n d)) (string_bytes (slice_index_or names k d))) ≡ false) (sym next) (rises_at names h k d (omega (arith, within))))

-- a name put between what is below it and what is above it stands where it belongs
pub placed : (names : List (String Global)) (name : String Global) (i : ℕ) → i ≤ length names → IsPartitionPoint (λ other. string_cmp other name ≡ Less) (λ other. string_cmp other name ≡ Greater) names i
    → map string_bytes (take i names ++ name ∷ drop i names) ≡ insert_key name_order (map string_bytes names) (string_bytes name)
placed [] name zero within p = refl
placed [] name (suc i) within p = absurd (omega (arith, within))
placed (x ∷ xs) name zero within p =
    let n = string_bytes name in
    let rest = map string_bytes xs in
    sym (ap (λ o. match_ordering o (n ∷ string_bytes x ∷ rest) (string_bytes x ∷ rest) (string_bytes x ∷ insert_key name_order rest n)) (before (string_bytes x) n (p.1 0 x (omega arith) (omega arith))))
placed (x ∷ xs) name (suc i) within p =
    let n = string_bytes name in
    let rest = map string_bytes xs in
    ap (λ names. string_bytes x ∷ names) (placed xs name i (omega (arith, within)) (λ k d low high. p.0 (suc k) d (omega arith) (omega (arith, high)), λ k d low high. p.1 (suc k) d (omega (arith, low)) (omega (arith, high))))
    ∙ sym (ap (λ o. match_ordering o (n ∷ string_bytes x ∷ rest) (string_bytes x ∷ rest) (string_bytes x ∷ insert_key name_order rest n)) (behind (string_bytes x) n (p.0 0 x (omega arith) (omega arith))))

-- below the first of names that rise, it is below all
below_rest : (name first : List ℕ) (names : List (List ℕ)) → name_order name first ≡ Less → AllByRecursion (λ other. name_order first other ≡ Less) names → AllByRecursion (λ other. name_order name other ≡ Less) names
below_rest name first [] h rest = tt
below_rest name first (x ∷ xs) h rest = (nat_list_cmp_total.trans name first x h rest.0, below_rest name first xs h rest.1)

-- of names that rise each is below the next
pub rises_next : (names : List (String Global)) → IsStrictlySortedBy name_order (map string_bytes names) → (k : ℕ) (d e : String Global) → suc k < length names
    → is_ge (string_cmp (slice_index_or names k d) (slice_index_or names (suc k) e)) ≡ false
unfolding IsStrictlySortedBy
rises_next [] h k d e within = absurd (omega (arith, within))
rises_next (x ∷ []) h k d e within = absurd (omega (arith, within))
rises_next (x ∷ y ∷ rest) h zero d e within = ap is_ge h.0.0
rises_next (x ∷ y ∷ rest) h (suc k) d e within = rises_next (y ∷ rest) h.1 k d e (omega (arith, within))

-- names each of which is below the next rise
pub rises_from : (names : List (String Global)) → ((k : ℕ) (d : String Global) → suc k < length names → name_order (string_bytes (slice_index_or names k d)) (string_bytes (slice_index_or names (suc k) d)) ≡ Less) → IsStrictlySortedBy name_order (map string_bytes names)
unfolding IsStrictlySortedBy
rises_from [] next = tt
rises_from (x ∷ []) next = (tt, tt)
rises_from (x ∷ y ∷ rest) next =
    let first = next zero x (omega arith) in
    let later = rises_from (y ∷ rest) (λ k d within. next (suc k) d (omega (arith, within))) in
    ((first, below_rest (string_bytes x) (string_bytes y) (map string_bytes rest) first later.0), later)

-- what is so of all names and of one more is so once that is in its place
all_inserted : (P : List ℕ → Type 0) (names : List (List ℕ)) (name : List ℕ) → AllByRecursion P names → P name → AllByRecursion P (insert_key name_order names name)
all_inserted P [] name all one = (one, tt)
all_inserted P (x ∷ xs) name all one =
    elim (name_order name x) as (λ o. AllByRecursion P (match_ordering o (name ∷ x ∷ xs) (x ∷ xs) (x ∷ insert_key name_order xs name))) [
      | Less ↦ (one, all)
      | Equal ↦ all
      | Greater ↦ (all.0, all_inserted P xs name all.1 one)
    ]

-- names that rise do so with one more in its place
pub rises_with : (names : List (List ℕ)) (name : List ℕ) → IsStrictlySortedBy name_order names → IsStrictlySortedBy name_order (insert_key name_order names name)
unfolding IsStrictlySortedBy
rises_with [] name h = (tt, tt)
rises_with (x ∷ xs) name h = by_order (name_order name x) refl (rises_with xs name h.1)
  where
    by_order : (o : Ordering) → name_order name x ≡ o → IsStrictlySortedBy name_order (insert_key name_order xs name) → IsStrictlySortedBy name_order (match_ordering o (name ∷ x ∷ xs) (x ∷ xs) (x ∷ insert_key name_order xs name))
    by_order Less e later = ((e, below_rest name x xs e h.0), h)
    by_order Equal e later = h
    by_order Greater e later = (all_inserted (λ other. name_order x other ≡ Less) xs name h.0 (before name x e), later)

-- the names of objects among which one more was put in its place
pub names_inserted : (objects : Objects) (name bytes : List ℕ) → names_of (insert_entry name_order objects name bytes) ≡ insert_key name_order (names_of objects) name
names_inserted [] name bytes = refl
names_inserted (e ∷ es) name bytes =
    elim (name_order name e.0) as (λ o. names_of (match_ordering o ((name, bytes) ∷ e ∷ es) ((e.0, bytes) ∷ es) (e ∷ insert_entry name_order es name bytes))
    ≡ match_ordering o (name ∷ e.0 ∷ names_of es) (e.0 ∷ names_of es) (e.0 ∷ insert_key name_order (names_of es) name)) [
      | Less ↦ refl
      | Equal ↦ refl
      | Greater ↦ ap (λ rest. e.0 ∷ rest) (names_inserted es name bytes)
    ]

-- names that are made are those that are told, if they are
pub made_names : {E : Type 0} (made : Result Names E) (names later : List (List ℕ)) → names ≡ later → IfOk made (λ shared. listed shared ≡ names) → IfSome (result_ok made) (λ shared. listed shared ≡ later)
made_names (Ok shared) names later same told = told ∙ same
made_names (Err fault) names later same told = tt

-- copies of names are the same names
pub cloned_names : (names copies : List (String Global)) → AllZip (λ name copy. string_bytes copy ≡ string_bytes name) names copies → map string_bytes copies ≡ map string_bytes names
cloned_names [] [] h = refl
cloned_names [] (y ∷ ys) h = absurd h
cloned_names (x ∷ xs) [] h = absurd h
cloned_names (x ∷ xs) (y ∷ ys) h = λ i. h.0 i ∷ cloned_names xs ys h.1 i

-- so it is with a copy that was made, if it was
pub made_copies : {E : Type 0} (P : Vec (String Global) Global → Type 0) (Q : E → Type 0) (made : Result (Vec (String Global) Global) E) (names : Vec (String Global) Global) → MatchResult made (λ copies. AllZip (λ name copy. string_bytes copy ≡ string_bytes name) names.items copies.items × P copies) Q
    → IfOk made (λ copies. map string_bytes copies.items ≡ map string_bytes names.items)
made_copies P Q (Ok copies) names h = cloned_names names.items copies.items h.0
made_copies P Q (Err fault) names h = tt
