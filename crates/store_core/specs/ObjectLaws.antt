-- Laws of the objects of a store, for proofs to cite. The functions of `laws.rt` promise them.
use Rattle.std.specs.Prelude.{◌≡◌, ◌≢◌, ◌↔◌, ℕ, Bool, true, false, List, [], ◌∷◌, Option, None, Some, IsSome, is_some, unwrap_or, Contains, cond, refl, T}
use Rattle.std.specs.declared.cmp.Ordering.{Ordering}
use Rattle.std.specs.declared.cmp.Ordering.TheVariants.{Less, Equal, Greater}
use Rattle.std.specs.Ordering.{is_lt, is_eq, match_ordering}
use Rattle.std.specs.Cmp.Lexicographic.{nat_list_eq_equiv}
use Rattle.std.specs.List.{AllByRecursion}
use Rattle.std.specs.List.Sorted.{IsStrictlySortedBy}
use Rattle.std.specs.Str.{bytes_eq}
use Rattle.std.specs.Map.{lookup}
use Rattle.std.specs.BTreeMap.{insert_entry, is_at}
use Rattle.std.specs.BTreeSet.{insert_key}
use Rattle.std.specs.FinMap as finite
use Rattle.std.specs.FinMap.Entries.{by_order, below_all, find-put, is_sorted-put, same_entries}
use Rattle.std.proofs.Common.{sym, ◌∙◌, ap, subst}
use Rattle.std.proofs.lemmas.Bool.{and_parts, and_from, false_from_ne_true}
use Rattle.std.proofs.lemmas.Cmp.{nat_list_cmp_total}
use Rattle.std.proofs.lemmas.Map.Text.{is_eq-slice_cmp}
use Rattle.std.proofs.lemmas.Map.{lookup-none}
use Rattle.std.proofs.lemmas.Map.Entries.{none_below_head}
use Rattle.std.proofs.lemmas.Map.Keys.{sorted_tail}
use Rattle.std.proofs.lemmas.Map.Lookups.{exact_bytes}
use Rattle.std.proofs.lemmas.Map.Views.{IsSome-lookup_from_Contains, Contains-keys_from_lookup}
use Rattle.std.proofs.lemmas.Slice.Eq.{bytes_eq-Decides}
use Rattle.store_core.specs.Objects.{Objects, IsInOrder, name_order, object_at, names_of, with_object}

-- ---- the same in std's words

-- what is found by equal bytes is found by the order
found_by_order : (objects : Objects) (name : List ℕ) → object_at objects name ≡ finite.find name_order name objects
found_by_order [] name = refl
found_by_order (e ∷ es) name = λ i. cond (sym (is_eq-slice_cmp name e.0) i) (Some e.1) (found_by_order es name i)

-- the same by a look-up in std's words
looked_up : (objects : Objects) (name : List ℕ) → object_at objects name ≡ lookup (is_at (name_order name)) objects
looked_up [] name = refl
looked_up (e ∷ es) name = λ i. cond (sym (is_eq-slice_cmp name e.0) i) (Some e.1) (looked_up es name i)

-- an entry put into a tree's list is one put into a finite map's
put_in_place : (objects : Objects) (name bytes : List ℕ) → insert_entry name_order objects name bytes ≡ finite.put name_order name bytes objects
put_in_place [] name bytes = refl
put_in_place (e ∷ es) name bytes =
    elim (name_order name e.0) as (λ o. match_ordering o ((name, bytes) ∷ e ∷ es) ((e.0, bytes) ∷ es) (e ∷ insert_entry name_order es name bytes)
    ≡ by_order o ((name, bytes) ∷ e ∷ es) ((e.0, bytes) ∷ es) (e ∷ finite.put name_order name bytes es)) [
      | Less ↦ refl
      | Equal ↦ refl
      | Greater ↦ ap (λ rest. e ∷ rest) (put_in_place es name bytes)
    ]

-- a test has one value
true_ne_false : true ≡ false → ⊥
true_ne_false e = cc

-- a test that holds is true
pub true_from_T : (b : Bool) → T b → b ≡ true
true_from_T true h = refl
true_from_T false h = absurd h

-- a test that is true holds
pub T_from_true : (b : Bool) → b ≡ true → T b
T_from_true true h = tt
T_from_true false h = cc

-- a comparison that is below is `Less`
is_less : (o : Ordering) → is_lt o ≡ true → o ≡ Less
is_less Less h = refl
is_less Equal h = cc
is_less Greater h = cc

-- each name is above one that is below them all
above_all : (name : List ℕ) (objects : Objects) → below_all name_order name objects ≡ true → AllByRecursion (λ other. name_order name other ≡ Less) (names_of objects)
above_all name [] h = tt
above_all name (e ∷ es) h =
    let parts = and_parts (is_lt (name_order name e.0)) (below_all name_order name es) h in
    (is_less _ parts.0, above_all name es parts.1)

-- entries in a finite map's order have names that rise
pub in_order_from_sorted : (objects : Objects) → finite.is_sorted name_order objects ≡ true → IsInOrder objects
unfolding IsStrictlySortedBy
in_order_from_sorted [] h = tt
in_order_from_sorted (e ∷ es) h =
    let parts = and_parts (below_all name_order e.0 es) (finite.is_sorted name_order es) h in
    (above_all e.0 es parts.0, in_order_from_sorted es parts.1)

-- a name below each name is below them all
below_from_all : (name : List ℕ) (objects : Objects) → AllByRecursion (λ other. name_order name other ≡ Less) (names_of objects) → below_all name_order name objects ≡ true
below_from_all name [] h = refl
below_from_all name (e ∷ es) h = and_from _ _ (ap is_lt h.0) (below_from_all name es h.1)

-- entries whose names rise are in a finite map's order
pub sorted_from_in_order : (objects : Objects) → IsInOrder objects → finite.is_sorted name_order objects ≡ true
unfolding IsStrictlySortedBy
sorted_from_in_order [] h = refl
sorted_from_in_order (e ∷ es) h = and_from _ _ (below_from_all e.0 es h.0) (sorted_from_in_order es h.1)

-- ---- what a put leaves

-- where the name stands, nothing changes
pub with_object_stands : (objects : Objects) (name bytes : List ℕ) → is_some (object_at objects name) ≡ true → with_object objects name bytes ≡ objects
unfolding with_object
with_object_stands objects name bytes h = ap (λ found. cond found objects (insert_entry name_order objects name bytes)) h

-- where it is absent, an entry more stands in its place
pub with_object_absent : (objects : Objects) (name bytes : List ℕ) → is_some (object_at objects name) ≡ false → with_object objects name bytes ≡ insert_entry name_order objects name bytes
unfolding with_object
with_object_absent objects name bytes h = ap (λ found. cond found objects (insert_entry name_order objects name bytes)) h

-- what is found after an entry more stands in its place
found_inserted : (objects : Objects) (name bytes other : List ℕ) → object_at (insert_entry name_order objects name bytes) other ≡ cond (bytes_eq other name) (Some bytes) (object_at objects other)
found_inserted objects name bytes other =
    ap (λ es. object_at es other) (put_in_place objects name bytes)
    ∙ found_by_order (finite.put name_order name bytes objects) other
    ∙ find-put name_order nat_list_cmp_total other name bytes objects
    ∙ (λ i. cond (is_eq-slice_cmp other name i) (Some bytes) (sym (found_by_order objects other) i))

-- what is found where the name stood
found_kept : (objects : Objects) (name bytes other kept : List ℕ) → object_at objects name ≡ Some kept → (same : Bool) → bytes_eq other name ≡ same → object_at objects other ≡ cond same (Some (unwrap_or (object_at objects name) bytes)) (object_at objects other)
found_kept objects name bytes other kept h true e =
    ap (object_at objects) ((bytes_eq-Decides other name).0 e) ∙ h ∙ ap (λ found. Some (unwrap_or found bytes)) (sym h)
found_kept objects name bytes other kept h false e = refl

-- what is found after a put, by what stood under its name
found_after : (objects : Objects) (name bytes other : List ℕ) (found : Option (List ℕ)) → object_at objects name ≡ found → object_at (with_object objects name bytes) other ≡ cond (bytes_eq other name) (Some (unwrap_or (object_at objects name) bytes)) (object_at objects other)
found_after objects name bytes other None h =
    ap (λ es. object_at es other) (with_object_absent objects name bytes (ap is_some h))
    ∙ found_inserted objects name bytes other
    ∙ ap (λ found. cond (bytes_eq other name) (Some (unwrap_or found bytes)) (object_at objects other)) (sym h)
found_after objects name bytes other (Some kept) h =
    ap (λ es. object_at es other) (with_object_stands objects name bytes (ap is_some h))
    ∙ found_kept objects name bytes other kept h (bytes_eq other name) refl

-- the name stands: with the bytes that it had, or else with those put
pub object_at-with_object_same : (objects : Objects) (name bytes : List ℕ) → object_at (with_object objects name bytes) name ≡ Some (unwrap_or (object_at objects name) bytes)
object_at-with_object_same objects name bytes =
    found_after objects name bytes name (object_at objects name) refl
    ∙ ap (λ same. cond same (Some (unwrap_or (object_at objects name) bytes)) (object_at objects name)) ((bytes_eq-Decides name name).1 refl)

-- every other object is as it was
pub object_at-with_object_other : (objects : Objects) (name bytes other : List ℕ) → other ≢ name → object_at (with_object objects name bytes) other ≡ object_at objects other
object_at-with_object_other objects name bytes other apart =
    found_after objects name bytes other (object_at objects name) refl
    ∙ ap (λ same. cond same (Some (unwrap_or (object_at objects name) bytes)) (object_at objects other)) (false_from_ne_true (bytes_eq other name) (λ e. apart ((bytes_eq-Decides other name).0 e)))

-- what stands keeps its bytes, whatever is put
pub object_at-with_object_kept : (objects : Objects) (name bytes other kept : List ℕ) → object_at objects other ≡ Some kept → object_at (with_object objects name bytes) other ≡ Some kept
object_at-with_object_kept objects name bytes other kept h = by_name (bytes_eq other name) refl
  where
    by_name : (same : Bool) → bytes_eq other name ≡ same → object_at (with_object objects name bytes) other ≡ Some kept
    by_name true e =
        let one : other ≡ name = (bytes_eq-Decides other name).0 e in
        ap (object_at (with_object objects name bytes)) one ∙ object_at-with_object_same objects name bytes
        ∙ ap (λ found. Some (unwrap_or found bytes)) (ap (object_at objects) (sym one) ∙ h)
    by_name false e =
        found_after objects name bytes other (object_at objects name) refl
        ∙ ap (λ same. cond same (Some (unwrap_or (object_at objects name) bytes)) (object_at objects other)) e ∙ h

-- a second put of the name changes nothing
pub with_object-with_object : (objects : Objects) (name bytes later : List ℕ) → with_object (with_object objects name bytes) name later ≡ with_object objects name bytes
with_object-with_object objects name bytes later =
    with_object_stands (with_object objects name bytes) name later (ap is_some (object_at-with_object_same objects name bytes))

-- ---- order and names

-- the names still rise
pub IsInOrder-with_object : (objects : Objects) (name bytes : List ℕ) → IsInOrder objects → IsInOrder (with_object objects name bytes)
IsInOrder-with_object objects name bytes h = by_case (is_some (object_at objects name)) refl
  where
    by_case : (stands : Bool) → is_some (object_at objects name) ≡ stands → IsInOrder (with_object objects name bytes)
    by_case true e = subst IsInOrder (sym (with_object_stands objects name bytes e)) h
    by_case false e =
        subst IsInOrder (sym (with_object_absent objects name bytes e ∙ put_in_place objects name bytes))
        (in_order_from_sorted _ (true_from_T _ (is_sorted-put name_order nat_list_cmp_total name bytes objects (T_from_true _ (sorted_from_in_order objects h)))))

-- the names after an entry more
names_inserted : (objects : Objects) (name bytes : List ℕ) → names_of (insert_entry name_order objects name bytes) ≡ insert_key name_order (names_of objects) name
names_inserted [] name bytes = refl
names_inserted (e ∷ es) name bytes =
    elim (name_order name e.0) as (λ o. names_of (match_ordering o ((name, bytes) ∷ e ∷ es) ((e.0, bytes) ∷ es) (e ∷ insert_entry name_order es name bytes))
    ≡ match_ordering o (name ∷ e.0 ∷ names_of es) (e.0 ∷ names_of es) (e.0 ∷ insert_key name_order (names_of es) name)) [
      | Less ↦ refl
      | Equal ↦ refl
      | Greater ↦ ap (λ rest. e.0 ∷ rest) (names_inserted es name bytes)
    ]

-- a name below the first is absent
below_first : (name : List ℕ) (e : List ℕ × List ℕ) (es : Objects) → IsInOrder (e ∷ es) → name_order name e.0 ≡ Less → object_at (e ∷ es) name ≡ None
below_first name e es h below =
    looked_up (e ∷ es) name ∙ lookup-none (is_at (name_order name)) (e ∷ es) (none_below_head nat_list_cmp_total name e es h below)

-- a name that stands is in its place already
names_kept : (objects : Objects) (name : List ℕ) → IsInOrder objects → is_some (object_at objects name) ≡ true → names_of objects ≡ insert_key name_order (names_of objects) name
names_kept [] name h stands = cc
names_kept (e ∷ es) name h stands =
    elim (name_order name e.0) as (λ o. name_order name e.0 ≡ o → e.0 ∷ names_of es ≡ match_ordering o (name ∷ e.0 ∷ names_of es) (e.0 ∷ names_of es) (e.0 ∷ insert_key name_order (names_of es) name)) [
      | Less ↦ λ is.
          let absent : is_some (object_at (e ∷ es) name) ≡ false = ap is_some (below_first name e es h is) in
          absurd (true_ne_false (sym stands ∙ absent))
      | Equal ↦ λ is. refl
      | Greater ↦ λ is.
          let later : bytes_eq name e.0 ≡ false = sym (is_eq-slice_cmp name e.0) ∙ ap is_eq is in
          ap (λ rest. e.0 ∷ rest) (names_kept es name (sorted_tail name_order e.0 (names_of es) h)
          (ap (λ same. is_some (cond same (Some e.1) (object_at es name))) (sym later) ∙ stands))
    ] refl

-- after a put the name is listed in its place in the order, once
pub names_of-with_object : (objects : Objects) (name bytes : List ℕ) → IsInOrder objects → names_of (with_object objects name bytes) ≡ insert_key name_order (names_of objects) name
names_of-with_object objects name bytes h = by_case (is_some (object_at objects name)) refl
  where
    by_case : (stands : Bool) → is_some (object_at objects name) ≡ stands → names_of (with_object objects name bytes) ≡ insert_key name_order (names_of objects) name
    by_case true e = ap names_of (with_object_stands objects name bytes e) ∙ names_kept objects name h e
    by_case false e = ap names_of (with_object_absent objects name bytes e) ∙ names_inserted objects name bytes

-- two ordered lists of objects with the same object under each name are equal
pub same_objects : (one other : Objects) → IsInOrder one → IsInOrder other → ((name : List ℕ) → object_at one name ≡ object_at other name) → one ≡ other
same_objects one other g h same =
    same_entries name_order nat_list_cmp_total exact_bytes one other
    (T_from_true _ (sorted_from_in_order one g)) (T_from_true _ (sorted_from_in_order other h))
    (λ name. sym (found_by_order one name) ∙ same name ∙ found_by_order other name)

-- a name is listed just where an object stands under it
pub listed_iff_stands : (objects : Objects) (name : List ℕ) → Contains (names_of objects) name ↔ IsSome (object_at objects name)
listed_iff_stands objects name =
    (IsSome-lookup_from_Contains nat_list_eq_equiv name objects, Contains-keys_from_lookup (λ x y. (bytes_eq-Decides x y).0) name objects)
