-- A tree from names to bytes, and its objects.
use Rattle.std.specs.Prelude.{bytes_eq}
use Rattle.std.proofs.Common.{◌≡◌, ℕ, Bool, Bor, true, false, cond, List, [], ◌∷◌, Option, None, Some, Vec, String, refl, sym, ◌∙◌, ap, subst, map, Result, Ok, Err}
use Rattle.std.specs.Global.{Global}
use Rattle.std.specs.declared.cmp.Ordering.TheVariants.{Less, Equal, Greater}
use Rattle.std.specs.Ordering.{is_eq, match_ordering, nat_cmp}
use Rattle.std.specs.Option.{option_map, is_some}
use Rattle.std.specs.Cmp.Lexicographic.{slice_cmp}
use Rattle.std.specs.List.{AllByRecursion}
use Rattle.std.specs.List.Sorted.{IsStrictlySortedBy}
use Rattle.std.specs.Map.{lookup, keys_of, values_of}
use Rattle.std.specs.Map.Iter.{deref}
use Rattle.std.specs.BTreeMap.{IsOrdered, insert_entry, is_at, get_by_text}
use Rattle.std.specs.String.{string_bytes, string_cmp}
use Rattle.std.specs.FinMap as finite
use Rattle.std.proofs.lemmas.Map.Text.{is_eq-slice_cmp}
use Rattle.std.specs.Prelude.{unwrap_or, IfOk, IfSome, OnOk}
use Rattle.store_core.specs.Calls.{HasLanded, StandsAfter, put_told}
use Rattle.store_core.specs.declared.store.Put.{Put}
use Rattle.store_core.specs.declared.fault.StoreFault.{StoreFault}
use Rattle.outcomes.specs.Bytes.{IsBytes}
use Rattle.store_core.specs.Objects.{AreBytes, Objects, IsInOrder, name_order, object_at, names_of, with_object}
use Rattle.store_core.specs.ObjectLaws.{sorted_from_in_order, T_from_true, with_object_absent, object_at-with_object_same}
use Rattle.store_core.specs.Listed.{listed}
use Rattle.store_core.specs.Memory.{AreNamesOf, Tree, Stored, stored_object, objects_of, stored_objects, stored_of}
use Rattle.store_core.specs.declared.names.Names.{Names}
use Rattle.store_core.proofs.Placing.{names_inserted}
use Rattle.std.specs.BTreeSet.{insert_key}

-- the entries of a tree
abbrev Entries : Type 0
Entries = List (String Global × Vec ℕ Global)

-- names above a name in the tree are above it by their bytes
below_names : (name : String Global) (es : Entries) → AllByRecursion (λ other. string_cmp name other ≡ Less) (keys_of es) → AllByRecursion (λ other. name_order (string_bytes name) other ≡ Less) (names_of (map stored_object es))
below_names name [] h = tt
below_names name (e ∷ es) h = (h.0, below_names name es h.1)

-- the names of a tree in order rise by their bytes
names_rise : (es : Entries) → IsStrictlySortedBy string_cmp (keys_of es) → IsInOrder (map stored_object es)
unfolding IsStrictlySortedBy
names_rise [] h = tt
names_rise (e ∷ es) h = (below_names e.0 es h.0, names_rise es h.1)

-- what a store in memory stands for has the objects of its tree
pub stored_objects_of_tree : (tree : Tree) → IsOrdered string_cmp tree → stored_objects (stored_of tree) ≡ objects_of tree
stored_objects_of_tree tree h = finite.entries-from_sorted name_order (objects_of tree) (T_from_true _ (sorted_from_in_order _ (names_rise tree.entries h)))

-- the same of the store that stands for the tree
pub stored_objects_seen : (tree : Tree) (store : Stored) → stored_of tree ≡ store → IsOrdered string_cmp tree → stored_objects store ≡ objects_of tree
stored_objects_seen tree store e h = ap stored_objects (sym e) ∙ stored_objects_of_tree tree h

-- what a list of entries has under a name
found_in : (es : Entries) (name : List ℕ) → object_at (map stored_object es) name ≡ option_map (λ bytes. bytes.items) (lookup (is_at (λ k. slice_cmp nat_cmp name (string_bytes k))) es)
found_in [] name = refl
found_in (e ∷ es) name =
    ap (λ b. cond b (Some e.1.items) (object_at (map stored_object es) name)) (sym (is_eq-slice_cmp name (string_bytes e.0)))
    ∙ elim (is_eq (slice_cmp nat_cmp name (string_bytes e.0))) as (λ b. cond b (Some e.1.items) (object_at (map stored_object es) name)
    ≡ option_map (λ bytes. bytes.items) (cond b (Some e.1) (lookup (is_at (λ k. slice_cmp nat_cmp name (string_bytes k))) es))) [
      | true ↦ refl
      | false ↦ found_in es name
    ]

-- what the tree finds are the bytes that stand
pub object_at_tree : (tree : Tree) (name : List ℕ) → object_at (objects_of tree) name ≡ option_map (λ bytes. bytes.items) (get_by_text tree name)
object_at_tree tree name = found_in tree.entries name

-- an entry put into the tree is an object put among the objects
pub objects_inserted : (es : Entries) (name : String Global) (bytes : Vec ℕ Global) → map stored_object (insert_entry string_cmp es name bytes) ≡ insert_entry name_order (map stored_object es) (string_bytes name) bytes.items
objects_inserted [] name bytes = refl
objects_inserted (e ∷ es) name bytes =
    elim (string_cmp name e.0) as (λ o. map stored_object (match_ordering o ((name, bytes) ∷ e ∷ es) ((e.0, bytes) ∷ es) (e ∷ insert_entry string_cmp es name bytes))
    ≡ match_ordering o ((string_bytes name, bytes.items) ∷ stored_object e ∷ map stored_object es) ((string_bytes e.0, bytes.items) ∷ map stored_object es) (stored_object e ∷ insert_entry name_order (map stored_object es) (string_bytes name) bytes.items)) [
      | Less ↦ refl
      | Equal ↦ refl
      | Greater ↦ ap (λ rest. stored_object e ∷ rest) (objects_inserted es name bytes)
    ]

-- the names of the objects are the bytes of the keys
pub names_of_tree : (es : Entries) → names_of (map stored_object es) ≡ map string_bytes (keys_of es)
names_of_tree [] = refl
names_of_tree (e ∷ es) = ap (λ rest. string_bytes e.0 ∷ rest) (names_of_tree es)

-- where the bytes of each entry are bytes, so is what stands
pub bytes_of_tree : (es : Entries) → AllByRecursion (λ bytes. IsBytes bytes.items) (values_of es) → AreBytes (map stored_object es)
bytes_of_tree [] h name bytes is = absurd cc
bytes_of_tree (e ∷ es) h name bytes is = by_name (bytes_eq name (string_bytes e.0)) (bytes_of_tree es h.1 name bytes) is
  where
    by_name : (b : Bool) → (object_at (map stored_object es) name ≡ Some bytes → IsBytes bytes) → cond b (Some e.1.items) (object_at (map stored_object es) name) ≡ Some bytes → IsBytes bytes
    by_name true later found = let one : e.1.items ≡ bytes = cc in subst IsBytes one h.0
    by_name false later found = later found

-- so of borrowed bytes
pub bytes_of_borrowed : (lent : List (Bor (Vec ℕ Global))) → AllByRecursion (λ bytes. IsBytes bytes.now.items) lent → AllByRecursion (λ bytes. IsBytes bytes.items) (map deref lent)
bytes_of_borrowed [] h = tt
bytes_of_borrowed (bytes ∷ lent) h = (h.0, bytes_of_borrowed lent h.1)

-- the tree has a name just where the name stands
pub stands_in_tree : (tree : Tree) (name : List ℕ) → is_some (object_at (objects_of tree) name) ≡ is_some (get_by_text tree name)
stands_in_tree tree name = ap is_some (object_at_tree tree name) ∙ same_case (get_by_text tree name)
  where
    same_case : (found : Option (Vec ℕ Global)) → is_some (option_map (λ bytes. bytes.items) found) ≡ is_some found
    same_case None = refl
    same_case (Some bytes) = refl

-- an absent name put into the tree has landed among the objects
pub landed_in_tree : (old new : Tree) (key : String Global) (name : List ℕ) (bytes : Vec ℕ Global) → string_bytes key ≡ name → is_some (object_at (objects_of old) name) ≡ false → new.entries ≡ insert_entry string_cmp old.entries key bytes → objects_of new ≡ with_object (objects_of old) name bytes.items
landed_in_tree old new key name bytes e absent h =
    ap (map stored_object) h ∙ objects_inserted old.entries key bytes
    ∙ ap (λ k. insert_entry name_order (objects_of old) k bytes.items) e
    ∙ sym (with_object_absent (objects_of old) name bytes.items absent)

-- what stands under the name after a put
pub stands_after : (put : Put) (objects new : Objects) (name bytes : List ℕ) → put ≡ put_told (object_at objects name) → new ≡ with_object objects name bytes → StandsAfter put bytes (object_at new name)
stands_after put objects new name bytes told landed =
    let now : object_at new name ≡ Some (unwrap_or (object_at objects name) bytes) = ap (λ (o : Objects). object_at o name) landed ∙ object_at-with_object_same objects name bytes in
    subst (λ (p : Put). StandsAfter p bytes (object_at new name)) (sym told) (by_found (object_at objects name) refl now)
  where
    by_found : (found : Option (List ℕ)) → object_at objects name ≡ found → object_at new name ≡ Some (unwrap_or (object_at objects name) bytes) → StandsAfter (put_told found) bytes (object_at new name)
    by_found None h now = now ∙ ap (λ (f : Option (List ℕ)). Some (unwrap_or f bytes)) h
    by_found (Some kept) h now = ap is_some now

pub stands_where_told : (r : Result Put StoreFault) (objects new : Objects) (name bytes : List ℕ) → IfOk r (λ put. put ≡ put_told (object_at objects name)) → OnOk r (HasLanded name bytes (objects, []) (new, []))
    → IfOk r (λ put. StandsAfter put bytes (object_at new name))
stands_where_told (Ok put) objects new name bytes told landed = stands_after put objects new name bytes told landed.0
stands_where_told (Err e) objects new name bytes told landed = tt

-- the names of a tree in order rise
pub tree_rises : (tree : Tree) → IsOrdered string_cmp tree → IsStrictlySortedBy name_order (names_of (objects_of tree))
tree_rises tree h = names_rise tree.entries h

-- names that are kept, with one more, are those of the tree into which it was put
pub kept_inserted : (old new : Tree) (key : String Global) (name : List ℕ) (bytes : Vec ℕ Global) (kept : Option Names) → string_bytes key ≡ name → new.entries ≡ insert_entry string_cmp old.entries key bytes
    → IfSome kept (λ later. listed later ≡ insert_key name_order (names_of (objects_of old)) name) → AreNamesOf new kept
kept_inserted old new key name bytes None e h are = tt
kept_inserted old new key name bytes (Some later) e h are =
    let put : objects_of new ≡ insert_entry name_order (objects_of old) name bytes.items =
    ap (map stored_object) h ∙ objects_inserted old.entries key bytes ∙ ap (λ k. insert_entry name_order (objects_of old) k bytes.items) e in
    are ∙ sym (ap names_of put ∙ names_inserted (objects_of old) name bytes.items)
