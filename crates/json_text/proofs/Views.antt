-- A value, level by level, and the members of an object as they are read.
use Rattle.std.proofs.Common.{◌≡◌, ℕ, List, [], ◌∷◌, ◌++◌, map, Vec, Global, length, suc, is_eq, cond, Option, Some, option_map, Ordering, Less, Equal, Greater, Bor, refl, ap, ◌∙◌, rules}
use Rattle.std.specs.Ordering.{nat_cmp, match_ordering}
use Rattle.std.specs.Cmp.Lexicographic.{slice_cmp}
use Rattle.std.specs.Map.{lookup}
use Rattle.std.specs.BTreeMap.{insert_entry, is_at}
use Rattle.serde_json.specs.Events.{items_len}
use Rattle.serde_json.specs.Find.{get_member}
use Rattle.serde_json.specs.View.{items_of}
use Rattle.serde_json.specs.Data.{Data, array, object, Members, no_members, put}
use Rattle.json_text.specs.View.{view, items_view, members_onto, members_view, named_view}
use Rattle.json_text.specs.declared.value.Value.{Value, Array, Object, the_lemmas}

pub view-Array : (v : Vec Value Global) → view (Array v) ≡ array (items_view v.items)
view-Array v = search (rules, the_lemmas)

pub view-Object : (v : Vec (Bor (List ℕ) × Value) Global) → view (Object v) ≡ object (members_view v.items)
view-Object v = search (rules, the_lemmas)

onto_push : (ms : List (Bor (List ℕ) × Value)) (k : Bor (List ℕ)) (v : Value) (found : Members)
    → members_onto (map (λ m. (m.0, view m.1)) (ms ++ (k, v) ∷ [])) found ≡ put k.now (view v) (members_onto (map (λ m. (m.0, view m.1)) ms) found)
onto_push [] k v found = refl
onto_push (m ∷ ms) k v found = onto_push ms k v (put m.0.now (view m.1) found)

-- what is pushed is put
pub members_view-push : (ms : List (Bor (List ℕ) × Value)) (k : Bor (List ℕ)) (v : Value) → members_view (ms ++ (k, v) ∷ []) ≡ put k.now (view v) (members_view ms)
members_view-push ms k v = onto_push ms k v no_members

pub items_len-map : {A : Type 0} (f : A → Data) (xs : List A) → items_len (items_of (map f xs)) ≡ length xs
items_len-map f [] = refl
items_len-map f (x ∷ xs) = ap suc (items_len-map f xs)

abbrev pub Entry : Type 0
Entry = Bor (List ℕ) × Bor Value

-- how the names of an object are compared
abbrev pub name_cmp : Bor (List ℕ) → Bor (List ℕ) → Ordering
name_cmp a b = slice_cmp nat_cmp a.now b.now

named_view-match_ordering : (o : Ordering) (a b c : List Entry) → named_view (match_ordering o a b c) ≡ match_ordering o (named_view a) (named_view b) (named_view c)
named_view-match_ordering Less a b c = refl
named_view-match_ordering Equal a b c = refl
named_view-match_ordering Greater a b c = refl

-- what is inserted is put
pub named_view-insert_entry : (es : List Entry) (k : Bor (List ℕ)) (v : Bor Value) → named_view (insert_entry name_cmp es k v) ≡ put k.now (view v.now) (named_view es)
named_view-insert_entry [] k v = refl
named_view-insert_entry (e ∷ es) k v = named_view-match_ordering (name_cmp k e.0) _ _ _ ∙ rw (named_view-insert_entry es k v)

found_or : (o : Ordering) (v : Bor Value) (rest : Option (Bor Value)) (d : Option Data)
    → option_map (λ v. view v.now) rest ≡ d → option_map (λ v. view v.now) (cond (is_eq o) (Some v) rest) ≡ match_ordering o d (Some (view v.now)) d
found_or Less v rest d e = e
found_or Equal v rest d e = refl
found_or Greater v rest d e = e

pub view-lookup : (name : List ℕ) (es : List Entry) → option_map (λ v. view v.now) (lookup (is_at (λ k. slice_cmp nat_cmp name k.now)) es) ≡ get_member name (named_view es)
view-lookup name [] = refl
view-lookup name (e ∷ es) = found_or (slice_cmp nat_cmp name e.0.now) e.1 _ _ (view-lookup name es)
