-- The last field of an id, as a loop finds it.
use Rattle.std.proofs.Common.{◌≡◌, ℕ, ◌+◌, ◌≤◌, ℤ, false, List, ◌∷◌, length, drop, Option, Some, None, refl, sym, ◌∙◌}
use Rattle.std.specs.Ordering.{int_eq}
use Rattle.std.proofs.lemmas.List.{drop_all}
use Rattle.std.proofs.lemmas.Bool.Decides.{Decides-int_eq}
use Rattle.std.proofs.lemmas.Bool.{false_from_ne_true}
use Rattle.thrift_values.specs.Tree.{Tree, later, last_of, fields_of}
use Rattle.thrift_values.specs.View.{field_view, field_views}
use Rattle.thrift_values.specs.declared.value.Field.{Field}

later_assoc : (a b c : Option Tree) → later (later a b) c ≡ later a (later b c)
later_assoc (Some v) b c = refl
later_assoc None b c = refl

pub found_here : {A : Type 0} (id : ℤ) (fs : List (Field A)) (i : ℕ) (f : Field A) (before total : Option Tree) → drop i fs ≡ f ∷ drop (i + 1) fs → (field_view f).0 ≡ id
    → later (last_of id (fields_of (field_views (drop i fs)))) before ≡ total → later (last_of id (fields_of (field_views (drop (i + 1) fs)))) (Some (field_view f).1) ≡ total
found_here id fs i f before total here same so_far =
    let rest = last_of id (fields_of (field_views (drop (i + 1) fs))) in
    let one : later (last_of id (fields_of (field_views (drop i fs)))) before ≡ later (later rest (Some (field_view f).1)) before = rw (here, (Decides-int_eq (field_view f).0 id).1 same) refl in
    sym (later_assoc rest (Some (field_view f).1) before) ∙ sym one ∙ so_far

pub not_here : {A : Type 0} (id : ℤ) (fs : List (Field A)) (i : ℕ) (f : Field A) (before total : Option Tree) → drop i fs ≡ f ∷ drop (i + 1) fs → ((field_view f).0 ≡ id → ⊥)
    → later (last_of id (fields_of (field_views (drop i fs)))) before ≡ total → later (last_of id (fields_of (field_views (drop (i + 1) fs)))) before ≡ total
not_here id fs i f before total here other so_far =
    let rest = last_of id (fields_of (field_views (drop (i + 1) fs))) in
    let test : int_eq (field_view f).0 id ≡ false = false_from_ne_true _ (λ e. other ((Decides-int_eq (field_view f).0 id).0 e)) in
    let one : later (last_of id (fields_of (field_views (drop i fs)))) before ≡ later (later rest None) before = rw (here, test) refl in
    sym (later_assoc rest None before) ∙ sym one ∙ so_far

pub all_seen : {A : Type 0} (id : ℤ) (fs : List (Field A)) (i : ℕ) (before total : Option Tree) → length fs ≤ i → later (last_of id (fields_of (field_views (drop i fs)))) before ≡ total → before ≡ total
all_seen id fs i before total le so_far =
    let one : later (last_of id (fields_of (field_views (drop i fs)))) before ≡ before = rw (drop_all i fs le) refl in
    sym one ∙ so_far
