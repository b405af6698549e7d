-- The type of a field of an id, as a loop finds it.
use Rattle.std.proofs.Common.{◌≡◌, ℕ, ◌+◌, ◌≤◌, ℤ, false, List, ◌∷◌, length, drop, Option, Some, None, refl, sym, ◌∙◌}
use Rattle.std.specs.Ordering.{int_eq}
use Rattle.std.proofs.lemmas.List.{drop_all}
use Rattle.std.proofs.lemmas.Bool.Decides.{Decides-int_eq}
use Rattle.std.proofs.lemmas.Bool.{false_from_ne_true}
use Rattle.thrift_core.specs.Form.{Form, field_form_view, field_form_views, form_at}
use Rattle.thrift_core.specs.declared.form.FieldForm.{FieldForm}

pub form_here : (id : ℤ) (fs : List FieldForm) (i : ℕ) (f : FieldForm) (total : Option Form) → drop i fs ≡ f ∷ drop (i + 1) fs → (field_form_view f).0 ≡ id
    → form_at id (field_form_views (drop i fs)) ≡ total → Some (field_form_view f).1 ≡ total
form_here id fs i f total here same so_far =
    let one : form_at id (field_form_views (drop i fs)) ≡ Some (field_form_view f).1 = rw (here, (Decides-int_eq (field_form_view f).0 id).1 same) refl in
    sym one ∙ so_far

pub form_not_here : (id : ℤ) (fs : List FieldForm) (i : ℕ) (f : FieldForm) (total : Option Form) → drop i fs ≡ f ∷ drop (i + 1) fs → ((field_form_view f).0 ≡ id → ⊥)
    → form_at id (field_form_views (drop i fs)) ≡ total → form_at id (field_form_views (drop (i + 1) fs)) ≡ total
form_not_here id fs i f total here other so_far =
    let test : int_eq (field_form_view f).0 id ≡ false = false_from_ne_true _ (λ e. other ((Decides-int_eq (field_form_view f).0 id).0 e)) in
    let one : form_at id (field_form_views (drop i fs)) ≡ form_at id (field_form_views (drop (i + 1) fs)) = rw (here, test) refl in
    sym one ∙ so_far

pub form_nowhere : (id : ℤ) (fs : List FieldForm) (i : ℕ) (total : Option Form) → length fs ≤ i → form_at id (field_form_views (drop i fs)) ≡ total → None ≡ total
form_nowhere id fs i total le so_far =
    let one : form_at id (field_form_views (drop i fs)) ≡ None = rw (drop_all i fs le) refl in
    sym one ∙ so_far
