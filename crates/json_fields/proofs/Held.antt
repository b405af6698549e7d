-- What is read meets what each value of its kind does.
use Rattle.std.proofs.Common.{◌≡◌, ℕ, List, Option, Some, None, option_map, Result, Ok, Err, refl, ap, subst, ◌∙◌}
use Rattle.std.specs.Prelude.{IfSome, unwrap_or}
use Rattle.serde_json.specs.Data.{Data}
use Rattle.outcomes.specs.Results.{◌>>=◌, or_refusal}
use Rattle.json_fields.specs.Kinds.{of_kind, field}
use Rattle.json_fields.specs.Fields.{optional, needed, defaulted}

-- ---- steps

-- the value of a step that did not fail
pub bind_ok : {A B E : Type 0} (r : Result A E) (f : A → Result B E) (y : B) → (r >>= f) ≡ Ok y → (x : A) × (r ≡ Ok x) × (f x ≡ Ok y)
bind_ok (Ok x) f y e = (x, refl, e)
bind_ok (Err d) f y e = absurd cc

abbrev done : {A E : Type 0} → A → Result A E
done x = Ok x

pub ok_is : {A E : Type 0} (x y : A) → done {E = E} x ≡ done y → x ≡ y
ok_is x y e = cc

-- ---- fields

module _ {A : Type 0} (kind : Data → Option A) (P : A → Type 0) (holds : (d : Data) (x : A) → kind d ≡ Some x → P x) where
  found_holds : (name : List ℕ) (d : Data) (r : Option A) (o : Option A) → kind d ≡ r → or_refusal (option_map Some r) name ≡ Ok o → IfSome o P
  found_holds name d None o is e = absurd cc
  found_holds name d (Some x) None is e = absurd cc
  found_holds name d (Some x) (Some y) is e = let same : x ≡ y = cc in holds d y (is ∙ ap Some same)

  optional_holds_at : (name : List ℕ) (m : Option Data) (o : Option A) → or_refusal (of_kind kind m) name ≡ Ok o → IfSome o P
  optional_holds_at name None None e = tt
  optional_holds_at name None (Some x) e = absurd cc
  optional_holds_at name (Some d) o e = found_holds name d (kind d) o refl e

  pub optional_holds : (name : List ℕ) (body : Data) (o : Option A) → optional kind name body ≡ Ok o → IfSome o P
  unfolding optional
  optional_holds name body o e = optional_holds_at name (field name body) o e

  needed_holds_at : (name : List ℕ) (o : Option A) (x : A) → IfSome o P → or_refusal o name ≡ Ok x → P x
  needed_holds_at name None x h e = absurd cc
  needed_holds_at name (Some y) x h e = let same : y ≡ x = cc in subst P same h

  pub needed_holds : (name : List ℕ) (body : Data) (x : A) → needed kind name body ≡ Ok x → P x
  unfolding needed
  needed_holds name body x e =
      let b = bind_ok (optional kind name body) (λ found. or_refusal found name) x e in
      needed_holds_at name b.0 x (optional_holds name body b.0 b.1) b.2

  defaulted_holds_at : (other : A) (o : Option A) → P other → IfSome o P → P (unwrap_or o other)
  defaulted_holds_at other None standard h = standard
  defaulted_holds_at other (Some x) standard h = h

  pub defaulted_holds : (name : List ℕ) (other : A) (body : Data) (x : A) → P other → defaulted kind name other body ≡ Ok x → P x
  unfolding defaulted
  defaulted_holds name other body x standard e =
      let b = bind_ok (optional kind name body) (λ found. Ok (unwrap_or found other)) x e in
      subst P (ok_is (unwrap_or b.0 other) x b.2) (defaulted_holds_at other b.0 standard (optional_holds name body b.0 b.1))
