-- The tests of equality hold exactly where values are equal.
use Rattle.std.proofs.Common.{◌≡◌, true, false, List, [], ◌∷◌, length, refl, sym, ap, subst}
use Rattle.std.specs.Prelude.{IsTrue, ◌↔◌}
use Rattle.std.proofs.lemmas.Bool.{false≢true, false_from_ne_true, and_parts, and_from}
use Rattle.std.proofs.lemmas.Bool.Decides.{Decides-int_eq}
use Rattle.std.proofs.lemmas.Slice.Eq.{bytes_eq-Decides}
use Rattle.row_core.specs.Rows.{Value, Values, null, truth, whole, text, bytes, structure, no_values, value, Row, values_of, same, same_values, same_rows}

mutual
  same_itself : (v : Value) → same v v ≡ true
  same_itself null = refl
  same_itself (truth true) = refl
  same_itself (truth false) = refl
  same_itself (whole z) = (Decides-int_eq z z).1 refl
  same_itself (text t) = (bytes_eq-Decides t t).1 refl
  same_itself (bytes t) = (bytes_eq-Decides t t).1 refl
  same_itself (structure vs) = same_values_itself vs

  same_values_itself : (vs : Values) → same_values vs vs ≡ true
  same_values_itself no_values = refl
  same_values_itself (value v vs) = and_from (same v v) (same_values vs vs) (same_itself v) (same_values_itself vs)

mutual
  same_is : (v w : Value) → same v w ≡ true → v ≡ w
  same_is null null e = refl
  same_is (truth true) (truth true) e = refl
  same_is (truth false) (truth false) e = refl
  same_is (whole a) (whole b) e = ap whole ((Decides-int_eq a b).0 e)
  same_is (text a) (text b) e = ap text ((bytes_eq-Decides a b).0 e)
  same_is (bytes a) (bytes b) e = ap bytes ((bytes_eq-Decides a b).0 e)
  same_is (structure vs) (structure ws) e = ap structure (same_values_is vs ws e)
  same_is _ _ e = absurd (false≢true e)

  same_values_is : (vs ws : Values) → same_values vs ws ≡ true → vs ≡ ws
  same_values_is no_values no_values e = refl
  same_values_is (value v vs) (value w ws) e =
      let both = and_parts (same v w) (same_values vs ws) e in
      let one : v ≡ w = same_is v w both.0 in
      let others : vs ≡ ws = same_values_is vs ws both.1 in
      cc
  same_values_is _ _ e = absurd (false≢true e)

values_of_is : (xs ys : List Row) → values_of xs ≡ values_of ys → xs ≡ ys
values_of_is [] [] e = refl
values_of_is [] (y ∷ ys) e = absurd cc
values_of_is (x ∷ xs) [] e = absurd cc
values_of_is (x ∷ xs) (y ∷ ys) e =
    let one : x ≡ y = cc in
    let others : values_of xs ≡ values_of ys = cc in
    let rest : xs ≡ ys = values_of_is xs ys others in
    cc

pub same_rows-is : (xs ys : List Row) → IsTrue (same_rows xs ys) ↔ (xs ≡ ys)
same_rows-is xs ys = (
  λ e. values_of_is xs ys (same_values_is (values_of xs) (values_of ys) e),
  λ e. subst (λ (zs : List Row). same_rows xs zs ≡ true) e (same_values_itself (values_of xs)),
)

pub same_rows-lengths : (xs ys : List Row) → (length xs ≡ length ys → ⊥) → false ≡ same_rows xs ys
same_rows-lengths xs ys differ = sym (false_from_ne_true (same_rows xs ys) (λ e. differ (ap (λ (rs : List Row). length rs) ((same_rows-is xs ys).0 e))))
