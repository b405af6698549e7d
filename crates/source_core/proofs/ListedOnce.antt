-- A store lists each name once.
use Rattle.std.proofs.Common.{◌≡◌, ◌∙◌, ◌≤◌, ℕ, List, [], ◌∷◌, Bool, true, false, refl, sym, ap, arith}
use Rattle.std.specs.Prelude.{bytes_eq}
use Rattle.std.specs.List.{AllByRecursion}
use Rattle.std.specs.List.Sorted.{IsStrictlySortedBy}
use Rattle.std.specs.Ordering.{eq_by_cmp}
use Rattle.std.proofs.lemmas.Map.Keys.{IsDistinct-from_sorted, IsDistinct-head, sorted_tail}
use Rattle.std.proofs.lemmas.Map.Text.{is_eq-slice_cmp}
use Rattle.std.proofs.lemmas.Slice.Eq.{bytes_eq-Decides}
use Rattle.store_core.specs.Objects.{name_order}
use Rattle.log_reading.specs.Readings.{how_often, one_if_named}

not_behind : (name : List ℕ) (names : List (List ℕ)) → AllByRecursion (λ other. eq_by_cmp name_order name other ≡ false) names → how_often name names ≡ 0
not_behind name [] all = refl
not_behind name (other ∷ names) all =
    let differs : bytes_eq name other ≡ false = sym (is_eq-slice_cmp name other) ∙ all.0 in
    let none : one_if_named name other ≡ 0 = rw differs refl in
    omega (arith, none, not_behind name names all.1)

-- in rising order each stands once
pub sorted_once : (name : List ℕ) (names : List (List ℕ)) → IsStrictlySortedBy name_order names → how_often name names ≤ 1
sorted_once name [] sorted = omega arith
sorted_once name (other ∷ names) sorted = by_test (bytes_eq name other) refl (sorted_once name names (sorted_tail name_order other names sorted))
  where
    by_test : (same : Bool) → bytes_eq name other ≡ same → how_often name names ≤ 1 → how_often name (other ∷ names) ≤ 1
    by_test true e rest =
        let same : name ≡ other = (bytes_eq-Decides name other).0 e in
        let one : one_if_named name other ≡ 1 = rw e refl in
        let none : how_often name names ≡ 0 = ap (λ (n : List ℕ). how_often n names) same ∙ not_behind other names (IsDistinct-head (eq_by_cmp name_order) other names (IsDistinct-from_sorted name_order (other ∷ names) sorted)) in
        omega (arith, one, none)
    by_test false e rest =
        let none : one_if_named name other ≡ 0 = rw e refl in
        omega (arith, none, rest)
