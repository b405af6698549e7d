-- The values of a struct, seen where they lie.
use Rattle.std.proofs.Common.{◌≡◌, ℕ, zero, suc, ◌<◌, ◌≤◌, length, get_or, List, [], ◌∷◌, Vec, Bor, Global, Option, Some, None, option_map, refl, ap, arith, rules}
use Rattle.std.specs.Slice.{IsItemAt}
use Rattle.row_core.specs.Rows.{values_of, structure}
use Rattle.row_core.specs.Views.{value_view, row_views}
use Rattle.row_core.specs.declared.value.Value.{Value, the_lemmas}
use Rattle.row_core.specs.declared.value.Value.TheVariants as values
use Rattle.shred.specs.Columns.{value_at}
use Rattle.shred.specs.Views.{borrowed_value}

pub view-Struct : (v : Vec Value Global) → value_view (values.Struct v) ≡ structure (values_of (row_views v.items))
view-Struct v = search (rules, the_lemmas)

value_there : (xs : List Value) (i : ℕ) (x : Value) → i < length xs → x ≡ get_or xs i x → Some (value_view x) ≡ value_at i (values_of (row_views xs))
value_there [] i x h at = absurd (omega arith)
value_there (y ∷ xs) zero x h at = ap (λ v. Some (value_view v)) at
value_there (y ∷ xs) (suc i) x h at = value_there xs i x (omega arith) at

value_past : (xs : List Value) (i : ℕ) → length xs ≤ i → None ≡ value_at i (values_of (row_views xs))
value_past [] i h = refl
value_past (y ∷ xs) zero h = absurd (omega arith)
value_past (y ∷ xs) (suc i) h = value_past xs i (omega arith)

pub item_seen : (xs : List Value) (i : ℕ) (r : Option (Bor Value)) → IsItemAt xs i r → option_map borrowed_value r ≡ value_at i (values_of (row_views xs))
item_seen xs i None h = value_past xs i h.3
item_seen xs i (Some x) h = value_there xs i x.now h.3.0 h.1
