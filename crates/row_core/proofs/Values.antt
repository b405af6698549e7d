-- The values of a struct's fields, one after another.
use Rattle.std.proofs.Common.{◌≡◌, suc, List, [], ◌∷◌, ◌&&◌, ◌||◌, Bool, true, false, length, Vec, Global, refl, ap, sym, ◌∙◌, rules}
use Rattle.schema_tree.specs.Tree.{Column, fields_of}
use Rattle.row_core.specs.Conforms.{is_value, are_values, is_null}
use Rattle.row_core.specs.Rows.{Row, structure, values_of}
use Rattle.row_core.specs.Views.{value_view, row_views}
use Rattle.row_core.specs.declared.value.Value.{Value, the_lemmas}
use Rattle.row_core.proofs.Truths.{and_false}
use Rattle.row_core.specs.declared.value.Value.TheVariants as values

pub view-Struct : (v : Vec Value Global) → value_view (values.Struct v) ≡ structure (values_of (row_views v.items))
view-Struct v = search (rules, the_lemmas)

-- a value that is a struct
pub structure_seen : (v : Vec Value Global) (vs : List Value) (x : Value) → vs ≡ v.items → x ≡ values.Struct v → structure (values_of (row_views vs)) ≡ value_view x
structure_seen v vs x slice is = ap (λ ws. structure (values_of (row_views ws))) slice ∙ (sym (view-Struct v) ∙ sym (ap value_view is))

-- whether a value is one of the field
abbrev pub is_of_column : Column → Row → Bool
is_of_column c v = c.nullable && is_null v || is_value c.data_type v

pub lengths_differ : (cs : List Column) (vs : List Row) → (length cs ≡ length vs → ⊥) → false ≡ are_values (fields_of cs) (values_of vs)
lengths_differ [] [] h = absurd (h refl)
lengths_differ [] (v ∷ vs) h = refl
lengths_differ (c ∷ cs) [] h = refl
lengths_differ (c ∷ cs) (v ∷ vs) h =
    let rest = lengths_differ cs vs (λ e. h (ap suc e)) in
    and_false (is_of_column c v) ∙ ap (λ b. is_of_column c v && b) rest

pub one_is_none : (cs others : List Column) (vs more : List Row) (c : Column) (v : Row) → cs ≡ c ∷ others → vs ≡ v ∷ more → is_of_column c v ≡ false → false ≡ are_values (fields_of cs) (values_of vs)
one_is_none cs others vs more c v first head none = rw (first, head, none) refl

pub one_is : (cs others : List Column) (vs more : List Row) (c : Column) (v : Row) → cs ≡ c ∷ others → vs ≡ v ∷ more → is_of_column c v ≡ true → are_values (fields_of others) (values_of more) ≡ are_values (fields_of cs) (values_of vs)
one_is cs others vs more c v first head is = rw (first, head, is) refl

pub all_are : (cs : List Column) (vs : List Row) → cs ≡ [] → vs ≡ [] → true ≡ are_values (fields_of cs) (values_of vs)
all_are cs vs first head = rw (first, head) refl
