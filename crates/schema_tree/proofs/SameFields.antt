-- Two lists of fields that are seen as the same columns.
use Rattle.std.proofs.Common.{◌≡◌, ℕ, zero, suc, ◌+◌, ◌<◌, ◌≤◌, List, [], ◌∷◌, ◌++◌, ◌||◌, false, length, get_or, take, refl, ◌∙◌, sym, ap, arith}
use Rattle.std.proofs.lemmas.List.{map_more, take_all}
use Rattle.serde_json.specs.Written.{has_float}
use Rattle.schema_tree.specs.Sameness.{has_fraction, have_fraction}
use Rattle.schema_tree.specs.Tree as tree
use Rattle.schema_tree.specs.Tree.{Column, Fields, no_fields, field, fields_of}
use Rattle.schema_tree.specs.View.{field_view, field_views}
use Rattle.schema_tree.specs.declared.node.Field.{Field}
use Rattle.schema_tree.proofs.Truths.{neither}

pub same_columns : (cs ds : List Column) → fields_of cs ≡ fields_of ds → cs ≡ ds
same_columns [] [] e = refl
same_columns [] (d ∷ ds) e = cc
same_columns (c ∷ cs) [] e = cc
same_columns (c ∷ cs) (d ∷ ds) e =
    let name : c.name ≡ d.name = cc in
    let type : c.data_type ≡ d.data_type = cc in
    let nullable : c.nullable ≡ d.nullable = cc in
    let metadata : c.metadata ≡ d.metadata = cc in
    let rest : fields_of cs ≡ fields_of ds = cc in
    let others : cs ≡ ds = same_columns cs ds rest in
    let first : c ≡ d = λ i. record { name = name i; data_type = type i; nullable = nullable i; metadata = metadata i } in
    cc

pub same_structs : (cs ds : List Column) → tree.struct (fields_of cs) ≡ tree.struct (fields_of ds) → cs ≡ ds
same_structs cs ds e = same_columns cs ds (cc)

-- a field of fields without fractions
pub without_fraction : {A : Type 0} → (fs : List (Field A)) (i : ℕ) (x : Field A) → i < length fs → x ≡ get_or fs i x → have_fraction (fields_of (field_views fs)) ≡ false → (has_fraction (field_view x).data_type ≡ false) × (has_float (field_view x).metadata ≡ false)
without_fraction [] i x h at e = absurd (omega arith)
without_fraction (f ∷ fs) zero x h at e =
    let a = neither (has_fraction (field_view f).data_type || has_float (field_view f).metadata) (have_fraction (fields_of (field_views fs))) e in
    rw at (neither (has_fraction (field_view f).data_type) (has_float (field_view f).metadata) a.0)
without_fraction (f ∷ fs) (suc i) x h at e =
    let a = neither (has_fraction (field_view f).data_type || has_float (field_view f).metadata) (have_fraction (fields_of (field_views fs))) e in
    without_fraction fs i x (omega arith) at a.1

pub same_at : {A B : Type 0} → (fs : List (Field A)) (gs : List (Field B)) (i : ℕ) (x : Field A) (y : Field B) → i < length fs → x ≡ get_or fs i x → y ≡ get_or gs i y → field_views fs ≡ field_views gs → field_view x ≡ field_view y
same_at [] gs i x y h at there e = absurd (omega arith)
same_at (f ∷ fs) [] i x y h at there e = cc
same_at (f ∷ fs) (g ∷ gs) zero x y h at there e =
    let here : field_view f ≡ field_view g = cc in
    ap field_view at ∙ (here ∙ sym (ap field_view there))
same_at (f ∷ fs) (g ∷ gs) (suc i) x y h at there e =
    let rest : field_views fs ≡ field_views gs = cc in
    same_at fs gs i x y (omega arith) at there rest

pub one_more_same : {A B : Type 0} → (fs : List (Field A)) (gs : List (Field B)) (i : ℕ) (x : Field A) (y : Field B) → i < length fs → length fs ≡ length gs → x ≡ get_or fs i x → y ≡ get_or gs i y → field_view x ≡ field_view y → field_views (take i fs) ≡ field_views (take i gs) → field_views (take (i + 1) fs) ≡ field_views (take (i + 1) gs)
one_more_same fs gs i x y h long at there same before =
    let others : i < length gs = omega arith in
    let left = map_more field_view fs i x h in
    let right = map_more field_view gs i y others in
    let ends : field_view (get_or fs i x) ≡ field_view (get_or gs i y) = ap field_view (sym at) ∙ (same ∙ ap field_view there) in
    left ∙ (ap (λ cs. cs ++ field_view (get_or fs i x) ∷ []) before ∙ (ap (λ c. field_views (take i gs) ++ c ∷ []) ends ∙ sym right))

pub all_same : {A B : Type 0} → (fs : List (Field A)) (gs : List (Field B)) (i : ℕ) → length fs ≤ i → length fs ≡ length gs → field_views (take i fs) ≡ field_views (take i gs) → field_views fs ≡ field_views gs
all_same fs gs i h long before =
    let others : length gs ≤ i = omega arith in
    sym (ap field_views (take_all i fs h)) ∙ (before ∙ ap field_views (take_all i gs others))
