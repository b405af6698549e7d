-- Leaves that are put one after another.
use Rattle.std.proofs.Common.{◌≡◌, ℕ, List, [], ◌∷◌, ◌++◌, map, Bool, true, false, refl, sym, ap, ◌∙◌, append_assoc, rules, Global, Vec, string_bytes, inl, inr, ◌⊎◌, ◌≤◌, length, Bor, arith, subst}
use denote.Param.Weighed.{most}
use Rattle.std.proofs.lemmas.List.{append-nil, map-append, map_push}
use Rattle.schema_tree.specs.Tree.{fields_of as tree_fields, Column}
use Rattle.schema_tree.specs.View.{view as type_view, field_view as column_view, field_views as column_views}
use Rattle.schema_tree.specs.Tree as tree
use Rattle.schema_tree.specs.declared.node.Field.{Field, out-Field, size-Field}
use Rattle.schema_tree.specs.declared.node.Node.{the_lemmas as node_lemmas}
use Rattle.schema_tree.specs.declared.node.Node.TheVariants as nodes
use Rattle.shred.specs.Shape as shapes
use Rattle.shred.specs.Shape.{fields_of as shape_fields}
use Rattle.shred.specs.Views.{shape_view, field_view as shape_field_view, field_views as shape_field_views}
use Rattle.shred.specs.declared.shapes.ShapeField.{ShapeField, out-ShapeField}
use Rattle.shred.specs.declared.shapes.Shape.{the_lemmas as shape_lemmas}
use Rattle.shred.specs.declared.shapes.Shape.TheVariants as shape_variants
use Rattle.parquet_schema.specs.Leaves.{LeafIn, leaves_under, field_leaves, flag_of, leaf_inside, leaves_in, leaves_of_fields}

-- the leaves of fields and their shapes
abbrev pub each_leaves : {A : Type 0} → List (Field A) → List ShapeField → List LeafIn
each_leaves fs ss = leaves_of_fields (tree_fields (column_views fs)) (shape_fields (shape_field_views ss))

-- the leaves of the first field and those of the others
pub first_leaves : {A : Type 0} (fs others : List (Field A)) (ss behind_it : List ShapeField) (f : Field A) (s : ShapeField) → fs ≡ f ∷ others → ss ≡ s ∷ behind_it → each_leaves fs ss ≡ field_leaves (column_view f) (shape_field_view s) ++ each_leaves others behind_it
first_leaves fs others ss behind_it f s one two = rw (one, two) refl

-- where either has ended nothing is left
pub no_leaves : {A : Type 0} (fs : List (Field A)) (ss : List ShapeField) → (length fs ≡ 0) ⊎ (length ss ≡ 0) → each_leaves fs ss ≡ []
no_leaves [] ss e = refl
no_leaves (f ∷ fs) [] e = refl
no_leaves (f ∷ fs) (s ∷ ss) (inl e) = absurd (omega (arith, e))
no_leaves (f ∷ fs) (s ∷ ss) (inr e) = absurd (omega (arith, e))

-- the leaves of one more field are put
pub one_put : (names names_now : List (List ℕ)) (flags flags_now : List Bool) (before now total first others all : List LeafIn) → names_now ≡ names → flags_now ≡ flags → all ≡ first ++ others → now ≡ before ++ leaves_under names_now flags_now first
    → before ++ leaves_under names flags all ≡ total → now ++ leaves_under names flags others ≡ total
one_put names names_now flags flags_now before now total first others all same_names same_flags is put so_far =
    let split : leaves_under names flags all ≡ leaves_under names flags first ++ leaves_under names flags others = ap (leaves_under names flags) is ∙ map-append _ first others in
    let more : now ≡ before ++ leaves_under names flags first = put ∙ rw (same_names, same_flags) refl in
    rw more (append_assoc before (leaves_under names flags first) (leaves_under names flags others)) ∙ (ap (λ ls. before ++ ls) (sym split) ∙ so_far)

-- all are put
pub all_put : (names : List (List ℕ)) (flags : List Bool) (now total left : List LeafIn) → left ≡ [] → now ++ leaves_under names flags left ≡ total → now ≡ total
all_put names flags now total left none so_far = sym (append-nil now) ∙ (ap (λ ls. now ++ leaves_under names flags ls) (sym none) ∙ so_far)

-- the leaves below a field, seen from above the field
pub under_field : (names names_now : List (List ℕ)) (flags flags_now : List Bool) (name : List ℕ) (optional nullable : Bool) → names_now ≡ names ++ name ∷ [] → flags_now ≡ flags ++ flag_of optional nullable
    → (ls : List LeafIn) → leaves_under names_now flags_now ls ≡ leaves_under names flags (map (leaf_inside name optional nullable) ls)
under_field names names_now flags flags_now name optional nullable longer more [] = refl
under_field names names_now flags flags_now name optional nullable longer more (l ∷ ls) =
    let way : names_now ++ l.names ≡ names ++ (name ∷ l.names) = ap (λ a. a ++ l.names) longer ∙ append_assoc names (name ∷ []) l.names in
    let levels : flags_now ++ l.nullable ≡ flags ++ (flag_of optional nullable ++ l.nullable) = ap (λ a. a ++ l.nullable) more ∙ append_assoc flags (flag_of optional nullable) l.nullable in
    let others = under_field names names_now flags flags_now name optional nullable longer more ls in
    λ i. record { names = way i; leaf_type = l.leaf_type; nullable = levels i } ∷ others i

-- the leaves of a whole table
pub from_above : (names : List (List ℕ)) (flags : List Bool) → names ≡ [] → flags ≡ [] → (ls : List LeafIn) → leaves_under names flags ls ≡ ls
from_above names flags top none [] = refl
from_above names flags top none (l ∷ ls) =
    let way : names ++ l.names ≡ l.names = ap (λ a. a ++ l.names) top in
    let levels : flags ++ l.nullable ≡ l.nullable = ap (λ a. a ++ l.nullable) none in
    let others = from_above names flags top none ls in
    λ i. record { names = way i; leaf_type = l.leaf_type; nullable = levels i } ∷ others i

pub shape_seen : (s : ShapeField) → shape_view (out-ShapeField s).shape ≡ (shape_field_view s).shape
shape_seen s = search (rules, shape_lemmas)

pub optional_seen : (s : ShapeField) → (out-ShapeField s).optional ≡ (shape_field_view s).optional
optional_seen s = search (rules, shape_lemmas)

pub name_seen : {A : Type 0} → (f : Field A) → string_bytes (out-Field A f).name ≡ (column_view f).name
name_seen {A} f = search (rules, node_lemmas)

pub type_seen : {A : Type 0} → (f : Field A) → type_view (out-Field A f).data_type ≡ (column_view f).data_type
type_seen {A} f = search (rules, node_lemmas)

pub nullable_seen : {A : Type 0} → (f : Field A) → (out-Field A f).nullable ≡ (column_view f).nullable
nullable_seen {A} f = search (rules, node_lemmas)

pub shape-Struct : (v : Vec ShapeField Global) → shape_view (shape_variants.Struct v) ≡ shapes.struct (shape_fields (shape_field_views v.items))
shape-Struct v = search (rules, shape_lemmas)

pub type-Struct : {A : Type 0} (v : Vec (Field A) A) → type_view (nodes.Struct v) ≡ tree.struct (tree_fields (column_views v.items))
type-Struct v = search (rules, node_lemmas)

flag_pushed : (o o_seen n n_seen : Bool) (flags now : List Bool) → o ≡ true → o ≡ o_seen → n ≡ n_seen → now ≡ flags ++ n ∷ [] → now ≡ flags ++ flag_of o_seen n_seen
flag_pushed o o_seen n n_seen flags now may same nullable e = rw (sym same ∙ may, sym nullable) e

flag_left : (o o_seen n : Bool) (flags now : List Bool) → o ≡ false → o ≡ o_seen → now ≡ flags → now ≡ flags ++ flag_of o_seen n
flag_left o o_seen n flags now may same e = rw (sym same ∙ may) (e ∙ sym (append-nil flags))

-- a field that may be null in the file has a flag, and no other
pub flag_put : {A : Type 0} (f : Field A) (s : ShapeField) (flags now : List Bool) → (out-ShapeField s).optional ≡ true → now ≡ flags ++ (out-Field A f).nullable ∷ [] → now ≡ flags ++ flag_of (shape_field_view s).optional (column_view f).nullable
flag_put f s flags now may e = flag_pushed _ _ _ _ flags now may (optional_seen s) (nullable_seen f) e

pub no_flag : {A : Type 0} (f : Field A) (s : ShapeField) (flags now : List Bool) → (out-ShapeField s).optional ≡ false → now ≡ flags → now ≡ flags ++ flag_of (shape_field_view s).optional (column_view f).nullable
no_flag f s flags now may e = flag_left _ _ _ flags now may (optional_seen s) e

-- the name of a field is on the way
pub name_put : {A : Type 0} (f : Field A) (way now : List (Bor (List ℕ))) (name : Bor (List ℕ)) → now ≡ way ++ name ∷ [] → name.now ≡ string_bytes (out-Field A f).name → map (λ n. n.now) now ≡ map (λ n. n.now) way ++ (column_view f).name ∷ []
name_put f way now name e is = ap (map (λ (n : Bor (List ℕ)). n.now)) e ∙ (map_push (λ (n : Bor (List ℕ)). n.now) way name ∙ ap (λ s. map (λ (n : Bor (List ℕ)). n.now) way ++ s ∷ []) (is ∙ name_seen f))

-- the leaves of a field are put
pub field_put : {A : Type 0} (f : Field A) (s : ShapeField) (names names_now : List (List ℕ)) (flags flags_now : List Bool) (before now : List LeafIn) → names_now ≡ names ++ (column_view f).name ∷ [] → flags_now ≡ flags ++ flag_of (shape_field_view s).optional (column_view f).nullable
    → now ≡ before ++ leaves_under names_now flags_now (leaves_in (type_view (out-Field A f).data_type) (shape_view (out-ShapeField s).shape)) → now ≡ before ++ leaves_under names flags (field_leaves (column_view f) (shape_field_view s))
field_put f s names names_now flags flags_now before now longer more put =
    put ∙ ap (λ ls. before ++ ls) (rw (type_seen f, shape_seen s) (under_field names names_now flags flags_now (column_view f).name (shape_field_view s).optional (column_view f).nullable longer more (leaves_in (column_view f).data_type (shape_field_view s).shape)))

-- what is left of fields is no deeper than they are
abbrev pub IsNoDeeper : {A : Type 0} → List (Field A) → List (Field A) → Type 0
IsNoDeeper {A} left all = most (size-Field A) left ≤ most (size-Field A) all

pub others_fall : {A : Type 0} (left others all : List (Field A)) (f : Field A) → left ≡ f ∷ others → IsNoDeeper left all → IsNoDeeper others all
others_fall {A} left others all f is h =
    let one : most (size-Field A) (f ∷ others) ≤ most (size-Field A) all = subst (λ fs. most (size-Field A) fs ≤ most (size-Field A) all) is h in
    omega arith

pub first_falls : {A : Type 0} (left others all : List (Field A)) (f : Field A) → left ≡ f ∷ others → IsNoDeeper left all → size-Field A f ≤ most (size-Field A) all
first_falls {A} left others all f is h =
    let one : most (size-Field A) (f ∷ others) ≤ most (size-Field A) all = subst (λ fs. most (size-Field A) fs ≤ most (size-Field A) all) is h in
    omega arith
