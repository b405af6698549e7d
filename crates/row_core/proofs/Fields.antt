-- A type's fields, one by one.
use Rattle.std.proofs.Common.{◌≡◌, ℕ, zero, suc, ◌+◌, ◌<◌, ◌≤◌, List, [], ◌∷◌, ◌||◌, true, false, bytes_eq, length, map, get_or, drop, Vec, string_bytes, ap, sym, subst, ◌∙◌, rules, arith}
use Rattle.std.proofs.lemmas.List.{drop_more, drop_all}
use Rattle.std.specs.Prelude.{not, is_some}
use Rattle.serde_json.specs.Find.{as_object}
use Rattle.schema_tree.specs.Limits.{is_named, is_sound, are_sound}
use Rattle.schema_tree.specs.Tree as tree
use Rattle.schema_tree.specs.Tree.{Fields, field, Column, fields_of}
use Rattle.schema_tree.specs.View.{view, field_view, field_views}
use Rattle.schema_tree.specs.declared.node.Node.{Node, the_lemmas}
use Rattle.schema_tree.specs.declared.node.Node.TheVariants as nodes
use Rattle.schema_tree.specs.declared.node.Field.{Field, size-Field, out-Field}
use Rattle.row_core.proofs.Truths.{all_four}
use denote.Param.Weighed.{most, at_most}

pub view-Struct : {A : Type 0} → (v : Vec (Field A) A) → view (nodes.Struct v) ≡ tree.struct (fields_of (field_views v.items))
view-Struct v = search (rules, the_lemmas)

-- a node that is a struct, as the tree of its fields
pub struct_seen : {A : Type 0} → (v : Vec (Field A) A) (fs : List (Field A)) (n : Node A) → fs ≡ v.items → n ≡ nodes.Struct v → tree.struct (fields_of (field_views fs)) ≡ view n
struct_seen v fs n slice is = ap (λ gs. tree.struct (fields_of (field_views gs))) slice ∙ (sym (view-Struct v) ∙ sym (ap view is))

-- a field, part by part
pub name_seen : {A : Type 0} → (f : Field A) → string_bytes (out-Field A f).name ≡ (field_view f).name
name_seen {A} f = search (rules, the_lemmas)

pub type_seen : {A : Type 0} → (f : Field A) → view (out-Field A f).data_type ≡ (field_view f).data_type
type_seen {A} f = search (rules, the_lemmas)

-- what is left of a list, of which this is the first
pub next_seen : {X Y : Type 0} (f : X → Y) (xs : List X) (i : ℕ) (x : X) → i < length xs → x ≡ get_or xs i x → map f (drop i xs) ≡ f x ∷ map f (drop (i + 1) xs)
next_seen f xs i x h at = ap (map f) (drop_more xs i x h) ∙ ap (λ y. f y ∷ map f (drop (i + 1) xs)) (sym at)

-- nothing is left
pub none_seen : {X Y : Type 0} (f : X → Y) (xs : List X) (i : ℕ) → length xs ≤ i → map f (drop i xs) ≡ []
none_seen f xs i h = ap (map f) (drop_all i xs h)

-- a field is no deeper than all fields
pub falls_within : {A : Type 0} → (fs : List (Field A)) (i : ℕ) (f : Field A) → i < length fs → f ≡ get_or fs i f → size-Field A f ≤ most (size-Field A) fs
falls_within {A} fs i f h at = subst (λ y. size-Field A y ≤ most (size-Field A) fs) (sym at) (at_most (size-Field A) fs i f h)

-- the first of these fields has the name
pub named_here : (name : List ℕ) (cs others : List Column) (c : Column) → cs ≡ c ∷ others → bytes_eq name c.name ≡ true → true ≡ is_named name (fields_of cs)
named_here name cs others c first same = ap (λ b. b || is_named name (fields_of others)) (sym same) ∙ sym (ap (λ ds. is_named name (fields_of ds)) first)

pub not_named_here : (name : List ℕ) (cs others : List Column) (c : Column) → cs ≡ c ∷ others → bytes_eq name c.name ≡ false → is_named name (fields_of others) ≡ is_named name (fields_of cs)
not_named_here name cs others c first other = ap (λ b. b || is_named name (fields_of others)) (sym other) ∙ sym (ap (λ ds. is_named name (fields_of ds)) first)

sound_first : (c : Column) (fs : Fields) → are_sound (field c.name c.data_type c.nullable c.metadata fs) ≡ true → is_sound c.data_type ≡ true
sound_first c fs e = (all_four (not (is_named c.name fs)) (is_some (as_object c.metadata)) (is_sound c.data_type) (are_sound fs) e).2

sound_rest : (c : Column) (fs : Fields) → are_sound (field c.name c.data_type c.nullable c.metadata fs) ≡ true → are_sound fs ≡ true
sound_rest c fs e = (all_four (not (is_named c.name fs)) (is_some (as_object c.metadata)) (is_sound c.data_type) (are_sound fs) e).3

-- the type of a sound field is sound
pub sound_at : {A : Type 0} → (fs : List (Field A)) (i : ℕ) (f : Field A) → i < length fs → f ≡ get_or fs i f → are_sound (fields_of (field_views fs)) ≡ true → is_sound (field_view f).data_type ≡ true
sound_at [] i f h at e = absurd (omega arith)
sound_at (g ∷ fs) zero f h at e = ap (λ x. is_sound (field_view x).data_type) at ∙ sound_first (field_view g) (fields_of (field_views fs)) e
sound_at (g ∷ fs) (suc i) f h at e = sound_at fs i f (omega arith) at (sound_rest (field_view g) (fields_of (field_views fs)) e)
