-- The tree of a table's own columns fits it.
use Rattle.std.proofs.Common.{◌≡◌, ℕ, suc, List, Bool, true, false, not, ◌||◌, bytes_eq, Option, Some, ℤ, refl, sym, ap, ◌∙◌}
use Rattle.std.proofs.lemmas.Bool.{and_parts, eq-eqb, false≢true}
use Rattle.std.proofs.lemmas.Bool.Decides.{Decides-int_eq}
use Rattle.std.proofs.lemmas.Slice.Eq.{bytes_eq-Decides}
use Rattle.schema_tree.specs.Limits.{is_sound, are_sound, has_field, is_named}
use Rattle.schema_tree.specs.Tree as tree
use Rattle.schema_tree.specs.Tree.{Tree, Column}
use Rattle.schema_tree.specs.declared.primitive.Primitive.{Primitive}
use Rattle.shred.specs.Shape.{shape_of, shapes_of}
use Rattle.parquet_schema.specs.FileTree.{FileNode, leaf, group, FileFields, no_fields, field, count_of}
use Rattle.parquet_schema.specs.Fitting.{are_distinct, count_of_columns, file_fields_of, file_node, fitted, fitted_fields, has_name, is_number, may_fit, physical_number}
use Rattle.parquet_schema.proofs.FitFields.{unless_true}
use Rattle.parquet_schema.proofs.LeafLevels.{some_is, mapped_is}

the_same : {X : Type 0} (x y : X) → Some x ≡ Some y → x ≡ y
the_same x y e = cc

bytes_same : (xs : List ℕ) → bytes_eq xs xs ≡ true
bytes_same xs = (bytes_eq-Decides xs xs).1 refl

bytes_turned : (xs ys : List ℕ) (b : Bool) → bytes_eq xs ys ≡ b → bytes_eq ys xs ≡ b
bytes_turned xs ys true e = (bytes_eq-Decides ys xs).1 (sym ((bytes_eq-Decides xs ys).0 e))
bytes_turned xs ys false e = unless_true (bytes_eq ys xs) (λ h. false≢true (sym e ∙ (bytes_eq-Decides xs ys).1 (sym ((bytes_eq-Decides ys xs).0 h))))

not_true : (b : Bool) → not b ≡ true → b ≡ false
not_true true e = absurd cc
not_true false e = refl

neither : (a b : Bool) → a || b ≡ false → (a ≡ false) × (b ≡ false)
neither true b e = absurd cc
neither false b e = (refl, e)

-- a column in front of others
abbrev all_of : Column → tree.Fields → tree.Fields
all_of c fs = tree.field c.name c.data_type c.nullable c.metadata fs

-- the name, the type and the others of fields that are sound
sound_field : (c : Column) (fs : tree.Fields) → are_sound (all_of c fs) ≡ true → (is_named c.name fs ≡ false) × (is_sound c.data_type ≡ true) × (are_sound fs ≡ true)
sound_field c fs sound =
    let one = and_parts _ (are_sound fs) sound in
    let two = and_parts _ (is_sound c.data_type) one.0 in
    let three = and_parts (not (is_named c.name fs)) _ two.0 in
    (not_true (is_named c.name fs) three.0, two.1, one.1)

-- the first of the fields and the others, as the file has them
record OwnField (c : Column) (fs : tree.Fields) (gs : FileFields) : Type 0 where
  pub node : FileNode
  pub others : FileFields
  pub own : file_node c.data_type ≡ Some node
  pub owned : file_fields_of fs ≡ Some others
  pub is : field c.name c.nullable node others ≡ gs

own_field : (c : Column) (fs : tree.Fields) (gs : FileFields) → file_fields_of (all_of c fs) ≡ Some gs → OwnField c fs gs
own_field c fs gs e =
    let first = some_is (file_node c.data_type) _ gs e in
    let rest = mapped_is (λ xs. field c.name c.nullable first.0 xs) (file_fields_of fs) gs first.2 in
    record { node = first.0; others = rest.0; own = first.1; owned = rest.1; is = rest.2 }

-- ---- names and counts

own_names : (name : List ℕ) (fs : tree.Fields) (gs : FileFields) → file_fields_of fs ≡ Some gs → is_named name fs ≡ false → has_name name gs ≡ false
own_names name tree.no_fields gs e named = rw (sym (the_same no_fields gs e)) refl
own_names name (tree.field other t nullable metadata fs) gs e named =
    let f = own_field (record { name = other; data_type = t; nullable = nullable; metadata = metadata }) fs gs e in
    let parts = neither (bytes_eq name other) (is_named name fs) named in
    rw (sym f.is, bytes_turned name other false parts.0) (own_names name fs f.others f.owned parts.1)

own_distinct : (fs : tree.Fields) (gs : FileFields) → file_fields_of fs ≡ Some gs → are_sound fs ≡ true → are_distinct gs ≡ true
own_distinct tree.no_fields gs e sound = rw (sym (the_same no_fields gs e)) refl
own_distinct (tree.field name t nullable metadata fs) gs e sound =
    let f = own_field (record { name = name; data_type = t; nullable = nullable; metadata = metadata }) fs gs e in
    let parts = sound_field (record { name = name; data_type = t; nullable = nullable; metadata = metadata }) fs sound in
    rw (sym f.is, own_names name fs f.others f.owned parts.0) (own_distinct fs f.others f.owned parts.2)

own_count : (fs : tree.Fields) (gs : FileFields) → file_fields_of fs ≡ Some gs → count_of_columns fs ≡ count_of gs
own_count tree.no_fields gs e = rw (sym (the_same no_fields gs e)) refl
own_count (tree.field name t nullable metadata fs) gs e =
    let f = own_field (record { name = name; data_type = t; nullable = nullable; metadata = metadata }) fs gs e in
    rw (sym f.is) (ap (λ n. suc n) (own_count fs f.others f.owned))

own_may : (fs : tree.Fields) (gs : FileFields) → file_fields_of fs ≡ Some gs → are_sound fs ≡ true → may_fit fs gs ≡ true
own_may fs gs e sound = rw (own_distinct fs gs e sound, eq-eqb (count_of_columns fs) (count_of gs) (own_count fs gs e)) refl

-- ---- one more field in the file

-- a field of another name changes nothing
passed_over : (name : List ℕ) (optional : Bool) (node : FileNode) (gs : FileFields) (fs : tree.Fields) → is_named name fs ≡ false → fitted_fields fs (field name optional node gs) ≡ fitted_fields fs gs
passed_over name optional node gs tree.no_fields named = refl
passed_over name optional node gs (tree.field other t nullable metadata fs) named =
    let parts = neither (bytes_eq name other) (is_named name fs) named in
    rw (parts.0, passed_over name optional node gs fs parts.1) refl

-- ---- the tree fits

abbrev Fitting : Tree → Type 0
Fitting t = (node : FileNode) → is_sound t ≡ true → file_node t ≡ Some node → fitted t node ≡ Some (shape_of t)

abbrev FieldsFitting : tree.Fields → Type 0
FieldsFitting fs = (gs : FileFields) → are_sound fs ≡ true → file_fields_of fs ≡ Some gs → fitted_fields fs gs ≡ Some (shapes_of fs)

same_number : (number : Option ℤ) (z : ℤ) → number ≡ Some z → is_number z number ≡ true
same_number number z e = rw e ((Decides-int_eq z z).1 refl)

leaf_fits : (p : Primitive) → Fitting (tree.leaf p)
leaf_fits p node sound e =
    let own = mapped_is leaf (physical_number p) node e in
    rw (sym own.2, same_number (physical_number p) own.0 own.1) refl

struct_fits : (fs : tree.Fields) → FieldsFitting fs → Fitting (tree.struct fs)
struct_fits fs fits node sound e =
    let own = mapped_is group (file_fields_of fs) node e in
    let parts = and_parts (has_field fs) (are_sound fs) sound in
    rw (sym own.2, own_may fs own.0 own.1 parts.1, fits own.0 parts.1 own.1) refl

field_fits : (c : Column) (fs : tree.Fields) → Fitting c.data_type → FieldsFitting fs → FieldsFitting (all_of c fs)
field_fits c fs one others gs sound e =
    let f = own_field c fs gs e in
    let parts = sound_field c fs sound in
    let rest : fitted_fields fs (field c.name c.nullable f.node f.others) ≡ Some (shapes_of fs) = passed_over c.name c.nullable f.node f.others fs parts.0 ∙ others f.others parts.2 f.owned in
    rw (sym f.is, bytes_same c.name, one f.node parts.1 f.own, rest) refl

mutual
  pub own_tree_fits : (t : Tree) → Fitting t
  own_tree_fits (tree.leaf p) = leaf_fits p
  own_tree_fits (tree.struct fs) = struct_fits fs (own_fields_fit fs)
  own_tree_fits (tree.array t nullable) = λ node sound e. absurd cc
  own_tree_fits (tree.map k v nullable) = λ node sound e. absurd cc

  own_fields_fit : (fs : tree.Fields) → FieldsFitting fs
  own_fields_fit tree.no_fields = λ gs sound e. refl
  own_fields_fit (tree.field name t nullable metadata fs) = field_fits (record { name = name; data_type = t; nullable = nullable; metadata = metadata }) fs (own_tree_fits t) (own_fields_fit fs)
