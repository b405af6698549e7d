-- What a shape that a file's columns gave a table's type tells of both.
use Rattle.std.proofs.Common.{◌≡◌, ℕ, suc, ◌≤◌, max, length, ℤ, not, ◌||◌, List, Bool, true, false, cond, bytes_eq, Option, Some, None, option_map, refl, sym, ap, subst, ◌∙◌, arith}
use Rattle.std.proofs.lemmas.Bool.{and_parts, eqb-true, false_from_ne_true, false≢true}
use Rattle.std.proofs.lemmas.List.{length-map}
use Rattle.std.proofs.lemmas.Slice.Eq.{bytes_eq-Decides}
use Rattle.outcomes.specs.Options.{◌>>=◌}
use Rattle.row_core.specs.Unsupported.{unsupported, unsupported_field}
use Rattle.schema_tree.specs.Limits.{are_sound, has_field, is_named, is_sound, levels, levels_of_fields}
use Rattle.schema_tree.specs.Tree as tree
use Rattle.schema_tree.specs.Tree.{Tree, Column}
use Rattle.schema_tree.specs.declared.primitive.Primitive.{Primitive}
use Rattle.schema_tree.specs.declared.primitive.Primitive.TheVariants as primitive
use Rattle.shred.specs.Shape as shapes
use Rattle.shred.specs.Shape.{Shape, HasFields, HaveFields}
use Rattle.shred.specs.Ways.{highest, ways}
use Rattle.page_cells.specs.Types.{leaf_type, physical_type, type_number}
use Rattle.page_cells.specs.declared.types.LeafType.{LeafType}
use Rattle.parquet_schema.specs.FileTree.{FileField, FileFields, FileNode, count_of, depth, depth_of_fields, field, group, leaf, no_fields}
use Rattle.parquet_schema.specs.Fitting.{count_of_columns, field_named, fitted, fitted_fields, is_number, may_fit, physical_number}
use Rattle.parquet_schema.specs.Leaves.{LeafIn, leaves_in}
use Rattle.parquet_schema.proofs.Callers.{leaf_levels}

-- ---- steps that found something

pub some_is : {X Y : Type 0} (o : Option X) (f : X → Option Y) (y : Y) → (o >>= f) ≡ Some y
    → (x : X) × (o ≡ Some x) × (f x ≡ Some y)
some_is None f y e = absurd cc
some_is (Some x) f y e = (x, refl, e)

pub mapped_is : {X Y : Type 0} (f : X → Y) (o : Option X) (y : Y) → option_map f o ≡ Some y
    → (x : X) × (o ≡ Some x) × (f x ≡ y)
mapped_is f None y e = absurd cc
mapped_is f (Some x) y e = (x, refl, cc)

pub if_is : {X : Type 0} (b : Bool) (o : Option X) (x : X) → cond b o None ≡ Some x → (b ≡ true) × (o ≡ Some x)
if_is true o x e = (refl, e)
if_is false o x e = absurd cc

-- ---- a leaf that fits

-- the leaf's type
pub record LeafFits (p : Primitive) (s : Shape) : Type 0 where
  pub type : LeafType
  pub stored : leaf_type p ≡ Some type
  pub is : shapes.leaf ≡ s

number_type : (o : Option LeafType) (number : ℤ)
    → is_number number (option_map (λ t. type_number (physical_type t)) o) ≡ true → (type : LeafType) × (o ≡ Some type)
number_type None number e = absurd cc
number_type (Some type) number e = (type, refl)

pub leaf_fits : (p : Primitive) (node : FileNode) (s : Shape) → fitted (tree.leaf p) node ≡ Some s → LeafFits p s
leaf_fits p (group gs) s e = absurd cc
leaf_fits p (leaf number) s e =
    let fits = if_is (is_number number (physical_number p)) (Some shapes.leaf) s e in
    let found = number_type (leaf_type p) number fits.0 in
    record { type = found.0; stored = found.1; is = cc }

-- ---- a struct that fits

pub record StructFits (fs : tree.Fields) (node : FileNode) (s : Shape) : Type 0 where
  pub inside : FileFields
  pub fields : shapes.Fields
  pub of_node : group inside ≡ node
  pub counted : count_of_columns fs ≡ count_of inside
  pub each : fitted_fields fs inside ≡ Some fields
  pub is : shapes.struct fields ≡ s

pub struct_fits : (fs : tree.Fields) (node : FileNode) (s : Shape) → fitted (tree.struct fs) node ≡ Some s
    → StructFits fs node s
struct_fits fs (leaf number) s e = absurd cc
struct_fits fs (group gs) s e =
    let fits = if_is (may_fit fs gs) (option_map shapes.struct (fitted_fields fs gs)) s e in
    let made = mapped_is shapes.struct (fitted_fields fs gs) s fits.1 in
    let many = and_parts _ _ fits.0 in
    record {
      inside = gs;
      fields = made.0;
      of_node = refl;
      counted = eqb-true (count_of_columns fs) (count_of gs) many.0;
      each = made.1;
      is = made.2;
    }

abbrev pub in_front : Column → tree.Fields → tree.Fields
in_front c fs = tree.field c.name c.data_type c.nullable c.metadata fs

pub record FieldFits (c : Column) (fs : tree.Fields) (gs : FileFields) (ss : shapes.Fields) : Type 0 where
  pub named : FileField
  pub shape : Shape
  pub others : shapes.Fields
  pub found : field_named c.name gs ≡ Some named
  pub fits : fitted c.data_type named.node ≡ Some shape
  pub each : fitted_fields fs gs ≡ Some others
  pub is : shapes.field c.name named.optional shape others ≡ ss

pub field_fits : (c : Column) (fs : tree.Fields) (gs : FileFields) (ss : shapes.Fields)
    → fitted_fields (in_front c fs) gs ≡ Some ss → FieldFits c fs gs ss
field_fits c fs gs ss e =
    let found = some_is (field_named c.name gs) _ ss e in
    let fits = some_is (fitted c.data_type found.0.node) _ ss found.2 in
    let rest = mapped_is (λ xs. shapes.field c.name found.0.optional fits.0 xs) (fitted_fields fs gs) ss fits.2 in
    record {
      named = found.0;
      shape = fits.0;
      others = rest.0;
      found = found.1;
      fits = fits.1;
      each = rest.1;
      is = rest.2;
    }

-- ---- fields that are sound

pub record SoundField (c : Column) (fs : tree.Fields) : Type 0 where
  pub once : is_named c.name fs ≡ false
  pub inside : is_sound c.data_type ≡ true
  pub others : are_sound fs ≡ true

not_true : (b : Bool) → not b ≡ true → b ≡ false
not_true true e = absurd cc
not_true false e = refl

pub sound_field : (c : Column) (fs : tree.Fields) → are_sound (in_front c fs) ≡ true → SoundField c fs
sound_field c fs sound =
    let one = and_parts _ (are_sound fs) sound in
    let two = and_parts _ (is_sound c.data_type) one.0 in
    let three = and_parts (not (is_named c.name fs)) _ two.0 in
    record { once = not_true (is_named c.name fs) three.0; inside = two.1; others = one.1 }

-- ---- each struct of the shape has a field

mutual
  pub shape_has : (t : Tree) (node : FileNode) (s : Shape) → is_sound t ≡ true → fitted t node ≡ Some s → HasFields s
  shape_has (tree.leaf p) node s sound e = subst HasFields (leaf_fits p node s e).is tt
  shape_has (tree.struct tree.no_fields) node s sound e = absurd cc
  shape_has (tree.struct (tree.field name t nullable metadata fs)) node s sound e =
      let c : Column = record { name = name; data_type = t; nullable = nullable; metadata = metadata } in
      let f = struct_fits (in_front c fs) node s e in
      let g = field_fits c fs f.inside f.fields f.each in
      let k = sound_field c fs sound in
      subst HasFields (ap shapes.struct g.is ∙ f.is)
      (shape_has t g.named.node g.shape k.inside g.fits, fields_have fs f.inside g.others k.others g.each)
  shape_has (tree.array t nullable) node s sound e = absurd cc
  shape_has (tree.map k v nullable) node s sound e = absurd cc

  pub fields_have : (fs : tree.Fields) (gs : FileFields) (ss : shapes.Fields) → are_sound fs ≡ true
      → fitted_fields fs gs ≡ Some ss → HaveFields ss
  fields_have tree.no_fields gs ss sound e = let is : shapes.no_fields ≡ ss = cc in subst HaveFields is tt
  fields_have (tree.field name t nullable metadata fs) gs ss sound e =
      let c : Column = record { name = name; data_type = t; nullable = nullable; metadata = metadata } in
      let g = field_fits c fs gs ss e in
      let k = sound_field c fs sound in
      subst HaveFields g.is
      (shape_has t g.named.node g.shape k.inside g.fits, fields_have fs gs g.others k.others g.each)

-- ---- a type that fits has values

leaf_supported : (p : Primitive) (type : LeafType) → leaf_type p ≡ Some type → unsupported (tree.leaf p) ≡ None
leaf_supported primitive.Timestamp type e = absurd cc
leaf_supported primitive.Float type e = absurd cc
leaf_supported primitive.Double type e = absurd cc
leaf_supported (primitive.Decimal precision scale) type e = absurd cc
leaf_supported p type e = refl

mutual
  pub supported : (t : Tree) (node : FileNode) (s : Shape) → fitted t node ≡ Some s → unsupported t ≡ None
  supported (tree.leaf p) node s e = let f = leaf_fits p node s e in leaf_supported p f.type f.stored
  supported (tree.struct fs) node s e =
      let f = struct_fits fs node s e in fields_supported fs f.inside f.fields f.each
  supported (tree.array t nullable) node s e = absurd cc
  supported (tree.map k v nullable) node s e = absurd cc

  fields_supported : (fs : tree.Fields) (gs : FileFields) (ss : shapes.Fields) → fitted_fields fs gs ≡ Some ss
      → unsupported_field fs ≡ None
  fields_supported tree.no_fields gs ss e = refl
  fields_supported (tree.field name t nullable metadata fs) gs ss e =
      let c : Column = record { name = name; data_type = t; nullable = nullable; metadata = metadata } in
      let g = field_fits c fs gs ss e in
      rw (supported t g.named.node g.shape g.fits, fields_supported fs gs g.others g.each) refl

-- ---- as many leaves as ways

pub leaves_for_ways : (t : Tree) (node : FileNode) (s : Shape) → fitted t node ≡ Some s
    → length (leaves_in t s) ≡ length (ways s)
leaves_for_ways t node s e =
    sym (length-map (leaves_in t s) (λ (l : LeafIn). length l.nullable))
    ∙ (ap length (leaf_levels t node s e) ∙ length-map (ways s) highest)

-- ---- a file's tree is no deeper than the type that it fits

-- the fields but the first of this name
without : List ℕ → FileFields → FileFields
without name no_fields = no_fields
without name (field n optional node fs) = cond (bytes_eq n name) fs (field n optional node (without name fs))

record Removed (name : List ℕ) (g : FileField) (gs : FileFields) : Type 0 where
  one_less : count_of gs ≡ suc (count_of (without name gs))
  covers : depth_of_fields gs ≤ max (depth g.node) (depth_of_fields (without name gs))

removed_by : (b : Bool) (name n : List ℕ) (optional : Bool) (node : FileNode) (fs : FileFields) (g : FileField)
    → bytes_eq n name ≡ b → field_named name (field n optional node fs) ≡ Some g
    → (field_named name fs ≡ Some g → Removed name g fs) → Removed name g (field n optional node fs)
unfolding without
removed_by true name n optional node fs g is e inner =
    let this : Some (record { name = n; optional = optional; node = node }) ≡ Some g =
    sym (rw is refl) ∙ e in
    let same : node ≡ g.node = cc in
    record { one_less = rw is refl; covers = rw (is, sym same) (omega arith) }
removed_by false name n optional node fs g is e inner =
    let deeper : field_named name fs ≡ Some g = sym (rw is refl) ∙ e in
    let r = inner deeper in
    record { one_less = rw is (ap suc r.one_less); covers = rw is (omega (arith, r.covers)) }

removed : (name : List ℕ) (gs : FileFields) (g : FileField) → field_named name gs ≡ Some g → Removed name g gs
removed name no_fields g e = absurd cc
removed name (field n optional node fs) g e =
    removed_by (bytes_eq n name) name n optional node fs g refl e (removed name fs g)

turned : (name other : List ℕ) → bytes_eq name other ≡ false → bytes_eq other name ≡ false
turned name other e = false_from_ne_true (bytes_eq other name)
    (λ h. false≢true (sym e ∙ (bytes_eq-Decides name other).1 (sym ((bytes_eq-Decides other name).0 h))))

other_by : (b : Bool) (name other n : List ℕ) (optional : Bool) (node : FileNode) (fs : FileFields)
    → bytes_eq other name ≡ false → bytes_eq n name ≡ b
    → field_named other (without name fs) ≡ field_named other fs
    → field_named other (without name (field n optional node fs)) ≡ field_named other (field n optional node fs)
unfolding without
other_by true name other n optional node fs differ is inner =
    let same : n ≡ name = (bytes_eq-Decides n name).0 is in
    let no : bytes_eq n other ≡ false = ap (λ m. bytes_eq m other) same ∙ turned other name differ in
    rw (is, no) refl
other_by false name other n optional node fs differ is inner = rw (is, inner) refl

other_named : (name other : List ℕ) (gs : FileFields) → bytes_eq other name ≡ false
    → field_named other (without name gs) ≡ field_named other gs
unfolding without
other_named name other no_fields differ = refl
other_named name other (field n optional node fs) differ =
    other_by (bytes_eq n name) name other n optional node fs differ refl (other_named name other fs differ)

neither : (a b : Bool) → a || b ≡ false → (a ≡ false) × (b ≡ false)
neither true b e = absurd cc
neither false b e = (refl, e)

-- a field of another name doesn't matter
passed_over : (name : List ℕ) (gs : FileFields) (fs : tree.Fields) → is_named name fs ≡ false
    → fitted_fields fs (without name gs) ≡ fitted_fields fs gs
passed_over name gs tree.no_fields named = refl
passed_over name gs (tree.field other t nullable metadata fs) named =
    let parts = neither (bytes_eq name other) (is_named name fs) named in
    rw (other_named name other gs (turned name other parts.0), passed_over name gs fs parts.1) refl

mutual
  pub depth_fits : (t : Tree) (node : FileNode) (s : Shape) → is_sound t ≡ true → fitted t node ≡ Some s
      → depth node ≤ levels t
  depth_fits (tree.leaf p) (leaf number) s sound e = omega arith
  depth_fits (tree.leaf p) (group gs) s sound e = absurd cc
  depth_fits (tree.struct fs) node s sound e =
      let f = struct_fits fs node s e in
      let k = and_parts (has_field fs) (are_sound fs) sound in
      let inner = depths_fit fs f.inside f.fields k.1 f.counted f.each in
      subst (λ n. depth n ≤ levels (tree.struct fs)) f.of_node (omega (arith, inner))
  depth_fits (tree.array t nullable) node s sound e = absurd cc
  depth_fits (tree.map k v nullable) node s sound e = absurd cc

  depths_fit : (fs : tree.Fields) (gs : FileFields) (ss : shapes.Fields) → are_sound fs ≡ true
      → count_of_columns fs ≡ count_of gs → fitted_fields fs gs ≡ Some ss → depth_of_fields gs ≤ levels_of_fields fs
  depths_fit tree.no_fields no_fields ss sound many e = omega arith
  depths_fit tree.no_fields (field n optional node gs) ss sound many e = absurd (omega arith)
  depths_fit (tree.field name t nullable metadata fs) gs ss sound many e =
      let c : Column = record { name = name; data_type = t; nullable = nullable; metadata = metadata } in
      let g = field_fits c fs gs ss e in
      let k = sound_field c fs sound in
      let r = removed name gs g.named g.found in
      let first = depth_fits t g.named.node g.shape k.inside g.fits in
      let rest = depths_fit fs (without name gs) g.others k.others (omega (arith, r.one_less))
      (passed_over name gs fs k.once ∙ g.each) in
      omega (arith, first, rest, r.covers)
