-- The elements that are written for a table's columns are a list of them.
use Rattle.std.proofs.Common.{◌≡◌, ℕ, suc, ◌*◌, ◌<◌, ◌≤◌, ◌^◌, ℤ, pos, List, [], ◌∷◌, ◌++◌, length, Bool, true, false, not, ◌&&◌, nat_lt, Option, None, Some, Result, Ok, refl, sym, ap, subst, ◌∙◌, FitsSigned, w32, arith, codes}
use Rattle.std.specs.Ordering.{int_eq}
use Rattle.std.proofs.lemmas.Bool.{and_parts, false_from_ne_true}
use Rattle.std.proofs.lemmas.Bool.Decides.{Decides-int_eq}
use Rattle.std.proofs.lemmas.Int.{ints}
use Rattle.std.proofs.lemmas.List.{length-append}
use Rattle.outcomes.specs.Results.{◌>>=◌}
use Rattle.thrift_core.specs.Fields.{each}
use Rattle.thrift_core.specs.Tree as thrift
use Rattle.thrift_core.specs.Tree.{trees_of, nodes_of_trees}
use Rattle.thrift_core.specs.Writing.{HasForm, MembersHaveForm}
use Rattle.schema_tree.specs.Limits.{are_sound, has_field, is_sound, nodes, nodes_of_fields}
use Rattle.schema_tree.specs.Tree as tree
use Rattle.schema_tree.specs.Tree.{Tree, Column}
use Rattle.schema_tree.specs.declared.primitive.Primitive.{Primitive}
use Rattle.parquet_footer.specs.Metadata.{SchemaElement, node_of, physical_type_of, root_of, schema_of}
use Rattle.parquet_footer.proofs.Callers.{bind_ok}
use Rattle.page_cells.specs.Types.{leaf_type, physical_type, type_number}
use Rattle.page_cells.specs.declared.types.LeafType.{LeafType}
use Rattle.page_cells.specs.declared.types.LeafType.TheVariants as types
use Rattle.parquet_schema.specs.FileTree.{AreElements, AreInside, FileFields, FileNode, IsElementOf, IsSchemaList, count_of, field, group, leaf, no_fields, repetition}
use Rattle.parquet_schema.specs.Fitting.{count_of_columns, file_fields_of, file_node, physical_number}
use Rattle.parquet_file.specs.Writing.{are_short_named, element_form, field_elements, group_element, is_short_named, leaf_element, leaf_elements, node_elements, root_element, schema_elements}
use Rattle.parquet_file.proofs.FittedShapes.{in_front, mapped_is, some_is, sound_field}
use Rattle.parquet_file.proofs.FooterForms.{members_append, nodes_append}
use Rattle.parquet_file.proofs.StructForms.{fits_32, struct_has_form}

-- ---- one element is read

leaf_said : (name : List ℕ) (nullable : Bool) (type : LeafType)
    → node_of (leaf_element name nullable type)
    ≡ Ok (record {
      physical_type = Some (type_number (physical_type type));
      repetition_type = Some (repetition nullable);
      name = name;
      num_children = 0;
    })
unfolding node_of physical_type_of
leaf_said name nullable types.Boolean = refl
leaf_said name nullable types.Byte = refl
leaf_said name nullable types.Short = refl
leaf_said name nullable types.Integer = refl
leaf_said name nullable types.Long = refl
leaf_said name nullable types.Date = refl
leaf_said name nullable types.String = refl
leaf_said name nullable types.Binary = refl

some_not_none : (n : ℕ) → int_eq (pos (suc n)) (pos 0) ≡ false
some_not_none n =
    false_from_ne_true (int_eq (pos (suc n)) (pos 0))
    (λ h. let same : pos (suc n) ≡ pos 0 = (Decides-int_eq (pos (suc n)) (pos 0)).0 h in absurd (omega (arith, ints)))

group_said : (name : List ℕ) (nullable : Bool) (n : ℕ)
    → node_of (group_element name nullable (suc n))
    ≡ Ok (record {
      physical_type = None;
      repetition_type = Some (repetition nullable);
      name = name;
      num_children = suc n;
    })
unfolding node_of physical_type_of
group_said name nullable n = rw (some_not_none n) refl

root_said : (n : ℕ)
    → root_of (root_element n)
    ≡ Ok (record { physical_type = None; repetition_type = None; name = codes "schema"; num_children = n })
unfolding root_of
root_said n = refl

-- ---- all elements are read

read_cons : {A B E : Type 0} (read : A → Result B E) (x : A) (xs : List A) (y : B) (ys : List B) → read x ≡ Ok y
    → each read xs ≡ Ok ys → each read (x ∷ xs) ≡ Ok (y ∷ ys)
read_cons read x xs y ys e k = rw (e, k) refl

read_append : {A B E : Type 0} (read : A → Result B E) (xs zs : List A) (ys ws : List B) → each read xs ≡ Ok ys
    → each read zs ≡ Ok ws → each read (xs ++ zs) ≡ Ok (ys ++ ws)
read_append read [] zs ys ws e k = let same : [] ≡ ys = cc in subst (λ us. each read zs ≡ Ok (us ++ ws)) same k
read_append read (x ∷ xs) zs ys ws e k =
    let first = bind_ok (read x) (λ y. each read xs >>= λ us. Ok (y ∷ us)) ys e in
    let rest = bind_ok (each read xs) (λ us. Ok (first.0 ∷ us)) ys first.2 in
    let same : first.0 ∷ rest.0 ≡ ys = cc in
    subst (λ us. each read ((x ∷ xs) ++ zs) ≡ Ok (us ++ ws)) same
    (read_cons read x (xs ++ zs) first.0 (rest.0 ++ ws) first.1 (read_append read xs zs rest.0 ws rest.1 k))

-- The elements of a node are read as its own and those inside it.
pub record NodeSaid (name : List ℕ) (nullable : Bool) (t : Tree) (node : FileNode) : Type 0 where
  pub first : SchemaElement
  pub inside : List SchemaElement
  pub read : each node_of (node_elements name nullable t) ≡ Ok (first ∷ inside)
  pub is : IsElementOf name nullable node first
  pub below : AreInside node inside

-- The elements of fields are read as a list of them.
pub record FieldsSaid (fs : tree.Fields) (gs : FileFields) : Type 0 where
  pub list : List SchemaElement
  pub read : each node_of (field_elements fs) ≡ Ok list
  pub are : AreElements gs list

own_type : (p : Primitive) (number : ℤ) → physical_number p ≡ Some number
    → (type : LeafType) × (leaf_type p ≡ Some type) × (type_number (physical_type type) ≡ number)
own_type p number e = mapped_is (λ t. type_number (physical_type t)) (leaf_type p) number e

leaf_read : (name : List ℕ) (nullable : Bool) (o : Option LeafType) (type : LeafType) → o ≡ Some type
    → each node_of (leaf_elements name nullable o)
    ≡ Ok (record {
      physical_type = Some (type_number (physical_type type));
      repetition_type = Some (repetition nullable);
      name = name;
      num_children = 0;
    } ∷ [])
leaf_read name nullable o type e = rw (e, leaf_said name nullable type) refl

leaf_node_said : (name : List ℕ) (nullable : Bool) (p : Primitive) (node : FileNode)
    → file_node (tree.leaf p) ≡ Some node → NodeSaid name nullable (tree.leaf p) node
leaf_node_said name nullable p node e =
    let own = mapped_is leaf (physical_number p) node e in
    let type = own_type p own.0 own.1 in
    subst (λ n. NodeSaid name nullable (tree.leaf p) n) own.2 (record {
      first = record {
        physical_type = Some (type_number (physical_type type.0));
        repetition_type = Some (repetition nullable);
        name = name;
        num_children = 0;
      };
      inside = [];
      read = leaf_read name nullable (leaf_type p) type.0 type.1;
      is = (refl, refl, refl, ap (λ n. Some n) type.2);
      below = refl;
    })

own_count : (fs : tree.Fields) (gs : FileFields) → file_fields_of fs ≡ Some gs → count_of_columns fs ≡ count_of gs
own_count tree.no_fields gs e = let same : no_fields ≡ gs = cc in subst (λ xs. 0 ≡ count_of xs) same refl
own_count (tree.field name t nullable metadata fs) gs e =
    let first = some_is (file_node t) _ gs e in
    let rest = mapped_is (λ xs. field name nullable first.0 xs) (file_fields_of fs) gs first.2 in
    subst (λ xs. suc (count_of_columns fs) ≡ count_of xs) rest.2 (ap suc (own_count fs rest.0 rest.1))

counted_one : (fs : tree.Fields) → has_field fs ≡ true → (n : ℕ) × (count_of_columns fs ≡ suc n)
counted_one tree.no_fields e = absurd cc
counted_one (tree.field name t nullable metadata fs) e = (count_of_columns fs, refl)

group_node_said : (name : List ℕ) (nullable : Bool) (fs : tree.Fields) (gs : FileFields) → has_field fs ≡ true
    → file_fields_of fs ≡ Some gs → FieldsSaid fs gs → NodeSaid name nullable (tree.struct fs) (group gs)
group_node_said name nullable fs gs some own said =
    let many = counted_one fs some in
    let count : count_of gs ≡ suc many.0 = sym (own_count fs gs own) ∙ many.1 in
    record {
      first = record {
        physical_type = None;
        repetition_type = Some (repetition nullable);
        name = name;
        num_children = suc many.0;
      };
      inside = said.list;
      read = rw (many.1, group_said name nullable many.0, said.read) refl;
      is = (refl, refl, sym count, omega arith);
      below = said.are;
    }

field_said : (c : Column) (fs : tree.Fields) (gs others : FileFields) (node : FileNode)
    → field c.name c.nullable node others ≡ gs → NodeSaid c.name c.nullable c.data_type node → FieldsSaid fs others
    → FieldsSaid (in_front c fs) gs
field_said c fs gs others node same one rest =
    subst (λ xs. FieldsSaid (in_front c fs) xs) same (record {
      list = one.first ∷ (one.inside ++ rest.list);
      read = read_append node_of (node_elements c.name c.nullable c.data_type) (field_elements fs)
          (one.first ∷ one.inside) rest.list one.read rest.read;
      are = (one.first, one.inside, rest.list, refl, one.is, one.below, rest.are);
    })

mutual
  node_said : (name : List ℕ) (nullable : Bool) (t : Tree) (node : FileNode) → is_sound t ≡ true
      → file_node t ≡ Some node → NodeSaid name nullable t node
  node_said name nullable (tree.leaf p) node sound e = leaf_node_said name nullable p node e
  node_said name nullable (tree.struct fs) node sound e =
      let parts = and_parts (has_field fs) (are_sound fs) sound in
      let own = mapped_is group (file_fields_of fs) node e in
      subst (λ n. NodeSaid name nullable (tree.struct fs) n) own.2
      (group_node_said name nullable fs own.0 parts.0 own.1 (fields_said fs own.0 parts.1 own.1))
  node_said name nullable (tree.array t within) node sound e = absurd cc
  node_said name nullable (tree.map k v within) node sound e = absurd cc

  pub fields_said : (fs : tree.Fields) (gs : FileFields) → are_sound fs ≡ true → file_fields_of fs ≡ Some gs
      → FieldsSaid fs gs
  fields_said tree.no_fields gs sound e =
      let same : no_fields ≡ gs = cc in
      subst (λ xs. FieldsSaid tree.no_fields xs) same (record { list = []; read = refl; are = refl })
  fields_said (tree.field name t nullable metadata fs) gs sound e =
      let c : Column = record { name = name; data_type = t; nullable = nullable; metadata = metadata } in
      let k = sound_field c fs sound in
      let first = some_is (file_node t) _ gs e in
      let rest = mapped_is (λ xs. field name nullable first.0 xs) (file_fields_of fs) gs first.2 in
      field_said c fs gs rest.0 first.0 rest.2 (node_said name nullable t first.0 k.inside first.1)
      (fields_said fs rest.0 k.others rest.1)

-- The list of a table's elements is read as a list of its columns.
pub record SchemaSaid (cols : tree.Fields) (fs : FileFields) : Type 0 where
  pub list : List SchemaElement
  pub read : schema_of (schema_elements (tree.struct cols)) ≡ Ok list
  pub listed : IsSchemaList fs list

pub schema_said : (cols : tree.Fields) (fs : FileFields) → is_sound (tree.struct cols) ≡ true
    → file_node (tree.struct cols) ≡ Some (group fs) → SchemaSaid cols fs
schema_said cols fs sound e =
    let parts = and_parts (has_field cols) (are_sound cols) sound in
    let own = mapped_is group (file_fields_of cols) (group fs) e in
    let same : own.0 ≡ fs = cc in
    let columns : file_fields_of cols ≡ Some fs = own.1 ∙ ap (λ x. Some x) same in
    let said = fields_said cols fs parts.1 columns in
    let root : SchemaElement = record {
      physical_type = None;
      repetition_type = None;
      name = codes "schema";
      num_children = count_of_columns cols;
    } in
    record {
      list = root ∷ said.list;
      read = rw (root_said (count_of_columns cols), said.read) refl;
      listed = record {
        root = root;
        others = said.list;
        begins = refl;
        counted = own_count cols fs columns;
        elements = said.are;
      };
    }

-- ---- the elements have their form

repetition_fits : (nullable : Bool) → FitsSigned w32 (repetition nullable)
repetition_fits true = fits_32 1 (omega arith)
repetition_fits false = fits_32 0 (omega arith)

leaf_has_form : (name : List ℕ) (nullable : Bool) (type : LeafType) → length name < 2 ^ 31
    → HasForm element_form (leaf_element name nullable type)
leaf_has_form name nullable types.Boolean short =
    struct_has_form element_form (leaf_element name nullable types.Boolean) refl
    (fits_32 0 (omega arith), (repetition_fits nullable, ((refl, short), tt)))
leaf_has_form name nullable types.Byte short =
    struct_has_form element_form (leaf_element name nullable types.Byte) refl
    (fits_32 1 (omega arith), (repetition_fits nullable, ((refl, short), (fits_32 15 (omega arith), tt))))
leaf_has_form name nullable types.Short short =
    struct_has_form element_form (leaf_element name nullable types.Short) refl
    (fits_32 1 (omega arith), (repetition_fits nullable, ((refl, short), (fits_32 16 (omega arith), tt))))
leaf_has_form name nullable types.Integer short =
    struct_has_form element_form (leaf_element name nullable types.Integer) refl
    (fits_32 1 (omega arith), (repetition_fits nullable, ((refl, short), tt)))
leaf_has_form name nullable types.Long short =
    struct_has_form element_form (leaf_element name nullable types.Long) refl
    (fits_32 2 (omega arith), (repetition_fits nullable, ((refl, short), tt)))
leaf_has_form name nullable types.Date short =
    struct_has_form element_form (leaf_element name nullable types.Date) refl
    (fits_32 1 (omega arith), (repetition_fits nullable, ((refl, short), (fits_32 6 (omega arith), tt))))
leaf_has_form name nullable types.String short =
    struct_has_form element_form (leaf_element name nullable types.String) refl
    (fits_32 6 (omega arith), (repetition_fits nullable, ((refl, short), (fits_32 0 (omega arith), tt))))
leaf_has_form name nullable types.Binary short =
    struct_has_form element_form (leaf_element name nullable types.Binary) refl
    (fits_32 6 (omega arith), (repetition_fits nullable, ((refl, short), tt)))

leaves_have_form : (name : List ℕ) (nullable : Bool) (type : Option LeafType) → length name < 2 ^ 31
    → MembersHaveForm element_form (trees_of (leaf_elements name nullable type))
leaves_have_form name nullable None short = tt
leaves_have_form name nullable (Some type) short = (leaf_has_form name nullable type short, tt)

group_has_form : (name : List ℕ) (nullable : Bool) (n : ℕ) → length name < 2 ^ 31 → n < 2 ^ 31
    → HasForm element_form (group_element name nullable n)
group_has_form name nullable n short few =
    struct_has_form element_form (group_element name nullable n) refl
    (repetition_fits nullable, ((refl, short), (fits_32 n few, tt)))

root_has_form : (n : ℕ) → n < 2 ^ 31 → HasForm element_form (root_element n)
root_has_form n few =
    struct_has_form element_form (root_element n) refl ((refl, omega arith), (fits_32 n few, tt))

node_there : (t : Tree) → 0 < nodes t
node_there (tree.leaf p) = omega arith
node_there (tree.struct fs) = omega arith
node_there (tree.array t nullable) = omega arith
node_there (tree.map k v nullable) = omega arith

columns_few : (fs : tree.Fields) → count_of_columns fs ≤ nodes_of_fields fs
columns_few tree.no_fields = omega arith
columns_few (tree.field name t nullable metadata fs) = omega (arith, node_there t, columns_few fs)

-- a name that is not too long, in front of others
short_name : (name : List ℕ) (t : Tree) (fs : tree.Fields)
    → not (nat_lt 67108864 (length name)) && (is_short_named t && are_short_named fs) ≡ true
    → (length name < 2 ^ 31) × (is_short_named t ≡ true) × (are_short_named fs ≡ true)
short_name name t fs e =
    let one = and_parts (not (nat_lt 67108864 (length name))) _ e in
    let two = and_parts (is_short_named t) (are_short_named fs) one.1 in
    let short : length name ≤ 67108864 = grind (arith, one.0) in
    (omega arith, two.0, two.1)

mutual
  node_has_form : (name : List ℕ) (nullable : Bool) (t : Tree) → length name < 2 ^ 31 → is_short_named t ≡ true
      → nodes t ≤ 1024 → MembersHaveForm element_form (trees_of (node_elements name nullable t))
  node_has_form name nullable (tree.leaf p) short named few = leaves_have_form name nullable (leaf_type p) short
  node_has_form name nullable (tree.struct fs) short named few = (
    group_has_form name nullable (count_of_columns fs) short (omega (arith, columns_few fs)),
    fields_have_form fs named (omega arith),
  )
  node_has_form name nullable (tree.array t within) short named few = tt
  node_has_form name nullable (tree.map k v within) short named few = tt

  fields_have_form : (fs : tree.Fields) → are_short_named fs ≡ true → nodes_of_fields fs ≤ 1024
      → MembersHaveForm element_form (trees_of (field_elements fs))
  fields_have_form tree.no_fields named few = tt
  fields_have_form (tree.field name t nullable metadata fs) named few =
      let k = short_name name t fs named in
      members_append element_form (node_elements name nullable t) (field_elements fs)
      (node_has_form name nullable t k.0 k.1 (omega arith)) (fields_have_form fs k.2 (omega arith))

pub schema_has_form : (cols : tree.Fields) → is_short_named (tree.struct cols) ≡ true
    → nodes (tree.struct cols) ≤ 1024
    → MembersHaveForm element_form (trees_of (schema_elements (tree.struct cols)))
schema_has_form cols named few =
    (root_has_form (count_of_columns cols) (omega (arith, columns_few cols)), fields_have_form cols named (omega arith))

-- ---- how many elements, and values in them, there are

leaves_counted : (name : List ℕ) (nullable : Bool) (type : Option LeafType)
    → length (leaf_elements name nullable type) ≤ 1
leaves_counted name nullable None = omega arith
leaves_counted name nullable (Some type) = omega arith

mutual
  node_counted : (name : List ℕ) (nullable : Bool) (t : Tree) → length (node_elements name nullable t) ≤ nodes t
  node_counted name nullable (tree.leaf p) = leaves_counted name nullable (leaf_type p)
  node_counted name nullable (tree.struct fs) = omega (arith, fields_counted fs)
  node_counted name nullable (tree.array t within) = omega arith
  node_counted name nullable (tree.map k v within) = omega arith

  fields_counted : (fs : tree.Fields) → length (field_elements fs) ≤ nodes_of_fields fs
  fields_counted tree.no_fields = omega arith
  fields_counted (tree.field name t nullable metadata fs) =
      omega (
        arith,
        length-append (node_elements name nullable t) (field_elements fs),
        node_counted name nullable t,
        fields_counted fs,
      )

pub schema_counted : (cols : tree.Fields) → length (schema_elements (tree.struct cols)) ≤ nodes (tree.struct cols)
schema_counted cols = omega (arith, fields_counted cols)

leaf_small : (name : List ℕ) (nullable : Bool) (type : LeafType) → thrift.nodes (leaf_element name nullable type) ≤ 5
leaf_small name nullable types.Boolean = omega arith
leaf_small name nullable types.Byte = omega arith
leaf_small name nullable types.Short = omega arith
leaf_small name nullable types.Integer = omega arith
leaf_small name nullable types.Long = omega arith
leaf_small name nullable types.Date = omega arith
leaf_small name nullable types.String = omega arith
leaf_small name nullable types.Binary = omega arith

leaves_small : (name : List ℕ) (nullable : Bool) (type : Option LeafType)
    → nodes_of_trees (trees_of (leaf_elements name nullable type)) ≤ 5
leaves_small name nullable None = omega arith
leaves_small name nullable (Some type) = omega (arith, leaf_small name nullable type)

mutual
  node_small : (name : List ℕ) (nullable : Bool) (t : Tree)
      → nodes_of_trees (trees_of (node_elements name nullable t)) ≤ 5 * nodes t
  node_small name nullable (tree.leaf p) = leaves_small name nullable (leaf_type p)
  node_small name nullable (tree.struct fs) = omega (arith, fields_small fs)
  node_small name nullable (tree.array t within) = omega arith
  node_small name nullable (tree.map k v within) = omega arith

  fields_small : (fs : tree.Fields) → nodes_of_trees (trees_of (field_elements fs)) ≤ 5 * nodes_of_fields fs
  fields_small tree.no_fields = omega arith
  fields_small (tree.field name t nullable metadata fs) =
      omega (
        arith,
        nodes_append (node_elements name nullable t) (field_elements fs),
        node_small name nullable t,
        fields_small fs,
      )

pub schema_small : (cols : tree.Fields)
    → nodes_of_trees (trees_of (schema_elements (tree.struct cols))) ≤ 5 * nodes (tree.struct cols)
schema_small cols = omega (arith, fields_small cols)
