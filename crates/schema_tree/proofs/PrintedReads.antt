-- A type within the limits that is printed reads as itself.
use Rattle.std.proofs.Common.{◌≡◌, ℕ, zero, suc, ◌+◌, ◌<◌, ◌≤◌, List, [], ◌∷◌, ◌++◌, Bool, true, false, Option, Some, refl, ◌∙◌, sym, ap, arith, true≢false}
use Rattle.std.specs.Prelude.{not, Ok, codes, bytes_eq, is_some}
use Rattle.std.specs.List.{list_any}
use Rattle.std.proofs.lemmas.Bool.{lt-leb, and_parts}
use Rattle.std.proofs.lemmas.List.Folds.{list_any-append}
use Rattle.std.proofs.lemmas.Slice.Eq.{bytes_eq-Decides}
use Rattle.serde_json.specs.Data.{Data, null, boolean, number, string, array, object, Items, no_items, item, no_members}
use Rattle.serde_json.specs.Find.{get, as_str, as_bool, as_array, as_object}
use Rattle.serde_json.specs.Read.{read}
use Rattle.json_fields.specs.Printing.{Field, fields_object}
use Rattle.schema_tree.specs.Primitives.{primitive_name, is_primitive}
use Rattle.schema_tree.specs.declared.primitive.Primitive.{Primitive}
use Rattle.schema_tree.specs.Reading.{Met, needed, defaulted, Reader, any_value, as_map, counted, array_of, map_of, column_of, field_of, fields_behind, has_item, struct_of, nested_of, object_of, content_of, node_of, root_of, schema_of}
use Rattle.schema_tree.specs.Printing.{struct_data, array_data, map_data, field_data, data_of, items_of_fields}
use Rattle.schema_tree.specs.Limits.{IsWithinLimits, levels, levels_of_fields, nodes, nodes_of_fields, leaf_count, leaf_count_of_fields, has_field, is_named, is_sound, are_sound}
use Rattle.schema_tree.specs.Tree as tree
use Rattle.schema_tree.specs.Tree.{Tree, Fields, no_fields, field, Column, fields_of}
use Rattle.schema_tree.proofs.PrimitiveNames.{primitive_again}
use Rattle.schema_tree.proofs.Truths.{neither, not_true, unless_true, all_four}

-- ---- fields of a printed type

needed_again : {A : Type 0} (kind : Data → Option A) (name : List ℕ) (fs : List Field) (d : Data) (x : A) → get name (fields_object fs) ≡ Some d → kind d ≡ Some x → needed kind name (fields_object fs) ≡ Ok x
unfolding needed
needed_again kind name fs d x at is = rw (at, is) refl

defaulted_again : {A : Type 0} (kind : Data → Option A) (name : List ℕ) (other : A) (fs : List Field) (d : Data) (x : A) → get name (fields_object fs) ≡ Some d → kind d ≡ Some x → defaulted kind name other (fields_object fs) ≡ Ok x
unfolding defaulted
defaulted_again kind name other fs d x at is = rw (at, is) refl

abbrev pub struct_fields : Items → List Field
struct_fields items = (codes "type", Some (string (codes "struct"))) ∷ (codes "fields", Some (array items)) ∷ []

abbrev pub array_fields : Data → Bool → List Field
array_fields element nullable = (codes "type", Some (string (codes "array"))) ∷ (codes "elementType", Some element) ∷ (codes "containsNull", Some (boolean nullable)) ∷ []

abbrev pub map_fields : Data → Data → Bool → List Field
map_fields key value nullable = (codes "type", Some (string (codes "map"))) ∷ (codes "keyType", Some key) ∷ (codes "valueType", Some value) ∷ (codes "valueContainsNull", Some (boolean nullable)) ∷ []

abbrev pub column_fields : List ℕ → Data → Bool → Data → List Field
column_fields name type nullable metadata = (codes "name", Some (string name)) ∷ (codes "type", Some type) ∷ (codes "nullable", Some (boolean nullable)) ∷ (codes "metadata", Some metadata) ∷ []

map_again : (d : Data) → is_some (as_object d) ≡ true → as_map d ≡ Some d
map_again null h = absurd cc
map_again (boolean b) h = absurd cc
map_again (number n) h = absurd cc
map_again (string s) h = absurd cc
map_again (array ds) h = absurd cc
map_again (object ms) h = refl

counts_same : (a : Met) (n l : ℕ) → n ≡ a.nodes → l ≡ a.leaves → record { nodes = n; leaves = l } ≡ a
counts_same a n l e f = λ i. record { nodes = e i; leaves = f i }

-- ---- one level, where what is inside it reads as it should

leaf_step : (p : Primitive) (below : ℕ) (met after : Met) → is_primitive p ≡ true → met.nodes < 1024 → met.leaves < 256 → met.nodes + 1 ≡ after.nodes → met.leaves + 1 ≡ after.leaves → node_of (suc below) (string (primitive_name p)) met ≡ Ok (tree.leaf p, after)
unfolding node_of counted content_of
leaf_step p below met after sound fits few ns ls = rw (lt-leb 1024 met.nodes fits, lt-leb 256 met.leaves few, primitive_again p sound) (ap (λ (m : Met). Ok (tree.leaf p, m)) (counts_same after (met.nodes + 1) (met.leaves + 1) ns ls))

struct_step : (below : ℕ) (items : Items) (cs : List Column) (met after : Met) → met.nodes < 1024 → has_item items ≡ true → fields_behind (node_of below) [] items (record { nodes = met.nodes + 1; leaves = met.leaves }) ≡ Ok (cs, after)
    → node_of (suc below) (struct_data items) met ≡ Ok (tree.struct (fields_of cs), after)
unfolding node_of counted content_of object_of nested_of struct_of
struct_step below items cs met after fits some inside =
    rw (lt-leb 1024 met.nodes fits, needed_again as_str (codes "type") (struct_fields items) (string (codes "struct")) (codes "struct") refl refl, needed_again as_array (codes "fields") (struct_fields items) (array items) items refl refl, some, inside) refl

array_step : (below : ℕ) (t : Tree) (nullable : Bool) (met after : Met) → met.nodes < 1024 → node_of below (data_of t) (record { nodes = met.nodes + 1; leaves = met.leaves }) ≡ Ok (t, after)
    → node_of (suc below) (array_data (data_of t) nullable) met ≡ Ok (tree.array t nullable, after)
unfolding node_of counted content_of object_of nested_of array_of
array_step below t nullable met after fits inside =
    let fs = array_fields (data_of t) nullable in
    rw (lt-leb 1024 met.nodes fits, needed_again as_str (codes "type") fs (string (codes "array")) (codes "array") refl refl, defaulted_again as_bool (codes "containsNull") true fs (boolean nullable) nullable refl refl, needed_again any_value (codes "elementType") fs (data_of t) (data_of t) refl refl, inside) refl

map_step : (below : ℕ) (k v : Tree) (nullable : Bool) (met mid after : Met) → met.nodes < 1024 → node_of below (data_of k) (record { nodes = met.nodes + 1; leaves = met.leaves }) ≡ Ok (k, mid) → node_of below (data_of v) mid ≡ Ok (v, after)
    → node_of (suc below) (map_data (data_of k) (data_of v) nullable) met ≡ Ok (tree.map k v nullable, after)
unfolding node_of counted content_of object_of nested_of map_of
map_step below k v nullable met mid after fits key value =
    let fs = map_fields (data_of k) (data_of v) nullable in
    rw (lt-leb 1024 met.nodes fits, needed_again as_str (codes "type") fs (string (codes "map")) (codes "map") refl refl, defaulted_again as_bool (codes "valueContainsNull") true fs (boolean nullable) nullable refl refl, needed_again any_value (codes "keyType") fs (data_of k) (data_of k) refl refl, needed_again any_value (codes "valueType") fs (data_of v) (data_of v) refl refl, key, value) refl

abbrev column : List ℕ → Tree → Bool → Data → Column
column name t nullable metadata = record { name = name; data_type = t; nullable = nullable; metadata = metadata }

field_step : (below : ℕ) (before : List (List ℕ)) (name : List ℕ) (t : Tree) (nullable : Bool) (metadata : Data) (met after : Met) → list_any (bytes_eq name) before ≡ false → is_some (as_object metadata) ≡ true → node_of below (data_of t) met ≡ Ok (t, after)
    → field_of (node_of below) before (field_data name (data_of t) nullable metadata) met ≡ Ok (column name t nullable metadata, after)
unfolding field_of column_of
field_step below before name t nullable metadata met after distinct is_map inside =
    let fs = column_fields name (data_of t) nullable metadata in
    rw (needed_again as_str (codes "name") fs (string name) name refl refl, distinct, defaulted_again as_bool (codes "nullable") true fs (boolean nullable) nullable refl refl, defaulted_again as_map (codes "metadata") (object no_members) fs metadata metadata refl (map_again metadata is_map), needed_again any_value (codes "type") fs (data_of t) (data_of t) refl refl, inside) refl

fields_step : (read : Reader) (before : List (List ℕ)) (d : Data) (ds : Items) (c : Column) (cs : List Column) (met mid after : Met) → field_of read before d met ≡ Ok (c, mid) → fields_behind read (before ++ c.name ∷ []) ds mid ≡ Ok (cs, after) → fields_behind read before (item d ds) met ≡ Ok (c ∷ cs, after)
unfolding fields_behind
fields_step read before d ds c cs met mid after first others = rw (first, others) refl

fields_end : (read : Reader) (before : List (List ℕ)) (met after : Met) → met.nodes + 0 ≡ after.nodes → met.leaves + 0 ≡ after.leaves → fields_behind read before no_items met ≡ Ok ([], after)
unfolding fields_behind
fields_end read before met after ns ls = ap (λ (m : Met). Ok ([], m)) (counts_same after met.nodes met.leaves (omega arith) (omega arith))

root_step : (items : Items) (cs : List Column) (after : Met) → has_item items ≡ true → fields_behind (node_of 16) [] items (record { nodes = 1; leaves = 0 }) ≡ Ok (cs, after) → root_of (struct_data items) ≡ Ok (tree.struct (fields_of cs))
unfolding root_of counted struct_of
root_step items cs after some inside =
    rw (needed_again as_str (codes "type") (struct_fields items) (string (codes "struct")) (codes "struct") refl refl, needed_again as_array (codes "fields") (struct_fields items) (array items) items refl refl, some, inside) refl

-- ---- names

-- none of the fields has one of these names
abbrev AreNew : List (List ℕ) → Fields → Type 0
AreNew before no_fields = Unit {0}
AreNew before (field name t nullable metadata fs) = (list_any (bytes_eq name) before ≡ false) × AreNew before fs

other_name : (name other : List ℕ) → bytes_eq name other ≡ false → bytes_eq other name ≡ false
other_name name other e = unless_true (bytes_eq other name) (λ same. true≢false (sym ((bytes_eq-Decides name other).1 (sym ((bytes_eq-Decides other name).0 same))) ∙ e))

still_new : (before : List (List ℕ)) (name : List ℕ) (fs : Fields) → AreNew before fs → is_named name fs ≡ false → AreNew (before ++ name ∷ []) fs
still_new before name no_fields new distinct = tt
still_new before name (field other t nullable metadata fs) new distinct =
    let parts = neither (bytes_eq name other) (is_named name fs) distinct in
    let here : list_any (bytes_eq other) (before ++ name ∷ []) ≡ false = list_any-append (bytes_eq other) before (name ∷ []) ∙ rw (new.0, other_name name other parts.0) refl in
    (here, still_new before name fs new.1 parts.1)

all_new : (fs : Fields) → AreNew [] fs
all_new no_fields = tt
all_new (field name t nullable metadata fs) = (refl, all_new fs)

-- ---- all levels

abbrev columns_in : Fields → List Column
columns_in no_fields = []
columns_in (field name t nullable metadata fs) = column name t nullable metadata ∷ columns_in fs

fields_same : (fs : Fields) → fields_of (columns_in fs) ≡ fs
fields_same no_fields = refl
fields_same (field name t nullable metadata fs) = ap (field name t nullable metadata) (fields_same fs)

some_items : (fs : Fields) → has_field fs ≡ true → has_item (items_of_fields fs) ≡ true
some_items no_fields h = absurd cc
some_items (field name t nullable metadata fs) h = refl

mutual
  node_again : (t : Tree) (below : ℕ) (met after : Met) → is_sound t ≡ true → levels t < below → met.nodes + nodes t ≡ after.nodes → met.leaves + leaf_count t ≡ after.leaves → after.nodes ≤ 1024 → after.leaves ≤ 256 → node_of below (data_of t) met ≡ Ok (t, after)
  node_again t zero met after sound deep ns ls fits few = absurd (omega arith)
  node_again (tree.leaf p) (suc below) met after sound deep ns ls fits few = leaf_step p below met after sound (omega arith) (omega arith) ns ls
  node_again (tree.struct fs) (suc below) met after sound deep ns ls fits few =
      let parts = and_parts (has_field fs) (are_sound fs) sound in
      let inside = fields_again fs below [] (record { nodes = met.nodes + 1; leaves = met.leaves }) after parts.1 (all_new fs) (omega arith) (omega arith) ls fits few in
      struct_step below (items_of_fields fs) (columns_in fs) met after (omega arith) (some_items fs parts.0) inside ∙ ap (λ gs. Ok (tree.struct gs, after)) (fields_same fs)
  node_again (tree.array t nullable) (suc below) met after sound deep ns ls fits few =
      array_step below t nullable met after (omega arith) (node_again t below (record { nodes = met.nodes + 1; leaves = met.leaves }) after sound (omega arith) (omega arith) ls fits few)
  node_again (tree.map k v nullable) (suc below) met after sound deep ns ls fits few =
      let parts = and_parts (is_sound k) (is_sound v) sound in
      let mid : Met = record { nodes = met.nodes + 1 + nodes k; leaves = met.leaves + leaf_count k } in
      map_step below k v nullable met mid after (omega arith) (node_again k below (record { nodes = met.nodes + 1; leaves = met.leaves }) mid parts.0 (omega arith) refl refl (omega arith) (omega arith)) (node_again v below mid after parts.1 (omega arith) (omega arith) (omega arith) fits few)

  fields_again : (fs : Fields) (below : ℕ) (before : List (List ℕ)) (met after : Met) → are_sound fs ≡ true → AreNew before fs → levels_of_fields fs < below → met.nodes + nodes_of_fields fs ≡ after.nodes → met.leaves + leaf_count_of_fields fs ≡ after.leaves → after.nodes ≤ 1024 → after.leaves ≤ 256
      → fields_behind (node_of below) before (items_of_fields fs) met ≡ Ok (columns_in fs, after)
  fields_again no_fields below before met after sound new deep ns ls fits few = fields_end (node_of below) before met after ns ls
  fields_again (field name t nullable metadata fs) below before met after sound new deep ns ls fits few =
      let parts = all_four (not (is_named name fs)) (is_some (as_object metadata)) (is_sound t) (are_sound fs) sound in
      let mid : Met = record { nodes = met.nodes + nodes t; leaves = met.leaves + leaf_count t } in
      let type = node_again t below met mid parts.2 (omega arith) refl refl (omega arith) (omega arith) in
      let first = field_step below before name t nullable metadata met mid new.0 parts.1 type in
      let others = fields_again fs below (before ++ name ∷ []) mid after parts.3 (still_new before name fs new.1 (not_true (is_named name fs) parts.0)) (omega arith) (omega arith) (omega arith) fits few in
      fields_step (node_of below) before (field_data name (data_of t) nullable metadata) (items_of_fields fs) (column name t nullable metadata) (columns_in fs) met mid after first others

pub reads_again : (fs : Fields) → IsWithinLimits (tree.struct fs) → root_of (data_of (tree.struct fs)) ≡ Ok (tree.struct fs)
reads_again fs within =
    let parts = and_parts (has_field fs) (are_sound fs) within.sound in
    let after : Met = record { nodes = 1 + nodes_of_fields fs; leaves = 0 + leaf_count_of_fields fs } in
    let inside = fields_again fs 16 [] (record { nodes = 1; leaves = 0 }) after parts.1 (all_new fs) within.levels_fit refl refl (omega arith) (omega arith) in
    root_step (items_of_fields fs) (columns_in fs) after (some_items fs parts.0) inside ∙ ap (λ gs. Ok (tree.struct gs)) (fields_same fs)

-- a text that is read as the printed type
pub text_reads_again : (text : List ℕ) (fs : Fields) → IsWithinLimits (tree.struct fs) → read text ≡ Some (data_of (tree.struct fs)) → schema_of text ≡ Ok (tree.struct fs)
unfolding schema_of
text_reads_again text fs within e = rw e (reads_again fs within)
