-- The type that a JSON value stands for, or the first fault, depth first (Delta PROTOCOL.md, "Schema
-- Serialization Format"). A member that is null is there: it is no truth value, text, list or object.
use Rattle.std.specs.Prelude.{ℕ, zero, suc, ◌+◌, List, [], ◌∷◌, ◌++◌, Bool, true, false, not, nat_le, if◌then◌else◌, bytes_eq, codes, Option, Some, None, Result, Ok, Err, is_some, option_map, option_and_then}
use Rattle.std.specs.List.{list_any}
use Rattle.serde_json.specs.Data.{Data, null, boolean, number, string, array, object, Items, no_items, item, no_members}
use Rattle.serde_json.specs.Find.{get, as_str, as_bool, as_array, as_object}
use Rattle.serde_json.specs.Read.{read}
use Rattle.outcomes.specs.Results.{◌>>=◌, or_refusal, refused_if, refused_as}
use Rattle.schema_tree.specs.Primitives.{primitive_of}
use Rattle.schema_tree.specs.Tree as tree
use Rattle.schema_tree.specs.Tree.{Tree, Fields, Column, fields_of}
use Rattle.schema_tree.specs.Fault.{Fault, bad_json, bad_type, double_name, too_deep, too_many, no_fields, inside}

-- a member that has to be there and of this kind, or the fault that this is no type
unfoldable pub needed : {A : Type 0} → (Data → Option A) → List ℕ → Data → Result A Fault
needed kind name d = or_refusal (option_and_then kind (get name d)) (bad_type None)

-- what a member is, where one that is absent stands for `other`
abbrev pub of_kind_or : {A : Type 0} → (Data → Option A) → A → Option Data → Option A
of_kind_or kind other None = Some other
of_kind_or kind other (Some d) = kind d

-- a member of this kind that may be absent, or the fault that this is no type
unfoldable pub defaulted : {A : Type 0} → (Data → Option A) → List ℕ → A → Data → Result A Fault
defaulted kind name other d = or_refusal (of_kind_or kind other (get name d)) (bad_type None)

-- a member that is any value
abbrev pub any_value : Data → Option Data
any_value d = Some d

-- a member that is an object
abbrev pub as_map : Data → Option Data
as_map d = option_map object (as_object d)

-- How many types are met, and how many of them are leaves.
pub record Met : Type 0 where
  pub nodes : ℕ
  pub leaves : ℕ

-- Of so many types the next one is met; one that is given by a text is a leaf.
unfoldable pub counted : Data → Met → Result Met Fault
counted d met =
    if nat_le 1024 met.nodes then Err too_many else
    (if is_some (as_str d)
    then (if nat_le 256 met.leaves then Err too_many else Ok (record { nodes = met.nodes + 1; leaves = met.leaves + 1 }))
    else Ok (record { nodes = met.nodes + 1; leaves = met.leaves }))

-- Below, `read d met` reads the type d one level below, behind so many types.

abbrev pub Reader : Type 0
Reader = Data → Met → Result (Tree × Met) Fault

-- the primitive type of that name
abbrev pub leaf_of : List ℕ → Result Tree Fault
leaf_of name = or_refusal (option_map tree.leaf (primitive_of name)) (bad_type None)

unfoldable pub array_of : Reader → Data → Met → Result (Tree × Met) Fault
array_of read d met = do
  nullable ← defaulted as_bool (codes "containsNull") true d
  type ← needed any_value (codes "elementType") d
  element ← read type met
  Ok (tree.array element.0 nullable, element.1)

unfoldable pub map_of : Reader → Data → Met → Result (Tree × Met) Fault
map_of read d met = do
  nullable ← defaulted as_bool (codes "valueContainsNull") true d
  key_type ← needed any_value (codes "keyType") d
  value_type ← needed any_value (codes "valueType") d
  key ← read key_type met
  value ← read value_type key.1
  Ok (tree.map key.0 value.0 nullable, value.1)

-- what stands behind a field's name
unfoldable pub column_of : Reader → List ℕ → Data → Met → Result (Column × Met) Fault
column_of read name d met = do
  nullable ← defaulted as_bool (codes "nullable") true d
  metadata ← defaulted as_map (codes "metadata") (object no_members) d
  type ← needed any_value (codes "type") d
  inner ← read type met
  Ok (record { name = name; data_type = inner.0; nullable = nullable; metadata = metadata }, inner.1)

-- a field behind those of these names
unfoldable pub field_of : Reader → List (List ℕ) → Data → Met → Result (Column × Met) Fault
field_of read before d met = do
  name ← needed as_str (codes "name") d
  refused_as (inside name) (refused_if (list_any (bytes_eq name) before) (double_name None) >>= λ distinct. column_of read name d met)

unfoldable pub fields_behind : Reader → List (List ℕ) → Items → Met → Result (List Column × Met) Fault
fields_behind read before no_items met = Ok ([], met)
fields_behind read before (item d ds) met = do
  first ← field_of read before d met
  others ← fields_behind read (before ++ first.0.name ∷ []) ds first.1
  Ok (first.0 ∷ others.0, others.1)

abbrev pub has_item : Items → Bool
has_item no_items = false
has_item (item d ds) = true

unfoldable pub struct_of : Reader → Data → Met → Result (List Column × Met) Fault
struct_of read d met = do
  items ← needed as_array (codes "fields") d
  some ← refused_if (not (has_item items)) (no_fields None)
  fields_behind read [] items met

-- the type of an object whose `type` is this
unfoldable pub nested_of : Reader → List ℕ → Data → Met → Result (Tree × Met) Fault
nested_of read kind d met =
    if bytes_eq kind (codes "struct") then (struct_of read d met >>= λ columns. Ok (tree.struct (fields_of columns.0), columns.1)) else
    (if bytes_eq kind (codes "array") then array_of read d met else
    (if bytes_eq kind (codes "map") then map_of read d met else
    Err (bad_type None)))

unfoldable pub object_of : Reader → Data → Met → Result (Tree × Met) Fault
object_of read d met = needed as_str (codes "type") d >>= λ kind. nested_of read kind d met

-- a type that has been counted
unfoldable pub content_of : Reader → Data → Met → Result (Tree × Met) Fault
content_of read null met = Err (bad_type None)
content_of read (boolean b) met = Err (bad_type None)
content_of read (number n) met = Err (bad_type None)
content_of read (string name) met = leaf_of name >>= λ t. Ok (t, met)
content_of read (array ds) met = Err (bad_type None)
content_of read (object ms) met = object_of read (object ms) met

-- A type, where so many may stand below one another, it counted.
unfoldable pub node_of : ℕ → Data → Met → Result (Tree × Met) Fault
node_of zero d met = Err too_deep
node_of (suc below) d met = counted d met >>= content_of (node_of below) d

-- no type is met yet
abbrev pub none_met : Met
none_met = record { nodes = 0; leaves = 0 }

-- The type of a whole table is a struct. Fields of the root are at depth 1, and 16 is the last one.
unfoldable pub root_of : Data → Result Tree Fault
root_of d = do
  met ← counted d none_met
  kind ← needed as_str (codes "type") d
  struct ← refused_if (not (bytes_eq kind (codes "struct"))) (bad_type None)
  columns ← struct_of (node_of 16) d met
  Ok (tree.struct (fields_of columns.0))

abbrev pub if_json : Option Data → Result Tree Fault
if_json None = Err bad_json
if_json (Some d) = root_of d

-- The schema that a text is, or its first fault.
unfoldable pub schema_of : List ℕ → Result Tree Fault
schema_of text = if_json (read text)
