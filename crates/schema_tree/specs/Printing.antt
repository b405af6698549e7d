-- A type as JSON (Delta PROTOCOL.md, "Schema Serialization Format"). Keys stand in order of bytes.
use Rattle.std.specs.Prelude.{ℕ, List, [], ◌∷◌, Bool, codes, Some}
use Rattle.serde_json.specs.Data.{Data, boolean, string, array, Items, no_items, item}
use Rattle.json_fields.specs.Printing.{fields_object}
use Rattle.schema_tree.specs.Primitives.{primitive_name}
use Rattle.schema_tree.specs.Tree as tree
use Rattle.schema_tree.specs.Tree.{Tree, Fields, no_fields, field}

abbrev pub struct_data : Items → Data
struct_data items = fields_object ((codes "type", Some (string (codes "struct"))) ∷ (codes "fields", Some (array items)) ∷ [])

abbrev pub array_data : Data → Bool → Data
array_data element nullable = fields_object ((codes "type", Some (string (codes "array"))) ∷ (codes "elementType", Some element) ∷ (codes "containsNull", Some (boolean nullable)) ∷ [])

abbrev pub map_data : Data → Data → Bool → Data
map_data key value nullable = fields_object ((codes "type", Some (string (codes "map"))) ∷ (codes "keyType", Some key) ∷ (codes "valueType", Some value) ∷ (codes "valueContainsNull", Some (boolean nullable)) ∷ [])

abbrev pub field_data : List ℕ → Data → Bool → Data → Data
field_data name type nullable metadata = fields_object ((codes "name", Some (string name)) ∷ (codes "type", Some type) ∷ (codes "nullable", Some (boolean nullable)) ∷ (codes "metadata", Some metadata) ∷ [])

abbrev mutual
  pub data_of : Tree → Data
  data_of (tree.leaf p) = string (primitive_name p)
  data_of (tree.struct fs) = struct_data (items_of_fields fs)
  data_of (tree.array t nullable) = array_data (data_of t) nullable
  data_of (tree.map k v nullable) = map_data (data_of k) (data_of v) nullable

  pub items_of_fields : Fields → Items
  items_of_fields no_fields = no_items
  items_of_fields (field name t nullable metadata fs) = item (field_data name (data_of t) nullable metadata) (items_of_fields fs)
