-- A row as JSON: every field is printed, its names in order of bytes.
use Rattle.std.specs.Prelude.{List, [], ◌∷◌, Some}
use Rattle.serde_json.specs.Data as json
use Rattle.serde_json.specs.Data.{Data}
use Rattle.serde_json.specs.Find.{of_integer}
use Rattle.hex.specs.Hex.{encode_lower}
use Rattle.json_fields.specs.Printing.{Field, fields_object}
use Rattle.schema_tree.specs.Tree as tree
use Rattle.schema_tree.specs.Tree.{Tree, Fields, no_fields, field}
use Rattle.row_core.specs.Rows.{Value, Values, Row, null, truth, whole, text, bytes, structure, value}

-- Bytes are a hexadecimal text in lower case.
abbrev pub leaf_data : Value → Data
leaf_data null = json.null
leaf_data (truth b) = json.boolean b
leaf_data (whole z) = json.number (of_integer z)
leaf_data (text s) = json.string s
leaf_data (bytes s) = json.string (encode_lower s)
leaf_data (structure vs) = json.null

abbrev mutual
  pub data_of : Tree → Value → Data
  data_of (tree.struct fs) (structure vs) = fields_object (fields_data fs vs)
  data_of t v = leaf_data v

  -- the value of each field under its name
  pub fields_data : Fields → Values → List Field
  fields_data (field name t nullable metadata fs) (value v vs) = (name, Some (data_of t v)) ∷ fields_data fs vs
  fields_data fs vs = []

abbrev pub data_of_row : Tree → Row → Data
data_of_row t r = data_of t r
