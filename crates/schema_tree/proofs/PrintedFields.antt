-- Fields as JSON, one by one.
use Rattle.std.proofs.Common.{◌≡◌, List, [], ◌∷◌, map, refl, ap}
use Rattle.serde_json.specs.Data.{Data, item}
use Rattle.serde_json.specs.View.{items_of}
use Rattle.schema_tree.specs.Printing.{data_of, items_of_fields, field_data}
use Rattle.schema_tree.specs.Tree.{fields_of}
use Rattle.schema_tree.specs.View.{field_view, field_views}
use Rattle.schema_tree.specs.declared.node.Field.{Field}

-- a field as JSON
abbrev pub printed : {A : Type 0} → Field A → Data
printed f = field_data (field_view f).name (data_of (field_view f).data_type) (field_view f).nullable (field_view f).metadata

pub items_printed : {A : Type 0} → (fs : List (Field A)) → items_of (map printed fs) ≡ items_of_fields (fields_of (field_views fs))
items_printed [] = refl
items_printed (f ∷ fs) = ap (item (printed f)) (items_printed fs)
