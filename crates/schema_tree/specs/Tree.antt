-- The type of a column or a whole table, without where it lies in memory: a tree (Delta PROTOCOL.md, "Schema
-- Serialization Format").
use Rattle.std.specs.Prelude.{ℕ, List, [], ◌∷◌, Bool}
use Rattle.serde_json.specs.Data.{Data}
use Rattle.schema_tree.specs.declared.primitive.Primitive.{Primitive}

mutual
  pub data Tree : Type 0 where
    leaf : Primitive → Tree
    struct : Fields → Tree
    -- the type of the elements, and whether they may be null
    array : Tree → Bool → Tree
    -- the types of the keys and of the values, and whether the values may be null
    map : Tree → Tree → Bool → Tree

  -- each field's name and type, whether it may be null, and its metadata
  pub data Fields : Type 0 where
    no_fields : Fields
    field : List ℕ → Tree → Bool → Data → Fields → Fields

-- a field of a struct
pub record Column : Type 0 where
  pub name : List ℕ
  pub data_type : Tree
  pub nullable : Bool
  pub metadata : Data

-- a plain list as the fields of a struct
abbrev pub fields_of : List Column → Fields
fields_of [] = no_fields
fields_of (c ∷ cs) = field c.name c.data_type c.nullable c.metadata (fields_of cs)
