-- How Parquet keeps the values of a table's types (Apache Parquet, "Types" and "Logical Types"; Delta PROTOCOL.md,
-- "Primitive Types").
use Rattle.std.specs.Prelude.{ℤ, pos, Option, Some, None}
use Rattle.schema_tree.specs.declared.primitive.Primitive.{Primitive}
use Rattle.schema_tree.specs.declared.primitive.Primitive.TheVariants as primitive
use Rattle.page_cells.specs.declared.types.LeafType.{LeafType}
use Rattle.page_cells.specs.declared.types.LeafType.TheVariants.{Boolean, Byte, Short, Integer, Long, Date, String, Binary}
use Rattle.page_cells.specs.declared.types.PhysicalType.{PhysicalType}
use Rattle.page_cells.specs.declared.types.PhysicalType.TheVariants as physical

-- the type of a leaf whose values a file can hold
abbrev pub leaf_type : Primitive → Option LeafType
leaf_type primitive.Boolean = Some Boolean
leaf_type primitive.Byte = Some Byte
leaf_type primitive.Short = Some Short
leaf_type primitive.Integer = Some Integer
leaf_type primitive.Long = Some Long
leaf_type primitive.Date = Some Date
leaf_type primitive.String = Some String
leaf_type primitive.Binary = Some Binary
leaf_type other = None

-- the primitive type of a leaf
abbrev pub primitive_of : LeafType → Primitive
primitive_of Boolean = primitive.Boolean
primitive_of Byte = primitive.Byte
primitive_of Short = primitive.Short
primitive_of Integer = primitive.Integer
primitive_of Long = primitive.Long
primitive_of Date = primitive.Date
primitive_of String = primitive.String
primitive_of Binary = primitive.Binary

abbrev pub physical_type : LeafType → PhysicalType
physical_type Boolean = physical.Boolean
physical_type Byte = physical.Int32
physical_type Short = physical.Int32
physical_type Integer = physical.Int32
physical_type Long = physical.Int64
physical_type Date = physical.Int32
physical_type String = physical.ByteArray
physical_type Binary = physical.ByteArray

-- Type: BOOLEAN 0, INT32 1, INT64 2, BYTE_ARRAY 6
abbrev pub type_number : PhysicalType → ℤ
type_number physical.Boolean = pos 0
type_number physical.Int32 = pos 1
type_number physical.Int64 = pos 2
type_number physical.ByteArray = pos 6

-- ConvertedType: UTF8 0, DATE 6, INT_8 15, INT_16 16
abbrev pub converted_type : LeafType → Option ℤ
converted_type String = Some (pos 0)
converted_type Date = Some (pos 6)
converted_type Byte = Some (pos 15)
converted_type Short = Some (pos 16)
converted_type other = None
