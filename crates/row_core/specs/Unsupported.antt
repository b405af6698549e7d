-- The columns of which there are no rows.
use Rattle.std.specs.Prelude.{Bool, true, false, if◌then◌else◌, Option, Some, None, option_map}
use Rattle.std.specs.Option.{option_or}
use Rattle.schema_tree.specs.Fault.{Path, path_inside}
use Rattle.schema_tree.specs.Tree as tree
use Rattle.schema_tree.specs.Tree.{Tree, Fields, no_fields, field}
use Rattle.schema_tree.specs.declared.primitive.Primitive.{Primitive}
use Rattle.schema_tree.specs.declared.primitive.Primitive.TheVariants.{String, Long, Integer, Short, Byte, Boolean, Binary, Date, Timestamp, Float, Double, Decimal}

-- whether there are values of the type
abbrev pub has_values : Primitive → Bool
has_values String = true
has_values Long = true
has_values Integer = true
has_values Short = true
has_values Byte = true
has_values Boolean = true
has_values Binary = true
has_values Date = true
has_values Timestamp = false
has_values Float = false
has_values Double = false
has_values (Decimal precision scale) = false

-- The path of the first array, map or type without values, depth first: that of the field that holds it.
abbrev mutual
  pub unsupported : Tree → Option Path
  unsupported (tree.leaf p) = if has_values p then None else Some None
  unsupported (tree.struct fs) = unsupported_field fs
  unsupported (tree.array t nullable) = Some None
  unsupported (tree.map k v nullable) = Some None

  pub unsupported_field : Fields → Option Path
  unsupported_field no_fields = None
  unsupported_field (field name t nullable metadata fs) = option_or (option_map (path_inside name) (unsupported t)) (unsupported_field fs)
