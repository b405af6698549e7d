-- Numbers with a fraction or an exponent in metadata: which text they are printed as is left open, so whether
-- two such texts are the same is left open too.
use Rattle.std.specs.Prelude.{◌||◌, Bool, false}
use Rattle.serde_json.specs.Written.{has_float}
use Rattle.schema_tree.specs.Tree as tree
use Rattle.schema_tree.specs.Tree.{Tree, Fields, no_fields, field}

abbrev mutual
  pub has_fraction : Tree → Bool
  has_fraction (tree.leaf p) = false
  has_fraction (tree.struct fs) = have_fraction fs
  has_fraction (tree.array t nullable) = has_fraction t
  has_fraction (tree.map k v nullable) = has_fraction k || has_fraction v

  pub have_fraction : Fields → Bool
  have_fraction no_fields = false
  have_fraction (field name t nullable metadata fs) = has_fraction t || has_float metadata || have_fraction fs
