-- A row that conforms to a schema fits its shape.
use Rattle.std.proofs.Common.{◌≡◌, ◌&&◌, ◌||◌, Bool, true, false, refl}
use Rattle.std.proofs.lemmas.Bool.{false≢true, and_parts}
use Rattle.schema_tree.specs.Tree as tree
use Rattle.schema_tree.specs.Tree.{Tree}
use Rattle.schema_tree.specs.declared.primitive.Primitive.{Primitive}
use Rattle.schema_tree.specs.declared.primitive.Primitive.TheVariants.{Boolean}
use Rattle.row_core.specs.Conforms.{Conforms, is_leaf_value, is_null, is_value, are_values}
use Rattle.row_core.specs.Rows.{Value, Values, Row, null, structure, no_values, value}
use Rattle.shred.specs.Fits.{is_plain, FitsField, FitsShape, FitFields}
use Rattle.shred.specs.Shape.{shape_of, shapes_of}

no_null_leaf : (p : Primitive) → is_leaf_value p null ≡ true → ⊥
no_null_leaf Boolean h = false≢true h
no_null_leaf p h = false≢true h

no_struct_leaf : (p : Primitive) (vs : Values) → is_leaf_value p (structure vs) ≡ true → ⊥
no_struct_leaf Boolean vs h = false≢true h
no_struct_leaf p vs h = false≢true h

leaf_plain : (p : Primitive) (v : Value) → is_leaf_value p v ≡ true → is_plain v ≡ true
leaf_plain p null h = absurd (no_null_leaf p h)
leaf_plain p (structure vs) h = absurd (no_struct_leaf p vs h)
leaf_plain p _ h = refl

no_null : (t : Tree) → is_value t null ≡ true → ⊥
no_null (tree.leaf p) h = no_null_leaf p h
no_null _ h = false≢true h

may_be_null : (nullable inside : Bool) → nullable && true || inside ≡ true → (inside ≡ true → ⊥) → nullable ≡ true
may_be_null true inside h never = refl
may_be_null false inside h never = absurd (never h)

not_null : (nullable inside : Bool) → nullable && false || inside ≡ true → inside ≡ true
not_null true inside h = h
not_null false inside h = h

field_fits : (t : Tree) (nullable : Bool) (v : Value) → (nullable && is_null v || is_value t v) ≡ true → (is_value t v ≡ true → FitsShape (shape_of t) v) → FitsField nullable (FitsShape (shape_of t)) v
field_fits t nullable null h inner = may_be_null nullable (is_value t null) h (no_null t)
field_fits t nullable _ h inner = inner (not_null nullable _ h)

mutual
  value_fits : (t : Tree) (v : Value) → is_value t v ≡ true → FitsShape (shape_of t) v
  value_fits (tree.leaf p) v h = leaf_plain p v h
  value_fits (tree.struct fs) (structure vs) h = fields_fit fs vs h
  value_fits t v h = absurd (false≢true h)

  fields_fit : (fs : tree.Fields) (vs : Values) → are_values fs vs ≡ true → FitFields (shapes_of fs) vs
  fields_fit tree.no_fields no_values h = tt
  fields_fit (tree.field name t nullable metadata fs) (value v vs) h =
      let both = and_parts (nullable && is_null v || is_value t v) (are_values fs vs) h in
      (field_fits t nullable v both.0 (value_fits t v), fields_fit fs vs both.1)
  fields_fit fs vs h = absurd (false≢true h)

-- a row that conforms fits
pub row_fits : (t : Tree) (r : Row) → Conforms t r → FitsShape (shape_of t) r
row_fits t r conforms = value_fits t r conforms.fits
