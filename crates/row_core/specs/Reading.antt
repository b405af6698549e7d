-- The row that a JSON value is, or the first fault.
use Rattle.std.specs.Prelude.{ℕ, ◌^◌, List, [], ◌∷◌, Bool, false, if◌then◌else◌, Option, Some, None, Result, Ok, Err, option_map, option_and_then, unwrap_or}
use Rattle.std.specs.Result.{result_ok}
use Rattle.serde_json.specs.Data as json
use Rattle.serde_json.specs.Data.{Data, Members, no_members, member}
use Rattle.serde_json.specs.Find.{get, as_bool, as_number, as_integer, as_str, as_object}
use Rattle.hex.specs.Hex.{decode_of}
use Rattle.outcomes.specs.Results.{◌>>=◌, or_refusal, refused_as}
use Rattle.schema_tree.specs.Limits.{is_named}
use Rattle.schema_tree.specs.Fault.{Path}
use Rattle.schema_tree.specs.Tree as tree
use Rattle.schema_tree.specs.Tree.{Tree, Fields, no_fields, field}
use Rattle.schema_tree.specs.declared.primitive.Primitive.{Primitive}
use Rattle.schema_tree.specs.declared.primitive.Primitive.TheVariants.{String, Long, Integer, Short, Byte, Boolean, Binary, Date, Timestamp, Float, Double, Decimal}
use Rattle.row_core.specs.Conforms.{is_short, is_within}
use Rattle.row_core.specs.Fault as fault
use Rattle.row_core.specs.Fault.{Fault, missing, wrong_kind, out_of_range, unknown, inside}
use Rattle.row_core.specs.Rows.{Value, Row, null, truth, whole, text, bytes, structure, values_of}
use Rattle.row_core.specs.Unsupported.{unsupported}

-- what stands there is of the kind, or a fault
abbrev pub of_kind : {A : Type 0} → Option A → Result A Fault
of_kind found = or_refusal found (wrong_kind None)

-- a value within the range of its type, or a fault
abbrev pub in_range : Bool → Value → Result Value Fault
in_range within v = if within then Ok v else Err (out_of_range None)

-- the bytes of a hexadecimal text of either case
abbrev pub hex_bytes : List ℕ → Option (List ℕ)
hex_bytes s = result_ok (decode_of s)

-- a whole number from -limit to limit - 1: no fraction, no exponent
abbrev pub whole_value : ℕ → Data → Result Value Fault
whole_value limit d = of_kind (option_and_then as_integer (as_number d)) >>= λ z. in_range (is_within limit z) (whole z)

abbrev pub text_value : Data → Result Value Fault
text_value d = of_kind (as_str d) >>= λ s. in_range (is_short s) (text s)

abbrev pub bytes_value : Data → Result Value Fault
bytes_value d = of_kind (option_and_then hex_bytes (as_str d)) >>= λ s. in_range (is_short s) (bytes s)

abbrev pub leaf_value : Primitive → Data → Result Value Fault
leaf_value Boolean d = of_kind (option_map truth (as_bool d))
leaf_value Byte d = whole_value (2 ^ 7) d
leaf_value Short d = whole_value (2 ^ 15) d
leaf_value Integer d = whole_value (2 ^ 31) d
leaf_value Long d = whole_value (2 ^ 63) d
leaf_value Date d = whole_value (2 ^ 31) d
leaf_value String d = text_value d
leaf_value Binary d = bytes_value d
leaf_value Timestamp d = Err (fault.unsupported None)
leaf_value Float d = Err (fault.unsupported None)
leaf_value Double d = Err (fault.unsupported None)
leaf_value (Decimal precision scale) d = Err (fault.unsupported None)

-- The first name that no field has. An object's names stand in order of bytes.
abbrev pub unknown_name : Fields → Members → Option (List ℕ)
unknown_name fs no_members = None
unknown_name fs (member name d ms) = if is_named name fs then unknown_name fs ms else Some name

abbrev pub none_unknown : Option (List ℕ) → Result (Unit {0}) Fault
none_unknown None = Ok tt
none_unknown (Some name) = Err (unknown name)

-- a value where null may stand or not, and what it is otherwise
abbrev pub unless_null : Bool → Data → Result Value Fault → Result Value Fault
unless_null nullable json.null other = if nullable then Ok null else Err (missing None)
unless_null nullable d other = other

-- the value under a name; a name that is absent has null
abbrev pub under : List ℕ → Data → Data
under name d = unwrap_or (get name d) json.null

-- Fields are looked at in order, and behind them the names that none of them has.
abbrev mutual
  pub value_of : Tree → Data → Result Value Fault
  value_of (tree.leaf p) d = leaf_value p d
  value_of (tree.struct fs) d = do
    ms ← of_kind (as_object d)
    vs ← field_values fs d
    all_known ← none_unknown (unknown_name fs ms)
    Ok (structure (values_of vs))
  value_of (tree.array t nullable) d = Err (fault.unsupported None)
  value_of (tree.map k v nullable) d = Err (fault.unsupported None)

  pub field_values : Fields → Data → Result (List Value) Fault
  field_values no_fields d = Ok []
  field_values (field name t nullable metadata fs) d = do
    v ← refused_as (inside name) (unless_null nullable (under name d) (value_of t (under name d)))
    vs ← field_values fs d
    Ok (v ∷ vs)

abbrev pub none_unsupported : Option Path → Result (Unit {0}) Fault
none_unsupported None = Ok tt
none_unsupported (Some path) = Err (fault.unsupported path)

-- The row of a table that a JSON value is. A row is never null.
unfoldable pub row_of : Tree → Data → Result Row Fault
row_of t d = none_unsupported (unsupported t) >>= λ supported. unless_null false d (value_of t d)
