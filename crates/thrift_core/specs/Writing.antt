-- The bytes that are written for a tree, each value as its form has it.
use Rattle.std.specs.Prelude.{◌≡◌, ℕ, ◌+◌, ◌*◌, ◌%◌, ◌<◌, ◌^◌, ◌==◌, ◌||◌, nat_lt, ℤ, pos, negsuc, ◌-ℤ◌, ◌<ℤ◌, ◌≤ℤ◌, List, [], ◌∷◌, ◌++◌, length, Bool, true, false, Option, Some, None, if◌then◌else◌, FitsSigned, unsigned_abs}
use Rattle.std.specs.Int.{w8, w16, w32, w64, cast_unsigned}
use Rattle.std.specs.Int.Signed.{le_z}
use Rattle.lake_bytes.specs.Varint.{varint_bytes}
use Rattle.lake_bytes.specs.Zigzag.{zigzag}
use Rattle.thrift_core.specs.declared.wire.WireType.{WireType}
use Rattle.thrift_core.specs.declared.wire.WireType.TheVariants as wire
use Rattle.thrift_values.specs.Tree.{Tree, boolean, integer, binary, list, map, struct, skipped, Trees, no_trees, tree, Entries, no_entries, entry, Fields, no_fields, field, count_of_trees, count_of_entries}
use Rattle.thrift_core.specs.Form.{Form, boolean_form, byte_form, int16_form, int32_form, int64_form, binary_form, list_form, map_form, struct_form, Forms, number_of, member_form, entry_forms, forms_of, form_at}

-- the bytes for what there is, and none for nothing
abbrev pub bytes_for : {A : Type 0} → (A → List ℕ) → Option A → List ℕ
bytes_for f None = []
bytes_for f (Some x) = f x

-- a truth value in a list or a map, and as the number of a field's type
abbrev pub boolean_number : Bool → ℕ
boolean_number b = if b then 1 else 2

abbrev pub integer_bytes : Form → ℤ → List ℕ
integer_bytes byte_form z = (cast_unsigned w64 z % 256) ∷ []
integer_bytes other z = varint_bytes (zigzag z)

unfoldable pub list_header_bytes : ℕ → ℕ → List ℕ
list_header_bytes number size = if nat_lt size 15 then (16 * size + number) ∷ [] else (240 + number) ∷ varint_bytes size

unfoldable pub map_header_bytes : ℕ → ℕ → ℕ → List ℕ
map_header_bytes key value size = if size == 0 then 0 ∷ [] else varint_bytes size ++ (16 * key + value) ∷ []

-- the short header where the id is 1 to 15 above the last one
unfoldable pub field_header_bytes : ℤ → ℤ → ℕ → List ℕ
field_header_bytes last id number = if le_z id last || nat_lt 15 (unsigned_abs (id -ℤ last)) then number ∷ varint_bytes (zigzag id) else (16 * unsigned_abs (id -ℤ last) + number) ∷ []

-- the number of a field's type, which for a boolean is its value
abbrev pub field_number : Form → Tree → ℕ
field_number f (boolean b) = boolean_number b
field_number f other = number_of f

-- a boolean, which has its value in a field's type
abbrev pub is_boolean : Tree → Bool
is_boolean (boolean b) = true
is_boolean other = false

-- one field behind one of the id `last`, where `value` gives the bytes of its value in a form
abbrev pub field_bytes : (Form → List ℕ) → Forms → ℤ → ℤ → Tree → List ℕ
field_bytes value forms last id v = bytes_for (λ f. field_header_bytes last id (field_number f v) ++ (if is_boolean v then [] else value f)) (form_at id forms)

abbrev mutual
  pub written : Form → Tree → List ℕ
  written f (boolean b) = boolean_number b ∷ []
  written f (integer z) = integer_bytes f z
  written f (binary text) = varint_bytes (length text) ++ text
  written f (list ts) = bytes_for (λ m. list_header_bytes (number_of m) (count_of_trees ts) ++ written_members m ts) (member_form f)
  written f (map es) = bytes_for (λ e. map_header_bytes (number_of e.0) (number_of e.1) (count_of_entries es) ++ written_entries e.0 e.1 es) (entry_forms f)
  written f (struct fs) = bytes_for (λ forms. written_fields forms (pos 0) fs) (forms_of f)
  written f skipped = []

  pub written_members : Form → Trees → List ℕ
  written_members f no_trees = []
  written_members f (tree t ts) = written f t ++ written_members f ts

  pub written_entries : Form → Form → Entries → List ℕ
  written_entries key value no_entries = []
  written_entries key value (entry k v es) = (written key k ++ written value v) ++ written_entries key value es

  -- fields behind one of this id
  pub written_fields : Forms → ℤ → Fields → List ℕ
  written_fields forms last no_fields = 0 ∷ []
  written_fields forms last (field id v fs) = field_bytes (λ f. written f v) forms last id v ++ written_fields forms id fs

-- one field behind one of the id `last`
abbrev pub written_field : Forms → ℤ → ℤ → Tree → List ℕ
written_field forms last id v = field_bytes (λ f. written f v) forms last id v

-- whole numbers that fit the type, which is one of whole numbers
abbrev pub IntegerHasForm : Form → ℤ → Type 0
IntegerHasForm byte_form z = FitsSigned w8 z
IntegerHasForm int16_form z = FitsSigned w16 z
IntegerHasForm int32_form z = FitsSigned w32 z
IntegerHasForm int64_form z = FitsSigned w64 z
IntegerHasForm other z = ⊥

-- The tree can be written in this form: each value is of the type named for it, sizes are below 2 ^ 31, the ids
-- of a struct rise, are of 16 bits and stand in the form, and nothing is skipped.
abbrev mutual
  pub HasForm : Form → Tree → Type 0
  HasForm f (boolean b) = f ≡ boolean_form
  HasForm f (integer z) = IntegerHasForm f z
  HasForm f (binary text) = (f ≡ binary_form) × (length text < 2 ^ 31)
  HasForm f (list ts) = (m : Form) × (f ≡ list_form m) × (count_of_trees ts < 2 ^ 31) × MembersHaveForm m ts
  HasForm f (map es) = (k v : Form) × (f ≡ map_form k v) × (count_of_entries es < 2 ^ 31) × EntriesHaveForm k v es
  HasForm f (struct fs) = (forms : Forms) × (f ≡ struct_form forms) × FieldsHaveForm forms (negsuc 32768) fs
  HasForm f skipped = ⊥

  pub MembersHaveForm : Form → Trees → Type 0
  MembersHaveForm f no_trees = Unit {0}
  MembersHaveForm f (tree t ts) = HasForm f t × MembersHaveForm f ts

  pub EntriesHaveForm : Form → Form → Entries → Type 0
  EntriesHaveForm k v no_entries = Unit {0}
  EntriesHaveForm k v (entry key value es) = HasForm k key × HasForm v value × EntriesHaveForm k v es

  -- fields whose ids are above this one
  pub FieldsHaveForm : Forms → ℤ → Fields → Type 0
  FieldsHaveForm forms last no_fields = Unit {0}
  FieldsHaveForm forms last (field id v fs) = (last <ℤ id) × (id ≤ℤ pos 32767) × (f : Form) × (form_at id forms ≡ Some f) × HasForm f v × FieldsHaveForm forms id fs

-- the type that is written for a form
abbrev pub wire_of : Form → WireType
wire_of boolean_form = wire.Boolean
wire_of byte_form = wire.Byte
wire_of int16_form = wire.Int16
wire_of int32_form = wire.Int32
wire_of int64_form = wire.Int64
wire_of binary_form = wire.Binary
wire_of (list_form member) = wire.List
wire_of (map_form key value) = wire.Map
wire_of (struct_form fields) = wire.Struct
