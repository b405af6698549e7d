-- When a tree can be written with the types that a form names: four conditions.
use Rattle.std.specs.Prelude.{◌≡◌, ℕ, ◌<◌, ◌^◌, nat_lt, ℤ, pos, negsuc, ◌<ℤ◌, ◌≤ℤ◌, length, Bool, true, false, ◌&&◌, Option, None, Some}
use Rattle.std.specs.Int.Signed.{lt_z, le_z}
use Rattle.thrift_values.specs.Tree.{Tree, boolean, integer, binary, list, map, struct, skipped, Trees, no_trees, tree, Entries, no_entries, entry, Fields, no_fields, field, count_of_trees, count_of_entries}
use Rattle.thrift_core.specs.Form.{Form, boolean_form, byte_form, int16_form, int32_form, int64_form, binary_form, list_form, map_form, struct_form, Forms, member_form, entry_forms, forms_of, form_at}
use Rattle.thrift_core.specs.Writing.{IntegerHasForm}

-- The tree and each value inside it are so.
abbrev mutual
  pub EachValue : (Tree → Type 0) → Tree → Type 0
  EachValue IsSo (boolean b) = IsSo (boolean b)
  EachValue IsSo (integer z) = IsSo (integer z)
  EachValue IsSo (binary text) = IsSo (binary text)
  EachValue IsSo (list ts) = IsSo (list ts) × EachMember IsSo ts
  EachValue IsSo (map es) = IsSo (map es) × EachEntry IsSo es
  EachValue IsSo (struct fs) = IsSo (struct fs) × EachField IsSo fs
  EachValue IsSo skipped = IsSo skipped

  pub EachMember : (Tree → Type 0) → Trees → Type 0
  EachMember IsSo no_trees = Unit {0}
  EachMember IsSo (tree t ts) = EachValue IsSo t × EachMember IsSo ts

  pub EachEntry : (Tree → Type 0) → Entries → Type 0
  EachEntry IsSo no_entries = Unit {0}
  EachEntry IsSo (entry k v es) = EachValue IsSo k × EachValue IsSo v × EachEntry IsSo es

  pub EachField : (Tree → Type 0) → Fields → Type 0
  EachField IsSo no_fields = Unit {0}
  EachField IsSo (field id v fs) = EachValue IsSo v × EachField IsSo fs

-- the ids are of 16 bits, and each is above the one before it, the first above this one
abbrev pub Rise : ℤ → Fields → Type 0
Rise last no_fields = Unit {0}
Rise last (field id v fs) = (last <ℤ id) × (id ≤ℤ pos 32767) × Rise id fs

-- of a struct: its ids rise, from any one of 16 bits
abbrev pub IdsRise : Tree → Type 0
IdsRise (struct fs) = Rise (negsuc 32768) fs
IdsRise other = Unit {0}

-- of a binary, a list or a map: its size is below 2 ^ 31
abbrev pub SizeFits : Tree → Type 0
SizeFits (binary text) = length text < 2 ^ 31
SizeFits (list ts) = count_of_trees ts < 2 ^ 31
SizeFits (map es) = count_of_entries es < 2 ^ 31
SizeFits other = Unit {0}

-- nothing was left out of the value when it was read, as of a double
abbrev pub IsKept : Tree → Type 0
IsKept skipped = ⊥
IsKept other = Unit {0}

-- Each value is of the type that the form names for it, whole numbers in its range, and each field's id stands in the
-- form. No type is named for a double.
abbrev mutual
  pub HasTypes : Form → Tree → Type 0
  HasTypes f (boolean b) = f ≡ boolean_form
  HasTypes f (integer z) = IntegerHasForm f z
  HasTypes f (binary text) = f ≡ binary_form
  HasTypes f (list ts) = (m : Form) × (f ≡ list_form m) × MembersHaveTypes m ts
  HasTypes f (map es) = (k v : Form) × (f ≡ map_form k v) × EntriesHaveTypes k v es
  HasTypes f (struct fs) = (forms : Forms) × (f ≡ struct_form forms) × FieldsHaveTypes forms fs
  HasTypes f skipped = Unit {0}

  pub MembersHaveTypes : Form → Trees → Type 0
  MembersHaveTypes f no_trees = Unit {0}
  MembersHaveTypes f (tree t ts) = HasTypes f t × MembersHaveTypes f ts

  pub EntriesHaveTypes : Form → Form → Entries → Type 0
  EntriesHaveTypes k v no_entries = Unit {0}
  EntriesHaveTypes k v (entry key value es) = HasTypes k key × HasTypes v value × EntriesHaveTypes k v es

  pub FieldsHaveTypes : Forms → Fields → Type 0
  FieldsHaveTypes forms no_fields = Unit {0}
  FieldsHaveTypes forms (field id v fs) = (f : Form) × (form_at id forms ≡ Some f) × HasTypes f v × FieldsHaveTypes forms fs

-- ---- the same, computed

-- there is one, and the test passes for it
abbrev pub for_some : {A : Type 0} → (A → Bool) → Option A → Bool
for_some passes None = false
for_some passes (Some x) = passes x

abbrev pub is_boolean_form : Form → Bool
is_boolean_form boolean_form = true
is_boolean_form other = false

abbrev pub is_binary_form : Form → Bool
is_binary_form binary_form = true
is_binary_form other = false

-- from -n - 1 to n
abbrev pub is_between : ℕ → ℤ → Bool
is_between n z = le_z (negsuc n) z && le_z z (pos n)

abbrev pub integer_fits : Form → ℤ → Bool
integer_fits byte_form z = is_between 127 z
integer_fits int16_form z = is_between 32767 z
integer_fits int32_form z = is_between 2147483647 z
integer_fits int64_form z = is_between 9223372036854775807 z
integer_fits other z = false

abbrev mutual
  pub is_writable : Form → Tree → Bool
  is_writable f (boolean b) = is_boolean_form f
  is_writable f (integer z) = integer_fits f z
  is_writable f (binary text) = is_binary_form f && nat_lt (length text) 2147483648
  is_writable f (list ts) = for_some (λ m. nat_lt (count_of_trees ts) 2147483648 && are_writable m ts) (member_form f)
  is_writable f (map es) = for_some (λ e. nat_lt (count_of_entries es) 2147483648 && entries_are_writable e.0 e.1 es) (entry_forms f)
  is_writable f (struct fs) = for_some (λ forms. fields_are_writable forms (negsuc 32768) fs) (forms_of f)
  is_writable f skipped = false

  pub are_writable : Form → Trees → Bool
  are_writable f no_trees = true
  are_writable f (tree t ts) = is_writable f t && are_writable f ts

  pub entries_are_writable : Form → Form → Entries → Bool
  entries_are_writable k v no_entries = true
  entries_are_writable k v (entry key value es) = (is_writable k key && is_writable v value) && entries_are_writable k v es

  pub fields_are_writable : Forms → ℤ → Fields → Bool
  fields_are_writable forms last no_fields = true
  fields_are_writable forms last (field id v fs) = (lt_z last id && (le_z id (pos 32767) && for_some (λ f. is_writable f v) (form_at id forms))) && fields_are_writable forms id fs
