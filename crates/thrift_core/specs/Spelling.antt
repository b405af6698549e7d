-- Which bytes spell a tree in the Thrift compact protocol.
use Rattle.std.specs.Prelude.{◌≡◌, ℕ, ◌+◌, ◌*◌, ◌<◌, ◌≤◌, ℤ, pos, ◌+ℤ◌, ◌≤ℤ◌, List, [], ◌∷◌, ◌++◌, length, Bool, true, false}
use Rattle.std.specs.Int.{w8, cast_signed}
use Rattle.lake_bytes.specs.Varint.{SpellsNumber}
use Rattle.lake_bytes.specs.Zigzag.{SpellsSigned}
use Rattle.thrift_values.specs.Tree.{Tree, boolean, integer, binary, list, map, struct, skipped, Trees, no_trees, tree, Entries, no_entries, entry, Fields, no_fields, field, count_of_trees, count_of_entries, depth, nodes}
use Rattle.thrift_core.specs.Wire.{Announces}
use Rattle.thrift_core.specs.declared.wire.WireType.{WireType}
use Rattle.thrift_core.specs.declared.wire.WireType.TheVariants as wire

-- The bytes are two parts, one behind the other.
pub record InTurn (First Second : List ℕ → Type 0) (bytes : List ℕ) : Type 0 where
  pub front : List ℕ
  pub back : List ℕ
  pub first : First front
  pub second : Second back
  pub whole : bytes ≡ front ++ back

-- ---- values of one part

-- A boolean in a list, a set or a map is a byte: 1 is true, 0 or 2 is false.
pub data SpellsBoolean (bytes : List ℕ) (value : Bool) : Type 0 where
  one : bytes ≡ 1 ∷ [] → value ≡ true → SpellsBoolean bytes value
  two : bytes ≡ 2 ∷ [] → value ≡ false → SpellsBoolean bytes value
  none : bytes ≡ 0 ∷ [] → value ≡ false → SpellsBoolean bytes value

-- A byte is itself, in two's complement.
pub record SpellsByte (bytes : List ℕ) (z : ℤ) : Type 0 where
  pub byte : ℕ
  pub fits : byte < 256
  pub alone : bytes ≡ byte ∷ []
  pub value : z ≡ cast_signed w8 byte

-- A whole number of 16, 32 or 64 bits is a varint by zigzag.
abbrev pub SpellsInteger : WireType → List ℕ → ℤ → Type 0
SpellsInteger wire.Byte bytes z = SpellsByte bytes z
SpellsInteger wire.Int16 bytes z = SpellsSigned 16 bytes z
SpellsInteger wire.Int32 bytes z = SpellsSigned 32 bytes z
SpellsInteger wire.Int64 bytes z = SpellsSigned 64 bytes z
SpellsInteger type bytes z = ⊥

-- A binary is its length and its bytes.
abbrev pub SpellsBinary : List ℕ → List ℕ → Type 0
SpellsBinary bytes text = InTurn (λ front. SpellsNumber front (length text)) (λ back. back ≡ text) bytes

-- ---- headers

-- A list's or a set's header: the size in the high half of a byte where it is below 15, or 15 there and the
-- size behind it. The members' type is in the low half.
pub data ListHeader (size : ℕ) (member : WireType) (bytes : List ℕ) : Type 0 where
  small_size : (number : ℕ) → Announces number member → size < 15 → bytes ≡ (16 * size + number) ∷ [] → ListHeader size member bytes
  size_behind : (number : ℕ) (behind : List ℕ) → Announces number member → SpellsNumber behind size → bytes ≡ (16 * 15 + number) ∷ behind → ListHeader size member bytes

-- A map's header: its size, and where that is not 0 a byte with the type of the keys in the high half and that
-- of the values in the low half.
pub data MapHeader (size : ℕ) (key value : WireType) (bytes : List ℕ) : Type 0 where
  empty_map : size ≡ 0 → SpellsNumber bytes 0 → MapHeader size key value bytes
  filled_map : (of_keys of_values : ℕ) → Announces of_keys key → Announces of_values value → 0 < size
      → InTurn (λ front. SpellsNumber front size) (λ back. back ≡ (16 * of_keys + of_values) ∷ []) bytes → MapHeader size key value bytes

-- A field's header: how much its id is above the last one in the high half, or 0 there and the id behind it.
-- The number of its type is in the low half.
pub data FieldHeader (last : ℤ) (number : ℕ) (id : ℤ) (bytes : List ℕ) : Type 0 where
  id_rises : (rise : ℕ) → 0 < rise → rise ≤ 15 → id ≡ last +ℤ pos rise → id ≤ℤ pos 32767 → bytes ≡ (16 * rise + number) ∷ [] → FieldHeader last number id bytes
  id_behind : (behind : List ℕ) → SpellsSigned 16 behind id → bytes ≡ number ∷ behind → FieldHeader last number id bytes

-- A field's value: a boolean is the number of its type, 1 for true and 2 for false, and another value is
-- spelled as its type has it.
pub data FieldValue (Spelled : WireType → List ℕ → Type 0) (number : ℕ) (value : Tree) (bytes : List ℕ) : Type 0 where
  is_true : number ≡ 1 → value ≡ boolean true → bytes ≡ [] → FieldValue Spelled number value bytes
  is_false : number ≡ 2 → value ≡ boolean false → bytes ≡ [] → FieldValue Spelled number value bytes
  apart : (type : WireType) → 2 < number → Announces number type → Spelled type bytes → FieldValue Spelled number value bytes

-- ---- trees

-- These bytes are one spelling of the tree, as a value of this type.
abbrev mutual
  pub Spells : WireType → List ℕ → Tree → Type 0
  Spells type bytes (boolean b) = (type ≡ wire.Boolean) × SpellsBoolean bytes b
  Spells type bytes (integer z) = SpellsInteger type bytes z
  Spells type bytes (binary text) = (type ≡ wire.Binary) × SpellsBinary bytes text
  Spells type bytes skipped = (type ≡ wire.Double) × (length bytes ≡ 8)
  Spells type bytes (list ts) = (type ≡ wire.List) × (member : WireType) × InTurn (ListHeader (count_of_trees ts) member) (λ body. SpellsMembers member body ts) bytes
  Spells type bytes (map es) = (type ≡ wire.Map) × (key value : WireType) × InTurn (MapHeader (count_of_entries es) key value) (λ body. SpellsEntries key value body es) bytes
  Spells type bytes (struct fs) = (type ≡ wire.Struct) × SpellsFields (pos 0) bytes fs

  -- members of one type, one behind the other
  pub SpellsMembers : WireType → List ℕ → Trees → Type 0
  SpellsMembers type bytes no_trees = bytes ≡ []
  SpellsMembers type bytes (tree t ts) = InTurn (λ front. Spells type front t) (λ back. SpellsMembers type back ts) bytes

  -- each key, and its value behind it
  pub SpellsEntries : WireType → WireType → List ℕ → Entries → Type 0
  SpellsEntries key value bytes no_entries = bytes ≡ []
  SpellsEntries key value bytes (entry k v es) = InTurn (InTurn (λ front. Spells key front k) (λ back. Spells value back v)) (λ back. SpellsEntries key value back es) bytes

  -- fields behind one of this id, up to a byte 0
  pub SpellsFields : ℤ → List ℕ → Fields → Type 0
  SpellsFields last bytes no_fields = bytes ≡ 0 ∷ []
  SpellsFields last bytes (field id v fs) = (number : ℕ) × InTurn (InTurn (FieldHeader last number id) (FieldValue (λ type inside. Spells type inside v) number v)) (λ back. SpellsFields id back fs) bytes

-- These bytes are one spelling of a struct that keeps the limits.
pub record SpellsStruct (bytes : List ℕ) (t : Tree) : Type 0 where
  pub spelled : Spells wire.Struct bytes t
  pub nesting : depth t ≤ 32
  pub values : nodes t ≤ 262144
