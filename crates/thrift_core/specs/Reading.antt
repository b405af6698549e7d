-- Reading a tree from the left, with the first fault that is met.
use Rattle.std.specs.Prelude.{◌≡◌, ℕ, zero, suc, ◌-◌, ◌/◌, ◌%◌, ◌==◌, ℤ, pos, ◌+ℤ◌, List, [], ◌∷◌, length, Bool, true, false, Result, Ok, Err, nat_lt, if◌then◌else◌}
use Rattle.std.specs.Int.{w8, cast_signed}
use Rattle.std.specs.Int.Signed.{le_z}
use Rattle.lake_bytes.specs.Reading.{byte_at, bytes_at}
use Rattle.outcomes.specs.Outcome.{IsSaid}
use Rattle.outcomes.specs.Results.{◌>>=◌}
use Rattle.lake_bytes.specs.Varint.{varint_at}
use Rattle.lake_bytes.specs.Zigzag.{signed_at}
use Rattle.lake_bytes.specs.declared.fault.ByteFault.{ByteFault}
use Rattle.lake_bytes.specs.declared.fault.ByteFault.TheVariants.{Short, OutOfRange}
use Rattle.thrift_values.specs.Tree.{Tree, boolean, integer, binary, list, map, struct, skipped, trees_of, entries_of, fields_of}
use Rattle.thrift_core.specs.Wire.{announced}
use Rattle.thrift_values.specs.declared.fault.ThriftFault.{ThriftFault}
use Rattle.thrift_values.specs.declared.fault.ThriftFault.TheVariants.{Bytes, BadType, TooDeep, TooMany}
use Rattle.thrift_values.specs.declared.fault.ReadError.{ReadError}
use Rattle.thrift_values.specs.Said.{says}
use Rattle.thrift_core.specs.declared.source.Source.{Source}
use Rattle.thrift_core.specs.declared.wire.WireType.{WireType}
use Rattle.thrift_core.specs.declared.wire.WireType.TheVariants as wire

-- What a function returned, seen by view, and the source that it left are what reading gives, unless memory ran out.
abbrev pub Reads : {X A : Type 0} → (X → A) → Result (A × Source) ThriftFault → Result X ReadError → Source → Type 0
Reads view read (Ok x) new = read ≡ Ok (view x, new)
Reads view read (Err e) new = IsSaid (says e) read

-- The same of a function that takes no memory: each of its faults is the one that reading gives.
abbrev pub ReadsExactly : {X A : Type 0} → (X → A) → Result (A × Source) ThriftFault → Result X ThriftFault → Source → Type 0
ReadsExactly view read (Ok x) new = read ≡ Ok (view x, new)
ReadsExactly view read (Err fault) new = read ≡ Err fault

abbrev pub Counts : Result Source ThriftFault → Result Unit ThriftFault → Source → Type 0
Counts counts (Ok x) new = counts ≡ Ok new
Counts counts (Err fault) new = counts ≡ Err fault

-- a reading of bytes alone
abbrev pub of_bytes : {A : Type 0} → Result (A × List ℕ) ByteFault → Source → Result (A × Source) ThriftFault
of_bytes (Ok x) source = Ok (x.0, record source { cursor = x.1 })
of_bytes (Err fault) source = Err (Bytes fault)

abbrev pub byte_ahead : Source → Result (ℕ × Source) ThriftFault
byte_ahead source = of_bytes (byte_at source.cursor) source

abbrev pub varint_ahead : Source → Result (ℕ × Source) ThriftFault
varint_ahead source = of_bytes (varint_at source.cursor) source

abbrev pub signed_ahead : ℕ → Source → Result (ℤ × Source) ThriftFault
signed_ahead width source = of_bytes (signed_at width source.cursor) source

abbrev pub bytes_ahead : ℕ → Source → Result (List ℕ × Source) ThriftFault
bytes_ahead count source = of_bytes (bytes_at count source.cursor) source

-- A value begins: one fewer may come behind it.
unfoldable pub counted : Source → Result Source ThriftFault
counted source = if source.nodes == 0 then Err TooMany else Ok (record source { nodes = source.nodes - 1 })

-- a size, which may not be above the bytes that are left
unfoldable pub bounded_size : ℕ → Source → Result (ℕ × Source) ThriftFault
bounded_size size source = if nat_lt (length source.cursor) size then Err (Bytes Short) else Ok (size, source)

-- a boolean in a list, a set or a map
unfoldable pub boolean_ahead : Source → Result (Tree × Source) ThriftFault
boolean_ahead source = do
  byte ← byte_ahead source
  if byte.0 == 1 then Ok (boolean true, byte.1) else (if nat_lt byte.0 3 then Ok (boolean false, byte.1) else Err BadType)

unfoldable pub byte_number_ahead : Source → Result (Tree × Source) ThriftFault
byte_number_ahead source = do
  byte ← byte_ahead source
  Ok (integer (cast_signed w8 byte.0), byte.1)

unfoldable pub integer_ahead : ℕ → Source → Result (Tree × Source) ThriftFault
integer_ahead width source = do
  number ← signed_ahead width source
  Ok (integer number.0, number.1)

unfoldable pub double_ahead : Source → Result (Tree × Source) ThriftFault
double_ahead source = do
  bytes ← bytes_ahead 8 source
  Ok (skipped, bytes.1)

unfoldable pub binary_ahead : Source → Result (Tree × Source) ThriftFault
binary_ahead source = do
  size ← varint_ahead source
  text ← bytes_ahead size.0 size.1
  Ok (binary text.0, text.1)

-- the type of a list's members, and how many there are
unfoldable pub list_header_ahead : Source → Result ((WireType × ℕ) × Source) ThriftFault
list_header_ahead source = do
  header ← byte_ahead source
  member ← announced (header.0 % 16)
  size ← if header.0 / 16 == 15 then varint_ahead header.1 else Ok (header.0 / 16, header.1)
  count ← bounded_size size.0 size.1
  Ok ((member, count.0), count.1)

-- the types of a map's keys and values, which an empty one has not, and how many entries there are
unfoldable pub map_header_ahead : Source → Result ((WireType × WireType × ℕ) × Source) ThriftFault
map_header_ahead source = do
  size ← varint_ahead source
  count ← bounded_size size.0 size.1
  if count.0 == 0 then Ok ((wire.Boolean, wire.Boolean, 0), count.1) else (do
    types ← byte_ahead count.1
    key ← announced (types.0 / 16)
    value ← announced (types.0 % 16)
    Ok ((key, value, count.0), types.1))

-- a field's id: so much above the last one, or in full where the rise is 0
unfoldable pub id_ahead : ℕ → ℤ → Source → Result (ℤ × Source) ThriftFault
id_ahead rise last source =
    if rise == 0 then signed_ahead 16 source else
    (if le_z (last +ℤ pos rise) (pos 32767) then Ok (last +ℤ pos rise, source) else Err (Bytes OutOfRange))

-- a boolean field, whose value is its type
unfoldable pub flag_ahead : Bool → Source → Result (Tree × Source) ThriftFault
flag_ahead value source = do
  inside ← counted source
  Ok (boolean value, inside)

-- Below, `read type` reads a value of that type.

-- so many values, one after another
unfoldable pub repeated : {A : Type 0} → (Source → Result (A × Source) ThriftFault) → ℕ → Source → Result (List A × Source) ThriftFault
repeated read zero source = Ok ([], source)
repeated read (suc count) source = do
  first ← read source
  others ← repeated read count first.1
  Ok (first.0 ∷ others.0, others.1)

unfoldable pub entry_ahead : (WireType → Source → Result (Tree × Source) ThriftFault) → WireType → WireType → Source → Result ((Tree × Tree) × Source) ThriftFault
entry_ahead read key_type value_type source = do
  key ← read key_type source
  value ← read value_type key.1
  Ok ((key.0, value.0), value.1)

-- a field behind the first byte of its header
unfoldable pub field_ahead : (WireType → Source → Result (Tree × Source) ThriftFault) → ℤ → ℕ → Source → Result ((ℤ × Tree) × Source) ThriftFault
field_ahead read last header source = do
  type ← announced (header % 16)
  id ← id_ahead (header / 16) last source
  value ← if header % 16 == 1 then flag_ahead true id.1 else (if header % 16 == 2 then flag_ahead false id.1 else read type id.1)
  Ok ((id.0, value.0), value.1)

-- The fields up to the byte 0, at most as many as there are bytes left.
unfoldable pub fields_ahead : (WireType → Source → Result (Tree × Source) ThriftFault) → ℤ → ℕ → Source → Result (List (ℤ × Tree) × Source) ThriftFault
fields_ahead read last zero source = Err (Bytes Short)
fields_ahead read last (suc most) source = do
  header ← byte_ahead source
  if header.0 == 0 then Ok ([], header.1) else (do
    first ← field_ahead read last header.0 header.1
    others ← fields_ahead read first.0.0 most first.1
    Ok (first.0 ∷ others.0, others.1))

unfoldable pub list_ahead : (WireType → Source → Result (Tree × Source) ThriftFault) → Source → Result (Tree × Source) ThriftFault
list_ahead read source = do
  header ← list_header_ahead source
  members ← repeated (read header.0.0) header.0.1 header.1
  Ok (list (trees_of members.0), members.1)

unfoldable pub map_ahead : (WireType → Source → Result (Tree × Source) ThriftFault) → Source → Result (Tree × Source) ThriftFault
map_ahead read source = do
  header ← map_header_ahead source
  entries ← repeated (entry_ahead read header.0.0 header.0.1) header.0.2 header.1
  Ok (map (entries_of entries.0), entries.1)

unfoldable pub struct_ahead : (WireType → Source → Result (Tree × Source) ThriftFault) → Source → Result (Tree × Source) ThriftFault
struct_ahead read source = do
  fields ← fields_ahead read (pos 0) (length source.cursor) source
  Ok (struct (fields_of fields.0), fields.1)

-- a value that has been counted, where structs, lists and maps may nest so deep
unfoldable pub content_ahead : ℕ → WireType → Source → Result (Tree × Source) ThriftFault
content_ahead depth wire.Boolean source = boolean_ahead source
content_ahead depth wire.Byte source = byte_number_ahead source
content_ahead depth wire.Int16 source = integer_ahead 16 source
content_ahead depth wire.Int32 source = integer_ahead 32 source
content_ahead depth wire.Int64 source = integer_ahead 64 source
content_ahead depth wire.Double source = double_ahead source
content_ahead depth wire.Binary source = binary_ahead source
content_ahead zero wire.List source = Err TooDeep
content_ahead zero wire.Map source = Err TooDeep
content_ahead zero wire.Struct source = Err TooDeep
content_ahead (suc depth) wire.List source = list_ahead (λ type inside. counted inside >>= content_ahead depth type) source
content_ahead (suc depth) wire.Map source = map_ahead (λ type inside. counted inside >>= content_ahead depth type) source
content_ahead (suc depth) wire.Struct source = struct_ahead (λ type inside. counted inside >>= content_ahead depth type) source

-- A value: it is counted, and then read. Its nesting is tested before its header.
unfoldable pub value_ahead : ℕ → WireType → Source → Result (Tree × Source) ThriftFault
value_ahead depth type source = counted source >>= content_ahead depth type

-- The struct in front of the bytes, within the limits, and the bytes behind it.
unfoldable pub struct_at : List ℕ → Result (Tree × List ℕ) ThriftFault
struct_at bytes = do
  read ← value_ahead 32 wire.Struct (record { cursor = bytes; nodes = 262144 })
  Ok (read.0, read.1.cursor)

-- What a function returned, seen by view, and the bytes that are left are what reading gives, unless memory ran out. A refusal leaves all bytes.
abbrev pub ThriftGives : {X A : Type 0} → (X → A) → Result (A × List ℕ) ThriftFault → List ℕ → Result X ReadError → List ℕ → Type 0
ThriftGives view read old (Ok x) new = read ≡ Ok (view x, new)
ThriftGives view read old (Err e) new = IsSaid (says e) read × (new ≡ old)
