-- What is written spells the tree, with the types named.
use Rattle.std.proofs.Common.{◌≡◌, ◌≢◌, ℕ, zero, suc, ◌+◌, ◌-◌, ◌*◌, ◌%◌, ◌^◌, ◌<◌, ℤ, pos, negsuc, ◌+ℤ◌, ◌-ℤ◌, ◌<ℤ◌, ◌≤ℤ◌, Bool, true, false, cond, List, [], ◌∷◌, ◌++◌, length, refl, sym, subst, arith, inl, inr, FitsSigned, unsigned_abs, w8, w16, w32, w64}
use Rattle.std.specs.Int.{cast_unsigned, cast_signed}
use Rattle.std.specs.Int.Signed.{le_z}
use Rattle.std.proofs.lemmas.Int.{ints, to_z_pos, by_lt_z}
use Rattle.std.proofs.Math.Facts.{to_z-neg}
use Rattle.std.proofs.lemmas.Bool.{ne_eqb, lt-ltb, le-ltb, cases_lt}
use Rattle.lake_bytes.specs.Varint.{SpellsNumber, varint_bytes}
use Rattle.lake_bytes.specs.Zigzag.{SpellsSigned, zigzag}
use Rattle.lake_bytes.proofs.Callers.{SpellsNumber-varint_bytes}
use Rattle.thrift_values.specs.Tree.{Tree, boolean, integer, binary, list, map, struct, skipped, Trees, no_trees, tree, Entries, no_entries, entry, Fields, no_fields, field, count_of_trees, count_of_entries}
use Rattle.thrift_core.specs.Wire.{announced, Announces}
use Rattle.thrift_core.specs.Form.{Form, boolean_form, byte_form, int16_form, int32_form, int64_form, binary_form, list_form, map_form, struct_form, Forms, number_of}
use Rattle.thrift_core.specs.Spelling.{SpellsBoolean, one, two, SpellsInteger, ListHeader, small_size, size_behind, MapHeader, empty_map, filled_map, FieldHeader, id_rises, id_behind, FieldValue, is_true, is_false, apart, Spells}
use Rattle.thrift_core.specs.SpellsAs.{SpellsAs, SpellsMembersAs, SpellsEntriesAs, SpellsFieldsAs}
use Rattle.thrift_core.specs.Writing.{boolean_number, integer_bytes, list_header_bytes, map_header_bytes, field_header_bytes, field_number, is_boolean, written, written_members, written_entries, written_fields, IntegerHasForm, HasForm, MembersHaveForm, EntriesHaveForm, FieldsHaveForm, wire_of}
use Rattle.thrift_core.specs.declared.wire.WireType.{WireType}
use Rattle.thrift_core.specs.declared.wire.WireType.TheVariants as wire
use Rattle.thrift_core.proofs.AsSpells.{as_spells}

number_announces : (f : Form) → Announces (number_of f) (wire_of f)
unfolding announced
number_announces boolean_form = record { fits = omega arith; is = refl }
number_announces byte_form = record { fits = omega arith; is = refl }
number_announces int16_form = record { fits = omega arith; is = refl }
number_announces int32_form = record { fits = omega arith; is = refl }
number_announces int64_form = record { fits = omega arith; is = refl }
number_announces binary_form = record { fits = omega arith; is = refl }
number_announces (list_form member) = record { fits = omega arith; is = refl }
number_announces (map_form key value) = record { fits = omega arith; is = refl }
number_announces (struct_form fields) = record { fits = omega arith; is = refl }

-- ---- whole numbers

zigzag_below : (z : ℤ) (n : ℕ) → (negsuc n ≤ℤ z) → (z ≤ℤ pos n) → zigzag z < 2 * n + 2
zigzag_below (pos m) n low high = omega (arith, ints)
zigzag_below (negsuc m) n low high = omega (arith, ints)

signed_spelled : (width : ℕ) (z : ℤ) → zigzag z < 2 ^ width → zigzag z < 2 ^ 64 → SpellsSigned width (varint_bytes (zigzag z)) z
signed_spelled width z fits small = record { number = SpellsNumber-varint_bytes (zigzag z) small; fits = fits }

below_16 : (z : ℤ) → FitsSigned w16 z → zigzag z < 2 ^ 16
below_16 (pos n) h = omega (arith, ints)
below_16 (negsuc n) h = omega (arith, ints)

below_32 : (z : ℤ) → FitsSigned w32 z → zigzag z < 2 ^ 32
below_32 (pos n) h = omega (arith, ints)
below_32 (negsuc n) h = omega (arith, ints)

below_64 : (z : ℤ) → FitsSigned w64 z → zigzag z < 2 ^ 64
below_64 (pos n) h = omega (arith, ints)
below_64 (negsuc n) h = omega (arith, ints)

-- ---- headers

list_header_spelled : (f : Form) (size : ℕ) → size < 2 ^ 31 → ListHeader size (wire_of f) (list_header_bytes (number_of f) size)
unfolding list_header_bytes
list_header_spelled f size small =
    elim (cases_lt size 15) [
      | inl lt ↦ small_size (number_of f) (number_announces f) lt (rw (lt-ltb size 15 lt) refl)
      | inr le ↦ let wide : size < 2 ^ 64 = omega arith in size_behind (number_of f) (varint_bytes size) (number_announces f) (SpellsNumber-varint_bytes size wide) (rw (le-ltb size 15 le) refl)
    ]

zero_spelled : SpellsNumber (0 ∷ []) 0
zero_spelled = record { varint = (omega arith, refl); within_ten = omega arith; in_range = omega arith }

map_header_spelled : (key value : Form) (size : ℕ) → size < 2 ^ 31 → MapHeader size (wire_of key) (wire_of value) (map_header_bytes (number_of key) (number_of value) size)
unfolding map_header_bytes
map_header_spelled key value zero small = empty_map refl zero_spelled
map_header_spelled key value (suc n) small =
    let some : suc n ≢ 0 = omega arith in
    let positive : 0 < suc n = omega arith in
    let wide : suc n < 2 ^ 64 = omega arith in
    filled_map (number_of key) (number_of value) (number_announces key) (number_announces value) positive
    (record { front = varint_bytes (suc n); back = (16 * number_of key + number_of value) ∷ []; first = SpellsNumber-varint_bytes (suc n) wide; second = refl; whole = rw (ne_eqb (suc n) 0 some) refl })

rise_is : (last id : ℤ) → last <ℤ id → id ≡ last +ℤ pos (unsigned_abs (id -ℤ last))
rise_is last id lt = omega (arith, ints)

rise_positive : (last id : ℤ) → last <ℤ id → 0 < unsigned_abs (id -ℤ last)
rise_positive last id lt = omega (arith, ints)

id_below : (id : ℤ) → negsuc 32767 ≤ℤ id → id ≤ℤ pos 32767 → zigzag id < 2 ^ 16
id_below (pos n) least most = omega (arith, ints)
id_below (negsuc n) least most = omega (arith, ints)

not_risen : (last id : ℤ) → id ≤ℤ last → le_z id last ≡ true
not_risen last id falls = grind (arith, ints)

risen : (last id : ℤ) → last <ℤ id → le_z id last ≡ false
risen last id rises = grind (arith, ints)

-- the rise is written where it is small, and else the id
field_header_spelled : (last id : ℤ) (number : ℕ) → negsuc 32767 ≤ℤ id → id ≤ℤ pos 32767 → FieldHeader last number id (field_header_bytes last id number)
unfolding field_header_bytes
field_header_spelled last id number least most =
    let rise = unsigned_abs (id -ℤ last) in
    let spelled = signed_spelled 16 id (id_below id least most) (omega (arith, id_below id least most)) in
    by_lt_z last id
    (λ lt. elim (cases_lt 15 rise) [
      | inl far ↦ id_behind (varint_bytes (zigzag id)) spelled (rw (risen last id lt, lt-ltb 15 rise far) refl)
      | inr near ↦ id_rises rise (rise_positive last id lt) near (rise_is last id lt) most (rw (risen last id lt, le-ltb 15 rise near) refl)
    ]) (λ le. id_behind (varint_bytes (zigzag id)) spelled (rw (not_risen last id le) refl))

-- ---- values

byte_again : (z : ℤ) → FitsSigned w8 z → z ≡ cast_signed w8 (cast_unsigned w64 z % 256)
byte_again (pos n) h =
    let small : n < 128 = omega (arith, ints) in
    let is : cast_unsigned w64 (pos n) % 256 ≡ n = omega (arith, ints) in
    rw is (sym (to_z_pos w8 n small))
byte_again (negsuc k) h =
    let small : k < 128 = omega (arith, ints) in
    let is : cast_unsigned w64 (negsuc k) % 256 ≡ 256 - suc k = omega (arith, ints) in
    rw is (sym (to_z-neg w8 k small))

integer_spelled : (f : Form) (z : ℤ) → IntegerHasForm f z → SpellsInteger (wire_of f) (integer_bytes f z) z
integer_spelled byte_form z h = record { byte = cast_unsigned w64 z % 256; fits = omega arith; alone = refl; value = byte_again z h }
integer_spelled int16_form z h = let small = below_16 z h in signed_spelled 16 z small (omega arith)
integer_spelled int32_form z h = let small = below_32 z h in signed_spelled 32 z small (omega arith)
integer_spelled int64_form z h = signed_spelled 64 z (below_64 z h) (below_64 z h)
integer_spelled boolean_form z h = absurd h
integer_spelled binary_form z h = absurd h
integer_spelled (list_form m) z h = absurd h
integer_spelled (map_form k v) z h = absurd h
integer_spelled (struct_form fs) z h = absurd h

integer_number : (f : Form) (z : ℤ) → IntegerHasForm f z → 2 < number_of f
integer_number byte_form z h = omega arith
integer_number int16_form z h = omega arith
integer_number int32_form z h = omega arith
integer_number int64_form z h = omega arith
integer_number boolean_form z h = absurd h
integer_number binary_form z h = absurd h
integer_number (list_form m) z h = absurd h
integer_number (map_form k v) z h = absurd h
integer_number (struct_form fs) z h = absurd h

boolean_spelled : (b : Bool) → SpellsBoolean (boolean_number b ∷ []) b
boolean_spelled true = one refl refl
boolean_spelled false = two refl refl

-- a field's number, which for a boolean is its value
field_number_announces : (f : Form) (v : Tree) → HasForm f v → Announces (field_number f v) (wire_of f)
unfolding announced
field_number_announces f (boolean true) h = rw h (record { fits = omega arith; is = refl })
field_number_announces f (boolean false) h = rw h (record { fits = omega arith; is = refl })
field_number_announces f (integer z) h = number_announces f
field_number_announces f (binary text) h = number_announces f
field_number_announces f (list ts) h = number_announces f
field_number_announces f (map es) h = number_announces f
field_number_announces f (struct fs) h = number_announces f
field_number_announces f skipped h = absurd h

-- a field's value, where the value by itself is spelled
in_field : (f : Form) (v : Tree) → HasForm f v → SpellsAs f (written f v) v → FieldValue (λ type inside. SpellsAs f inside v) (field_number f v) v (cond (is_boolean v) [] (written f v))
in_field f (boolean true) h spelled = is_true refl refl refl
in_field f (boolean false) h spelled = is_false refl refl refl
in_field f (integer z) h spelled = apart (wire_of f) (integer_number f z h) (number_announces f) spelled
in_field f (binary text) h spelled = apart (wire_of f) (rw h.0 (omega arith)) (number_announces f) spelled
in_field f (list ts) h spelled = apart (wire_of f) (rw h.1 (omega arith)) (number_announces f) spelled
in_field f (map es) h spelled = apart (wire_of f) (rw h.2 (omega arith)) (number_announces f) spelled
in_field f (struct fs) h spelled = apart (wire_of f) (rw h.1 (omega arith)) (number_announces f) spelled
in_field f skipped h spelled = absurd h

-- an id above another is of 16 bits, and no id of 16 bits is below it
above : (last id : ℤ) → negsuc 32768 ≤ℤ last → last <ℤ id → negsuc 32767 ≤ℤ id
above last id start lt = omega (arith, ints)

above_still : (id : ℤ) → negsuc 32767 ≤ℤ id → negsuc 32768 ≤ℤ id
above_still id least = omega (arith, ints)

mutual
  pub written_spells : (f : Form) (t : Tree) → HasForm f t → SpellsAs f (written f t) t
  written_spells f (boolean b) h = subst (λ (g : Form). SpellsAs g (written g (boolean b)) (boolean b)) (sym h) (refl, boolean_spelled b)
  written_spells f (integer z) h = integer_spelled f z h
  written_spells f (binary text) h =
      let wide : length text < 2 ^ 64 = omega (arith, h.1) in
      subst (λ (g : Form). SpellsAs g (written g (binary text)) (binary text)) (sym h.0)
      (refl, record { front = varint_bytes (length text); back = text; first = SpellsNumber-varint_bytes (length text) wide; second = refl; whole = refl })
  written_spells f (list ts) h =
      subst (λ (g : Form). SpellsAs g (written g (list ts)) (list ts)) (sym h.1)
      (h.0, refl, record { front = list_header_bytes (number_of h.0) (count_of_trees ts); back = written_members h.0 ts; first = list_header_spelled h.0 (count_of_trees ts) h.2; second = members_spell h.0 ts h.3; whole = refl })
  written_spells f (map es) h =
      subst (λ (g : Form). SpellsAs g (written g (map es)) (map es)) (sym h.2)
      (h.0, h.1, refl, record { front = map_header_bytes (number_of h.0) (number_of h.1) (count_of_entries es); back = written_entries h.0 h.1 es; first = map_header_spelled h.0 h.1 (count_of_entries es) h.3; second = entries_spell h.0 h.1 es h.4; whole = refl })
  written_spells f (struct fs) h =
      subst (λ (g : Form). SpellsAs g (written g (struct fs)) (struct fs)) (sym h.1)
      (h.0, refl, fields_spell h.0 (pos 0) (negsuc 32768) fs (omega (arith, ints)) h.2)
  written_spells f skipped h = absurd h

  members_spell : (f : Form) (ts : Trees) → MembersHaveForm f ts → SpellsMembersAs f (written_members f ts) ts
  members_spell f no_trees h = refl
  members_spell f (tree t ts) h = record { front = written f t; back = written_members f ts; first = written_spells f t h.0; second = members_spell f ts h.1; whole = refl }

  entries_spell : (k v : Form) (es : Entries) → EntriesHaveForm k v es → SpellsEntriesAs k v (written_entries k v es) es
  entries_spell k v no_entries h = refl
  entries_spell k v (entry key value es) h = record {
    front = written k key ++ written v value;
    back = written_entries k v es;
    first = record { front = written k key; back = written v value; first = written_spells k key h.0; second = written_spells v value h.1; whole = refl };
    second = entries_spell k v es h.2;
    whole = refl;
  }

  -- fields behind one of the id `last`, whose ids are above `under`
  fields_spell : (forms : Forms) (last under : ℤ) (fs : Fields) → negsuc 32768 ≤ℤ under → FieldsHaveForm forms under fs → SpellsFieldsAs forms last (written_fields forms last fs) fs
  fields_spell forms last under no_fields start h = refl
  fields_spell forms last under (field id v fs) start h =
      let f = h.2 in
      let least = above under id start h.0 in
      let header = field_header_bytes last id (field_number f v) in
      let value = cond (is_boolean v) [] (written f v) in (
        field_number f v,
        f,
        h.3,
        field_number_announces f v h.4,
        record {
          front = header ++ value;
          back = written_fields forms id fs;
          first = record { front = header; back = value; first = field_header_spelled last id (field_number f v) least h.1; second = in_field f v h.4 (written_spells f v h.4); whole = refl };
          second = fields_spell forms id id fs (above_still id least) h.5;
          whole = rw h.3 refl;
        },
      )

-- of a struct, as a value of that type
pub struct_written : (f : Form) (t : Tree) (bytes : List ℕ) → HasForm f t → wire_of f ≡ wire.Struct → bytes ≡ written f t → Spells wire.Struct bytes t
struct_written f t bytes h is same =
    let one : Spells wire.Struct (written f t) t = subst (λ (type : WireType). Spells type (written f t) t) is (as_spells f t (written f t) (written_spells f t h)) in
    subst (λ (b : List ℕ). Spells wire.Struct b t) (sym same) one
