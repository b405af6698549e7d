-- No spelling of a tree with the types named has fewer bytes than what is written.
use Rattle.std.proofs.Common.{◌≡◌, ◌≢◌, ℕ, suc, ◌+◌, ◌*◌, ◌<◌, ◌≤◌, ℤ, pos, ◌+ℤ◌, ◌-ℤ◌, Bool, true, false, cond, List, [], ◌∷◌, ◌++◌, length, sym, subst, arith, inl, inr, unsigned_abs, length-append, ltb, ◌||◌}
use Rattle.std.specs.Int.Signed.{le_z}
use Rattle.std.proofs.lemmas.Int.{ints}
use Rattle.std.proofs.lemmas.Bool.{ne_eqb, lt-ltb, le-ltb, cases_lt}
use Rattle.lake_bytes.specs.Varint.{SpellsNumber, varint_bytes}
use Rattle.lake_bytes.specs.Zigzag.{zigzag}
use Rattle.lake_bytes.proofs.Callers.{varint_bytes-shortest}
use Rattle.thrift_values.specs.Tree.{Tree, boolean, integer, binary, list, map, struct, skipped, Trees, no_trees, tree, Entries, no_entries, entry, Fields, no_fields, field, count_of_trees, count_of_entries}
use Rattle.thrift_core.specs.Form.{Form, boolean_form, byte_form, int16_form, int32_form, int64_form, binary_form, list_form, map_form, struct_form, Forms, number_of}
use Rattle.thrift_core.specs.Spelling.{SpellsBoolean, one, two, none, SpellsInteger, ListHeader, small_size, size_behind, MapHeader, empty_map, filled_map, FieldHeader, id_rises, id_behind, FieldValue, is_true, is_false, apart}
use Rattle.thrift_core.specs.SpellsAs.{SpellsAs, SpellsMembersAs, SpellsEntriesAs, SpellsFieldsAs}
use Rattle.thrift_core.specs.Writing.{integer_bytes, list_header_bytes, map_header_bytes, field_header_bytes, field_number, is_boolean, written, written_members, written_entries, written_fields, wire_of}
use Rattle.thrift_core.specs.declared.wire.WireType.{WireType}

-- two parts, each no longer than its part of the whole
both_shorter : (a b front back whole : List ℕ) → whole ≡ front ++ back → length a ≤ length front → length b ≤ length back → length (a ++ b) ≤ length whole
both_shorter a b front back whole split first second = rw split (simp length-append (omega arith))

number_shortest : (n : ℕ) (other : List ℕ) → SpellsNumber other n → length (varint_bytes n) ≤ length other
number_shortest n other s = varint_bytes-shortest n other s.in_range s.varint

number_some : (n : ℕ) (other : List ℕ) → SpellsNumber other n → 0 < length other
number_some n [] s = absurd s.varint
number_some n (b ∷ other) s = omega arith

-- a choice of bytes, where neither is too long
one_of : (b : Bool) (x y : List ℕ) (n : ℕ) → length x ≤ n → length y ≤ n → length (cond b x y) ≤ n
one_of true x y n first second = first
one_of false x y n first second = second

-- ---- headers

list_header_shortest : (number size : ℕ) (member : WireType) (other : List ℕ) → ListHeader size member other → length (list_header_bytes number size) ≤ length other
unfolding list_header_bytes
list_header_shortest number size member other (small_size m announced lt is) = rw (lt-ltb size 15 lt, is) (omega arith)
list_header_shortest number size member other (size_behind m behind announced spelled is) =
    let behind_shortest = number_shortest size behind spelled in
    elim (cases_lt size 15) [
      | inl lt ↦ rw (lt-ltb size 15 lt, is) (omega arith)
      | inr le ↦ rw (le-ltb size 15 le, is) (omega arith)
    ]

map_header_shortest : (of_keys of_values size : ℕ) (key value : WireType) (other : List ℕ) → MapHeader size key value other → length (map_header_bytes of_keys of_values size) ≤ length other
unfolding map_header_bytes
map_header_shortest of_keys of_values size key value other (empty_map nothing spelled) = rw nothing (omega (arith, number_some 0 other spelled))
map_header_shortest of_keys of_values size key value other (filled_map k v ks vs some turn) =
    let filled : size ≢ 0 = omega arith in
    let types : length ((16 * of_keys + of_values) ∷ []) ≤ length turn.back = rw turn.second (omega arith) in
    rw (ne_eqb size 0 filled)
    (both_shorter (varint_bytes size) ((16 * of_keys + of_values) ∷ []) turn.front turn.back other turn.whole (number_shortest size turn.front turn.first) types)

rise_near : (last id : ℤ) (rise : ℕ) → 0 < rise → rise ≤ 15 → id ≡ last +ℤ pos rise → unsigned_abs (id -ℤ last) ≡ rise
rise_near last id rise some near is = omega (arith, ints)

rise_above : (last id : ℤ) (rise : ℕ) → 0 < rise → id ≡ last +ℤ pos rise → le_z id last ≡ false
rise_above last id rise some is = grind (arith, ints)

-- Where another header is short, its rise is one for which a short header is written.
field_header_shortest : (last id : ℤ) (number number' : ℕ) (other : List ℕ) → FieldHeader last number' id other → length (field_header_bytes last id number) ≤ length other
unfolding field_header_bytes
field_header_shortest last id number number' other (id_rises rise some near is most bytes) =
    rw (rise_above last id rise some is, rise_near last id rise some near is, le-ltb 15 rise near, bytes) (omega arith)
field_header_shortest last id number number' other (id_behind behind spelled bytes) =
    rw bytes
    (one_of (le_z id last || ltb 15 rise) (number ∷ varint_bytes (zigzag id)) ((16 * rise + number) ∷ []) (suc (length behind))
    (omega (arith, number_shortest (zigzag id) behind spelled.number)) (omega arith))
  where
    rise : ℕ
    rise = unsigned_abs (id -ℤ last)

-- ---- values

boolean_shortest : (b : Bool) (other : List ℕ) → SpellsBoolean other b → 1 ≤ length other
boolean_shortest b other (one is value) = rw is (omega arith)
boolean_shortest b other (two is value) = rw is (omega arith)
boolean_shortest b other (none is value) = rw is (omega arith)

integer_shortest : (f : Form) (z : ℤ) (other : List ℕ) → SpellsInteger (wire_of f) other z → length (integer_bytes f z) ≤ length other
integer_shortest byte_form z other s = rw s.alone (omega arith)
integer_shortest int16_form z other s = number_shortest (zigzag z) other s.number
integer_shortest int32_form z other s = number_shortest (zigzag z) other s.number
integer_shortest int64_form z other s = number_shortest (zigzag z) other s.number
integer_shortest boolean_form z other s = absurd s
integer_shortest binary_form z other s = absurd s
integer_shortest (list_form m) z other s = absurd s
integer_shortest (map_form k v) z other s = absurd s
integer_shortest (struct_form fs) z other s = absurd s

field_value_shortest : (f : Form) (number : ℕ) (v : Tree) (other : List ℕ) → (SpellsAs f other v → length (written f v) ≤ length other)
    → FieldValue (λ type inside. SpellsAs f inside v) number v other → length (cond (is_boolean v) [] (written f v)) ≤ length other
field_value_shortest f number v other shorter (is_true number_is value_is bytes_are) = rw value_is (omega arith)
field_value_shortest f number v other shorter (is_false number_is value_is bytes_are) = rw value_is (omega arith)
field_value_shortest f number v other shorter (apart type some announced spelled) = one_of (is_boolean v) [] (written f v) (length other) (omega arith) (shorter spelled)

mutual
  pub shortest : (f : Form) (t : Tree) (other : List ℕ) → SpellsAs f other t → length (written f t) ≤ length other
  shortest f (boolean b) other s = boolean_shortest b other s.1
  shortest f (integer z) other s = integer_shortest f z other s
  shortest f (binary text) other s =
      let turn = s.1 in
      let same : length text ≤ length turn.back = rw turn.second (omega arith) in
      both_shorter (varint_bytes (length text)) text turn.front turn.back other turn.whole (number_shortest (length text) turn.front turn.first) same
  shortest f skipped other s = absurd s
  shortest f (list ts) other s =
      let m = s.0 in
      let turn = s.2 in
      subst (λ (g : Form). length (written g (list ts)) ≤ length other) (sym s.1)
      (both_shorter (list_header_bytes (number_of m) (count_of_trees ts)) (written_members m ts) turn.front turn.back other turn.whole
      (list_header_shortest (number_of m) (count_of_trees ts) (wire_of m) turn.front turn.first) (members_shortest m ts turn.back turn.second))
  shortest f (map es) other s =
      let k = s.0 in
      let v = s.1 in
      let turn = s.3 in
      subst (λ (g : Form). length (written g (map es)) ≤ length other) (sym s.2)
      (both_shorter (map_header_bytes (number_of k) (number_of v) (count_of_entries es)) (written_entries k v es) turn.front turn.back other turn.whole
      (map_header_shortest (number_of k) (number_of v) (count_of_entries es) (wire_of k) (wire_of v) turn.front turn.first) (entries_shortest k v es turn.back turn.second))
  shortest f (struct fs) other s =
      subst (λ (g : Form). length (written g (struct fs)) ≤ length other) (sym s.1) (fields_shortest s.0 (pos 0) fs other s.2)

  members_shortest : (f : Form) (ts : Trees) (other : List ℕ) → SpellsMembersAs f other ts → length (written_members f ts) ≤ length other
  members_shortest f no_trees other s = rw s (omega arith)
  members_shortest f (tree t ts) other s =
      both_shorter (written f t) (written_members f ts) s.front s.back other s.whole (shortest f t s.front s.first) (members_shortest f ts s.back s.second)

  entries_shortest : (k v : Form) (es : Entries) (other : List ℕ) → SpellsEntriesAs k v other es → length (written_entries k v es) ≤ length other
  entries_shortest k v no_entries other s = rw s (omega arith)
  entries_shortest k v (entry key value es) other s =
      let pair = s.first in
      let in_pair =
      both_shorter (written k key) (written v value) pair.front pair.back s.front pair.whole (shortest k key pair.front pair.first) (shortest v value pair.back pair.second) in
      both_shorter (written k key ++ written v value) (written_entries k v es) s.front s.back other s.whole in_pair (entries_shortest k v es s.back s.second)

  fields_shortest : (forms : Forms) (last : ℤ) (fs : Fields) (other : List ℕ) → SpellsFieldsAs forms last other fs → length (written_fields forms last fs) ≤ length other
  fields_shortest forms last no_fields other s = rw s (omega arith)
  fields_shortest forms last (field id v fs) other s =
      let f = s.1 in
      let turn = s.4 in
      let first = turn.first in
      let header = field_header_bytes last id (field_number f v) in
      let value = cond (is_boolean v) [] (written f v) in
      let in_value = field_value_shortest f s.0 v first.back (λ spelled. shortest f v first.back spelled) first.second in
      let in_header = field_header_shortest last id (field_number f v) s.0 first.front first.first in
      let in_field = both_shorter header value first.front first.back turn.front first.whole in_header in_value in
      rw s.2 (both_shorter (header ++ value) (written_fields forms id fs) turn.front turn.back other turn.whole in_field (fields_shortest forms id fs turn.back turn.second))
