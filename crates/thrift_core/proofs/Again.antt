-- What spells a tree is read again, whatever follows it.
use Rattle.std.proofs.Common.{◌≡◌, ◌≢◌, ℕ, zero, suc, ◌+◌, ◌-◌, ◌<◌, ◌≤◌, ℤ, pos, Bool, true, false, cond, eqb, List, [], ◌∷◌, ◌++◌, length, Result, Ok, refl, sym, ap, subst, ◌∙◌, append_assoc, arith, zero-add, length-append}
use Rattle.std.proofs.lemmas.Bool.{ne_eqb}
use Rattle.outcomes.specs.Results.{◌>>=◌}
use Rattle.thrift_values.specs.Tree.{Tree, boolean, integer, binary, list, map, struct, skipped, Trees, no_trees, tree, Entries, no_entries, entry, Fields, no_fields, field, trees_of, entries_of, fields_of, count_of_trees, count_of_entries, depth, depth_of_trees, depth_of_entries, depth_of_fields, nodes, nodes_of_trees, nodes_of_entries, nodes_of_fields}
use Rattle.thrift_core.specs.Wire.{announced}
use Rattle.thrift_core.specs.Spelling.{InTurn, one, two, none, ListHeader, small_size, size_behind, MapHeader, empty_map, filled_map, FieldHeader, id_rises, id_behind, FieldValue, is_true, is_false, apart, SpellsInteger, Spells, SpellsMembers, SpellsEntries, SpellsFields, SpellsStruct}
use Rattle.thrift_core.specs.Reading.{counted, repeated, entry_ahead, flag_ahead, field_ahead, fields_ahead, list_ahead, map_ahead, struct_ahead, content_ahead, value_ahead, struct_at}
use Rattle.thrift_values.specs.declared.fault.ThriftFault.{ThriftFault}
use Rattle.thrift_core.specs.declared.source.Source.{Source}
use Rattle.thrift_core.specs.declared.wire.WireType.{WireType}
use Rattle.thrift_core.specs.declared.wire.WireType.TheVariants as wire
use Rattle.thrift_core.proofs.AgainHeaders.{at, number_length, boolean_again, byte_number_again, integer_again, double_again, binary_again, list_header_again, empty_map_again, filled_map_again, field_header_again}

abbrev Reader : Type 0
Reader = WireType → Source → Result (Tree × Source) ThriftFault

-- what spells a value is read as it, where the value nests at most so deep
abbrev pub ReadsAgain : ℕ → (WireType → Source → Result (Tree × Source) ThriftFault) → Type 0
ReadsAgain most read = (type : WireType) (front : List ℕ) (t : Tree) (rest : List ℕ) (m : ℕ) → Spells type front t → depth t ≤ most → read type (at (nodes t + m) (front ++ rest)) ≡ Ok (t, at m rest)

-- ---- the lists of members, entries and fields

abbrev pub list_of_trees : Trees → List Tree
list_of_trees no_trees = []
list_of_trees (tree t ts) = t ∷ list_of_trees ts

abbrev pub list_of_entries : Entries → List (Tree × Tree)
list_of_entries no_entries = []
list_of_entries (entry k v es) = (k, v) ∷ list_of_entries es

abbrev pub list_of_fields : Fields → List (ℤ × Tree)
list_of_fields no_fields = []
list_of_fields (field id v fs) = (id, v) ∷ list_of_fields fs

trees_of-list : (ts : Trees) → trees_of (list_of_trees ts) ≡ ts
trees_of-list no_trees = refl
trees_of-list (tree t ts) = ap (tree t) (trees_of-list ts)

entries_of-list : (es : Entries) → entries_of (list_of_entries es) ≡ es
entries_of-list no_entries = refl
entries_of-list (entry k v es) = ap (entry k v) (entries_of-list es)

fields_of-list : (fs : Fields) → fields_of (list_of_fields fs) ≡ fs
fields_of-list no_fields = refl
fields_of-list (field id v fs) = ap (field id v) (fields_of-list fs)

-- ---- every value takes a byte

in_turn_length : (First Second : List ℕ → Type 0) (bytes : List ℕ) → InTurn First Second bytes → ((front : List ℕ) → First front → 1 ≤ length front) → 1 ≤ length bytes
in_turn_length First Second bytes p h = rw p.whole (omega (arith, length-append p.front p.back, h p.front p.first))

integer_length : (type : WireType) (front : List ℕ) (z : ℤ) → SpellsInteger type front z → 1 ≤ length front
integer_length wire.Byte front z p = rw p.alone (omega arith)
integer_length wire.Int16 front z p = number_length front _ p.number
integer_length wire.Int32 front z p = number_length front _ p.number
integer_length wire.Int64 front z p = number_length front _ p.number
integer_length wire.Boolean front z p = absurd p
integer_length wire.Double front z p = absurd p
integer_length wire.Binary front z p = absurd p
integer_length wire.List front z p = absurd p
integer_length wire.Map front z p = absurd p
integer_length wire.Struct front z p = absurd p

list_header_length : (size : ℕ) (member : WireType) (front : List ℕ) → ListHeader size member front → 1 ≤ length front
list_header_length size member front (small_size number names small is) = rw is (omega arith)
list_header_length size member front (size_behind number behind names spelled is) = rw is (omega arith)

map_header_length : (size : ℕ) (key value : WireType) (front : List ℕ) → MapHeader size key value front → 1 ≤ length front
map_header_length size key value front (empty_map size_is p) = number_length front 0 p
map_header_length size key value front (filled_map of_keys of_values keys values some p) = in_turn_length _ _ front p (λ f q. number_length f size q)

field_header_length : (last : ℤ) (number : ℕ) (id : ℤ) (front : List ℕ) → FieldHeader last number id front → 1 ≤ length front
field_header_length last number id front (id_rises rise some most rises fits is) = rw is (omega arith)
field_header_length last number id front (id_behind behind spelled is) = rw is (omega arith)

fields_length : (last : ℤ) (front : List ℕ) (fs : Fields) → SpellsFields last front fs → 1 ≤ length front
fields_length last front no_fields p = rw p (omega arith)
fields_length last front (field id v fs) p = in_turn_length _ _ front p.1 (λ f q. in_turn_length _ _ f q (λ g h. field_header_length last p.0 id g h))

value_length : (type : WireType) (front : List ℕ) (t : Tree) → Spells type front t → 1 ≤ length front
value_length type front (boolean b) (is, one e v) = rw e (omega arith)
value_length type front (boolean b) (is, two e v) = rw e (omega arith)
value_length type front (boolean b) (is, none e v) = rw e (omega arith)
value_length type front (integer z) p = integer_length type front z p
value_length type front (binary text) p = in_turn_length _ _ front p.1 (λ f q. number_length f (length text) q)
value_length type front skipped p = omega (arith, p.1)
value_length type front (list ts) p = in_turn_length _ _ front p.2 (λ f q. list_header_length _ _ f q)
value_length type front (map es) p = in_turn_length _ _ front p.3 (λ f q. map_header_length _ _ _ f q)
value_length type front (struct fs) p = fields_length (pos 0) front fs p.1

members_length : (type : WireType) (front : List ℕ) (ts : Trees) → SpellsMembers type front ts → count_of_trees ts ≤ length front
members_length type front no_trees p = omega arith
members_length type front (tree t ts) p = rw p.whole (omega (arith, length-append p.front p.back, value_length type p.front t p.first, members_length type p.back ts p.second))

entries_length : (key value : WireType) (front : List ℕ) (es : Entries) → SpellsEntries key value front es → count_of_entries es ≤ length front
entries_length key value front no_entries p = omega arith
entries_length key value front (entry k v es) p =
    let one = in_turn_length _ _ p.front p.first (λ f q. value_length key f k q) in
    rw p.whole (omega (arith, length-append p.front p.back, one, entries_length key value p.back es p.second))

-- ---- members and entries

members_again : (most : ℕ) (read : Reader) → ReadsAgain most read → (type : WireType) (front : List ℕ) (ts : Trees) (rest : List ℕ) (m : ℕ) → SpellsMembers type front ts → depth_of_trees ts ≤ most
    → repeated (read type) (count_of_trees ts) (at (nodes_of_trees ts + m) (front ++ rest)) ≡ Ok (list_of_trees ts, at m rest)
unfolding repeated
members_again most read again type front no_trees rest m p nests = rw (p, zero-add m) refl
members_again most read again type front (tree t ts) rest m p nests =
    let bytes : front ++ rest ≡ p.front ++ (p.back ++ rest) = rw p.whole (append_assoc p.front p.back rest) in
    let count : (nodes t + nodes_of_trees ts) + m ≡ nodes t + (nodes_of_trees ts + m) = omega arith in
    rw (bytes, count, again type p.front t (p.back ++ rest) (nodes_of_trees ts + m) p.first (omega arith), members_again most read again type p.back ts rest m p.second (omega arith)) refl

entry_again : (most : ℕ) (read : Reader) → ReadsAgain most read → (key value : WireType) (front : List ℕ) (k v : Tree) (rest : List ℕ) (m : ℕ) → InTurn (λ front. Spells key front k) (λ back. Spells value back v) front → depth k ≤ most → depth v ≤ most
    → entry_ahead read key value (at (nodes k + nodes v + m) (front ++ rest)) ≡ Ok ((k, v), at m rest)
unfolding entry_ahead
entry_again most read again key value front k v rest m p key_nests value_nests =
    let bytes : front ++ rest ≡ p.front ++ (p.back ++ rest) = rw p.whole (append_assoc p.front p.back rest) in
    let count : nodes k + nodes v + m ≡ nodes k + (nodes v + m) = omega arith in
    rw (bytes, count, again key p.front k (p.back ++ rest) (nodes v + m) p.first key_nests, again value p.back v rest m p.second value_nests) refl

entries_again : (most : ℕ) (read : Reader) → ReadsAgain most read → (key value : WireType) (front : List ℕ) (es : Entries) (rest : List ℕ) (m : ℕ) → SpellsEntries key value front es → depth_of_entries es ≤ most
    → repeated (entry_ahead read key value) (count_of_entries es) (at (nodes_of_entries es + m) (front ++ rest)) ≡ Ok (list_of_entries es, at m rest)
unfolding repeated
entries_again most read again key value front no_entries rest m p nests = rw (p, zero-add m) refl
entries_again most read again key value front (entry k v es) rest m p nests =
    let bytes : front ++ rest ≡ p.front ++ (p.back ++ rest) = rw p.whole (append_assoc p.front p.back rest) in
    let count : (nodes k + nodes v + nodes_of_entries es) + m ≡ nodes k + nodes v + (nodes_of_entries es + m) = omega arith in
    rw (bytes, count, entry_again most read again key value p.front k v (p.back ++ rest) (nodes_of_entries es + m) p.first (omega arith) (omega arith), entries_again most read again key value p.back es rest m p.second (omega arith)) refl

-- ---- fields

flag_again : (value : Bool) (rest : List ℕ) (m : ℕ) → flag_ahead value (at (1 + m) rest) ≡ Ok (boolean value, at m rest)
unfolding flag_ahead counted
flag_again value rest m =
    let some : 1 + m ≢ 0 = omega arith in
    let less : 1 + m - 1 ≡ m = omega arith in
    rw (ne_eqb (1 + m) 0 some, less) refl

-- what is known of the number of a field's type
record Named (number : ℕ) : Type 0 where
  type : WireType
  is : announced number ≡ Ok type
  some : 0 < number
  small : number < 16

named : (Spelled : WireType → List ℕ → Type 0) (number : ℕ) (v : Tree) (front : List ℕ) → FieldValue Spelled number v front → Named number
unfolding announced
named Spelled number v front (is_true one_is value nothing) = record { type = wire.Boolean; is = rw one_is refl; some = omega arith; small = omega arith }
named Spelled number v front (is_false two_is value nothing) = record { type = wire.Boolean; is = rw two_is refl; some = omega arith; small = omega arith }
named Spelled number v front (apart type above names spelled) = record { type = type; is = names.is; some = omega arith; small = names.fits }

abbrev type_ok : WireType → Result WireType ThriftFault
type_ok x = Ok x

value_part_again : (most : ℕ) (read : Reader) → ReadsAgain most read → (number : ℕ) (v : Tree) (front rest : List ℕ) (m : ℕ) (type : WireType) → announced number ≡ Ok type → FieldValue (λ type inside. Spells type inside v) number v front → depth v ≤ most
    → cond (eqb number 1) (flag_ahead true (at (nodes v + m) (front ++ rest))) (cond (eqb number 2) (flag_ahead false (at (nodes v + m) (front ++ rest))) (read type (at (nodes v + m) (front ++ rest)))) ≡ Ok (v, at m rest)
value_part_again most read again number v front rest m type is (is_true one_is value nothing) nests = rw (one_is, value, nothing) (flag_again true rest m)
value_part_again most read again number v front rest m type is (is_false two_is value nothing) nests = rw (two_is, value, nothing) (flag_again false rest m)
value_part_again most read again number v front rest m type is (apart other above names spelled) nests =
    let not_one : number ≢ 1 = omega arith in
    let not_two : number ≢ 2 = omega arith in
    let same : type ≡ other = ok_type type other (sym is ∙ names.is) in
    rw (ne_eqb number 1 not_one, ne_eqb number 2 not_two, same) (again other front v rest m spelled nests)
  where
    ok_type : (x y : WireType) → type_ok x ≡ type_ok y → x ≡ y
    ok_type x y e = cc

field_bytes : (front first back header value behind rest : List ℕ) (byte : ℕ) → front ≡ first ++ back → first ≡ header ++ value → header ≡ byte ∷ behind → front ++ rest ≡ byte ∷ (behind ++ (value ++ (back ++ rest)))
field_bytes front first back header value behind rest byte outer inner is = rw (outer, inner, is) (ap (λ (t : List ℕ). byte ∷ t) (append_assoc (behind ++ value) back rest ∙ append_assoc behind value (back ++ rest)))

field_bytes_length : (front first back header value behind : List ℕ) (byte fuel : ℕ) → front ≡ first ++ back → first ≡ header ++ value → header ≡ byte ∷ behind → length front ≤ suc fuel → length back ≤ fuel
field_bytes_length front first back header value behind byte fuel outer inner is enough =
    omega (arith, ap length outer, length-append first back, ap length inner, length-append header value, ap length is)

fields_again : (most : ℕ) (read : Reader) → ReadsAgain most read → (last : ℤ) (front : List ℕ) (fs : Fields) (fuel : ℕ) (rest : List ℕ) (m : ℕ) → SpellsFields last front fs → length front ≤ fuel → depth_of_fields fs ≤ most
    → fields_ahead read last fuel (at (nodes_of_fields fs + m) (front ++ rest)) ≡ Ok (list_of_fields fs, at m rest)
unfolding fields_ahead field_ahead
fields_again most read again last front fs zero rest m p fuel nests = absurd (omega (arith, fields_length last front fs p))
fields_again most read again last front no_fields (suc fuel) rest m p enough nests = rw (p, zero-add m) refl
fields_again most read again last front (field id v fs) (suc fuel) rest m p enough nests =
    let number = p.0 in
    let outer = p.1 in
    let inner = outer.first in
    let name = named (λ type inside. Spells type inside v) number v inner.back inner.second in
    let h = field_header_again last number id inner.front name.some name.small inner.first in
    let after = outer.back ++ rest in
    let bytes = field_bytes front outer.front outer.back inner.front inner.back h.behind rest h.byte outer.whole inner.whole h.is in
    let count : (nodes v + nodes_of_fields fs) + m ≡ nodes v + (nodes_of_fields fs + m) = omega arith in
    let shorter = field_bytes_length front outer.front outer.back inner.front inner.back h.behind h.byte fuel outer.whole inner.whole h.is enough in
    rw (
      bytes,
      count,
      ne_eqb h.byte 0 h.some,
      h.low,
      name.is,
      h.reads (inner.back ++ after) (nodes v + (nodes_of_fields fs + m)),
      value_part_again most read again number v inner.back after (nodes_of_fields fs + m) name.type name.is inner.second (omega arith),
      fields_again most read again id outer.back fs fuel rest m outer.second shorter (omega arith),
    ) refl

-- ---- containers

list_again : (most : ℕ) (read : Reader) → ReadsAgain most read → (ts : Trees) (front rest : List ℕ) (m : ℕ) → Spells wire.List front (list ts) → depth_of_trees ts ≤ most
    → list_ahead read (at (nodes_of_trees ts + m) (front ++ rest)) ≡ Ok (list ts, at m rest)
unfolding list_ahead
list_again most read again ts front rest m p nests =
    let member = p.1 in
    let parts = p.2 in
    let bytes : front ++ rest ≡ parts.front ++ (parts.back ++ rest) = rw parts.whole (append_assoc parts.front parts.back rest) in
    let long : count_of_trees ts ≤ length (parts.back ++ rest) = omega (arith, length-append parts.back rest, members_length member parts.back ts parts.second) in
    rw (bytes, list_header_again (count_of_trees ts) member parts.front (parts.back ++ rest) (nodes_of_trees ts + m) parts.first long, members_again most read again member parts.back ts rest m parts.second nests, trees_of-list ts) refl

map_parts : (most : ℕ) (read : Reader) → ReadsAgain most read → (es : Entries) (key value : WireType) (header body rest : List ℕ) (m : ℕ) → MapHeader (count_of_entries es) key value header → SpellsEntries key value body es → depth_of_entries es ≤ most
    → map_ahead read (at (nodes_of_entries es + m) (header ++ (body ++ rest))) ≡ Ok (map es, at m rest)
unfolding map_ahead repeated
map_parts most read again no_entries key value header body rest m (empty_map is p) entries nests = rw (entries, empty_map_again header rest (0 + m) p, zero-add m) refl
map_parts most read again (entry k v es) key value header body rest m (empty_map is p) entries nests = absurd (omega arith)
map_parts most read again es key value header body rest m (filled_map of_keys of_values keys values some p) entries nests =
    let long : count_of_entries es ≤ length (body ++ rest) = omega (arith, length-append body rest, entries_length key value body es entries) in
    rw (filled_map_again (count_of_entries es) of_keys of_values key value header (body ++ rest) (nodes_of_entries es + m) keys values some p long, entries_again most read again key value body es rest m entries nests, entries_of-list es) refl

map_again : (most : ℕ) (read : Reader) → ReadsAgain most read → (es : Entries) (front rest : List ℕ) (m : ℕ) → Spells wire.Map front (map es) → depth_of_entries es ≤ most
    → map_ahead read (at (nodes_of_entries es + m) (front ++ rest)) ≡ Ok (map es, at m rest)
map_again most read again es front rest m p nests =
    let parts = p.3 in
    let bytes : front ++ rest ≡ parts.front ++ (parts.back ++ rest) = rw parts.whole (append_assoc parts.front parts.back rest) in
    rw bytes (map_parts most read again es p.1 p.2 parts.front parts.back rest m parts.first parts.second nests)

struct_again : (most : ℕ) (read : Reader) → ReadsAgain most read → (fs : Fields) (front rest : List ℕ) (m : ℕ) → Spells wire.Struct front (struct fs) → depth_of_fields fs ≤ most
    → struct_ahead read (at (nodes_of_fields fs + m) (front ++ rest)) ≡ Ok (struct fs, at m rest)
unfolding struct_ahead
struct_again most read again fs front rest m p nests =
    let enough : length front ≤ length (front ++ rest) = omega (arith, length-append front rest) in
    rw (fields_again most read again (pos 0) front fs (length (front ++ rest)) rest m p.1 enough nests, fields_of-list fs) refl

-- ---- values

integer_value_again : (most : ℕ) (type : WireType) (front : List ℕ) (z : ℤ) (rest : List ℕ) (m : ℕ) → SpellsInteger type front z → content_ahead most type (at m (front ++ rest)) ≡ Ok (integer z, at m rest)
unfolding content_ahead
integer_value_again most wire.Byte front z rest m p = byte_number_again front z rest m p
integer_value_again most wire.Int16 front z rest m p = integer_again 16 front z rest m p
integer_value_again most wire.Int32 front z rest m p = integer_again 32 front z rest m p
integer_value_again most wire.Int64 front z rest m p = integer_again 64 front z rest m p
integer_value_again most wire.Boolean front z rest m p = absurd p
integer_value_again most wire.Double front z rest m p = absurd p
integer_value_again most wire.Binary front z rest m p = absurd p
integer_value_again most wire.List front z rest m p = absurd p
integer_value_again most wire.Map front z rest m p = absurd p
integer_value_again most wire.Struct front z rest m p = absurd p

-- the values inside a value
abbrev pub inner : Tree → ℕ
inner (boolean b) = 0
inner (integer z) = 0
inner (binary text) = 0
inner skipped = 0
inner (list ts) = nodes_of_trees ts
inner (map es) = nodes_of_entries es
inner (struct fs) = nodes_of_fields fs

nodes-inner : (t : Tree) → nodes t ≡ suc (inner t)
nodes-inner (boolean b) = refl
nodes-inner (integer z) = refl
nodes-inner (binary text) = refl
nodes-inner skipped = refl
nodes-inner (list ts) = refl
nodes-inner (map es) = refl
nodes-inner (struct fs) = refl

counted_again : (n : ℕ) (bytes : List ℕ) → counted (at (suc n) bytes) ≡ Ok (at n bytes)
unfolding counted
counted_again n bytes =
    let some : suc n ≢ 0 = omega arith in
    let less : suc n - 1 ≡ n = omega arith in
    rw (ne_eqb (suc n) 0 some, less) refl

abbrev ContentAgain : ℕ → Type 0
ContentAgain most = (type : WireType) (front : List ℕ) (t : Tree) (rest : List ℕ) (m : ℕ) → Spells type front t → depth t ≤ most → content_ahead most type (at (inner t + m) (front ++ rest)) ≡ Ok (t, at m rest)

value_again : (most : ℕ) → ContentAgain most → ReadsAgain most (λ type inside. counted inside >>= content_ahead most type)
value_again most content type front t rest m p nests =
    let count : nodes t + m ≡ suc (inner t + m) = omega (arith, nodes-inner t) in
    rw (count, counted_again (inner t + m) (front ++ rest)) (content type front t rest m p nests)

content_again : (most : ℕ) → ContentAgain most
unfolding content_ahead
content_again most type front (boolean b) rest m p nests = rw (p.0, zero-add m) (boolean_again front b rest m p.1)
content_again most type front (integer z) rest m p nests = rw (zero-add m) (integer_value_again most type front z rest m p)
content_again most type front (binary text) rest m p nests = rw (p.0, zero-add m) (binary_again front text rest m p.1)
content_again most type front skipped rest m p nests = rw (p.0, zero-add m) (double_again front rest m p.1)
content_again zero type front (list ts) rest m p nests = absurd (omega arith)
content_again zero type front (map es) rest m p nests = absurd (omega arith)
content_again zero type front (struct fs) rest m p nests = absurd (omega arith)
content_again (suc most) type front (list ts) rest m p nests =
    rw p.0 (list_again most (λ type inside. counted inside >>= content_ahead most type) (value_again most (content_again most)) ts front rest m (refl, p.1, p.2) (omega arith))
content_again (suc most) type front (map es) rest m p nests =
    rw p.0 (map_again most (λ type inside. counted inside >>= content_ahead most type) (value_again most (content_again most)) es front rest m (refl, p.1, p.2, p.3) (omega arith))
content_again (suc most) type front (struct fs) rest m p nests =
    rw p.0 (struct_again most (λ type inside. counted inside >>= content_ahead most type) (value_again most (content_again most)) fs front rest m (refl, p.1) (omega arith))

-- what spells a value is read as it, in any limits that the value keeps
pub value_ahead_again : (most : ℕ) (type : WireType) (front : List ℕ) (t : Tree) (rest : List ℕ) (m : ℕ) → Spells type front t → depth t ≤ most → value_ahead most type (at (nodes t + m) (front ++ rest)) ≡ Ok (t, at m rest)
unfolding value_ahead
value_ahead_again most type front t rest m p nests = value_again most (content_again most) type front t rest m p nests

pub struct_at_again : (front : List ℕ) (t : Tree) (rest : List ℕ) → SpellsStruct front t → struct_at (front ++ rest) ≡ Ok (t, rest)
unfolding struct_at
struct_at_again front t rest s =
    let count : 262144 ≡ nodes t + (262144 - nodes t) = omega (arith, s.values) in
    let start : value_ahead 32 wire.Struct (at 262144 (front ++ rest)) ≡ Ok (t, at (262144 - nodes t) rest) = subst (λ (n : ℕ). value_ahead 32 wire.Struct (at n (front ++ rest)) ≡ Ok (t, at (262144 - nodes t) rest)) (sym count) (value_ahead_again 32 wire.Struct front t rest (262144 - nodes t) s.spelled s.nesting) in
    rw start refl
