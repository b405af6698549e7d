-- What is read is a row of the table.
use Rattle.std.proofs.Common.{◌≡◌, ℕ, ◌^◌, ℤ, List, [], ◌∷◌, Bool, true, false, ◌&&◌, ◌||◌, Option, Some, None, option_map, Result, Ok, Err, refl, ap, subst}
use Rattle.std.specs.Result.{result_ok}
use Rattle.std.specs.Prelude.{option_and_then}
use Rattle.std.specs.List.{list_all}
use Rattle.std.proofs.lemmas.Bool.{and_from}
use Rattle.serde_json.specs.Data as json
use Rattle.serde_json.specs.Data.{Data, Members}
use Rattle.serde_json.specs.Find.{as_bool, as_number, as_integer, as_str, as_object}
use Rattle.hex.specs.Hex.{decode_of}
use Rattle.hex.specs.declared.error.FromHexError.{FromHexError}
use Rattle.hex.proofs.HexLemmas.{decode_of-ok}
use Rattle.outcomes.specs.Results.{◌>>=◌, refused_as}
use Rattle.json_fields.proofs.Callers.{bind_ok}
use Rattle.schema_tree.specs.Fault.{Path}
use Rattle.schema_tree.specs.Tree as tree
use Rattle.schema_tree.specs.Tree.{Tree, Fields, no_fields, field}
use Rattle.schema_tree.specs.declared.primitive.Primitive.{Primitive}
use Rattle.schema_tree.specs.declared.primitive.Primitive.TheVariants.{String, Long, Integer, Short, Byte, Boolean, Binary, Date, Timestamp, Float, Double, Decimal}
use Rattle.row_core.specs.Conforms.{Conforms, is_short, is_within, is_byte, is_leaf_value, is_null, is_value, are_values}
use Rattle.row_core.specs.Fault.{Fault, inside}
use Rattle.row_core.specs.Reading.{of_kind, in_range, hex_bytes, whole_value, text_value, bytes_value, leaf_value, unless_null, under, value_of, field_values, none_unknown, unknown_name, none_unsupported, row_of}
use Rattle.row_core.specs.Rows.{Value, Row, null, truth, whole, text, bytes, structure, values_of}
use Rattle.row_core.specs.Unsupported.{unsupported}
use Rattle.row_core.proofs.ByteLists.{all_bytes}
use Rattle.row_core.proofs.Truths.{or_true}

-- ---- steps that were not refused

kind_is : {A : Type 0} (o : Option A) (x : A) → of_kind o ≡ Ok x → o ≡ Some x
kind_is None x e = absurd cc
kind_is {A} (Some y) x e = let same : y ≡ x = cc in ap (λ (z : A). Some z) same

range_is : (b : Bool) (v r : Value) → in_range b v ≡ Ok r → (b ≡ true) × (v ≡ r)
range_is true v r e = (refl, cc)
range_is false v r e = absurd cc

not_refused : {A E F : Type 0} (tell : E → F) (r : Result A E) (x : A) → refused_as tell r ≡ Ok x → r ≡ Ok x
not_refused {A} tell (Ok y) x e = let same : y ≡ x = cc in ap (λ (z : A). Ok z) same
not_refused tell (Err f) x e = absurd cc

-- ---- leaves

truth_conforms : (o : Option Bool) (r : Value) → of_kind (option_map truth o) ≡ Ok r → is_leaf_value Boolean r ≡ true
truth_conforms None r e = absurd cc
truth_conforms (Some b) r e = let same : truth b ≡ r = cc in subst (λ v. is_leaf_value Boolean v ≡ true) same refl

whole_is : (limit : ℕ) (d : Data) (r : Value) → whole_value limit d ≡ Ok r → (z : ℤ) × (is_within limit z ≡ true) × (whole z ≡ r)
whole_is limit d r e =
    let p = bind_ok (of_kind (option_and_then as_integer (as_number d))) (λ z. in_range (is_within limit z) (whole z)) r e in
    let q = range_is (is_within limit p.0) (whole p.0) r p.2 in
    (p.0, q.0, q.1)

text_conforms : (d : Data) (r : Value) → text_value d ≡ Ok r → is_leaf_value String r ≡ true
text_conforms d r e =
    let p = bind_ok (of_kind (as_str d)) (λ s. in_range (is_short s) (text s)) r e in
    let q = range_is (is_short p.0) (text p.0) r p.2 in
    subst (λ v. is_leaf_value String v ≡ true) q.1 q.0

decoded : (o : Result (List ℕ) FromHexError) (s : List ℕ) → result_ok o ≡ Some s → o ≡ Ok s
decoded (Ok t) s e = let same : t ≡ s = cc in ap (λ (u : List ℕ). Ok u) same
decoded (Err f) s e = absurd cc

hex_are_bytes : (o : Option (List ℕ)) (s : List ℕ) → option_and_then hex_bytes o ≡ Some s → list_all is_byte s ≡ true
hex_are_bytes None s e = absurd cc
hex_are_bytes (Some t) s e = all_bytes s (decode_of-ok t s (decoded (decode_of t) s e)).3

bytes_conform : (d : Data) (r : Value) → bytes_value d ≡ Ok r → is_leaf_value Binary r ≡ true
bytes_conform d r e =
    let p = bind_ok (of_kind (option_and_then hex_bytes (as_str d))) (λ s. in_range (is_short s) (bytes s)) r e in
    let q = range_is (is_short p.0) (bytes p.0) r p.2 in
    let are = hex_are_bytes (as_str d) p.0 (kind_is (option_and_then hex_bytes (as_str d)) p.0 p.1) in
    subst (λ v. is_leaf_value Binary v ≡ true) q.1 (and_from (is_short p.0) (list_all is_byte p.0) q.0 are)

leaf_conforms : (p : Primitive) (d : Data) (r : Value) → leaf_value p d ≡ Ok r → is_leaf_value p r ≡ true
leaf_conforms Boolean d r e = truth_conforms (as_bool d) r e
leaf_conforms Byte d r e = let w = whole_is (2 ^ 7) d r e in subst (λ v. is_leaf_value Byte v ≡ true) w.2 w.1
leaf_conforms Short d r e = let w = whole_is (2 ^ 15) d r e in subst (λ v. is_leaf_value Short v ≡ true) w.2 w.1
leaf_conforms Integer d r e = let w = whole_is (2 ^ 31) d r e in subst (λ v. is_leaf_value Integer v ≡ true) w.2 w.1
leaf_conforms Long d r e = let w = whole_is (2 ^ 63) d r e in subst (λ v. is_leaf_value Long v ≡ true) w.2 w.1
leaf_conforms Date d r e = let w = whole_is (2 ^ 31) d r e in subst (λ v. is_leaf_value Date v ≡ true) w.2 w.1
leaf_conforms String d r e = text_conforms d r e
leaf_conforms Binary d r e = bytes_conform d r e
leaf_conforms Timestamp d r e = absurd cc
leaf_conforms Float d r e = absurd cc
leaf_conforms Double d r e = absurd cc
leaf_conforms (Decimal precision scale) d r e = absurd cc

-- ---- structs

one_conforms : (nullable : Bool) (t : Tree) (d : Data) (other : Result Value Fault) (v : Value) → (other ≡ Ok v → is_value t v ≡ true) → unless_null nullable d other ≡ Ok v → nullable && is_null v || is_value t v ≡ true
one_conforms true t json.null other v h e = let same : null ≡ v = cc in subst (λ u. is_null u || is_value t u ≡ true) same refl
one_conforms false t json.null other v h e = absurd cc
one_conforms nullable t (json.boolean b) other v h e = or_true (nullable && is_null v) (is_value t v) (h e)
one_conforms nullable t (json.number n) other v h e = or_true (nullable && is_null v) (is_value t v) (h e)
one_conforms nullable t (json.string s) other v h e = or_true (nullable && is_null v) (is_value t v) (h e)
one_conforms nullable t (json.array ds) other v h e = or_true (nullable && is_null v) (is_value t v) (h e)
one_conforms nullable t (json.object ms) other v h e = or_true (nullable && is_null v) (is_value t v) (h e)

-- a struct whose names are known
abbrev known_struct : List Value → Unit {0} → Result Value Fault
known_struct vs known = Ok (structure (values_of vs))

struct_is : (fs : Fields) (d : Data) (r : Value) → value_of (tree.struct fs) d ≡ Ok r → (vs : List Value) × (field_values fs d ≡ Ok vs) × (structure (values_of vs) ≡ r)
struct_is fs d r e =
    let p = bind_ok (of_kind (as_object d)) (λ ms. field_values fs d >>= λ vs. none_unknown (unknown_name fs ms) >>= known_struct vs) r e in
    let q = bind_ok (field_values fs d) (λ vs. none_unknown (unknown_name fs p.0) >>= known_struct vs) r p.2 in
    let u = bind_ok (none_unknown (unknown_name fs p.0)) (known_struct q.0) r q.2 in
    let same : structure (values_of q.0) ≡ r = cc (u.2) in
    (q.0, q.1, same)

fields_are : (first : Result Value Fault) (others : Result (List Value) Fault) (vs : List Value) → (first >>= λ v. others >>= λ us. Ok (v ∷ us)) ≡ Ok vs → (v : Value) × (us : List Value) × (first ≡ Ok v) × (others ≡ Ok us) × (v ∷ us ≡ vs)
fields_are first others vs e =
    let p = bind_ok first (λ v. others >>= λ us. Ok (v ∷ us)) vs e in
    let q = bind_ok others (λ us. Ok (p.0 ∷ us)) vs p.2 in
    let same : p.0 ∷ q.0 ≡ vs = cc (q.2) in
    (p.0, q.0, p.1, q.1, same)

mutual
  value_conforms : (t : Tree) (d : Data) (r : Value) → value_of t d ≡ Ok r → is_value t r ≡ true
  value_conforms (tree.leaf p) d r e = leaf_conforms p d r e
  value_conforms (tree.struct fs) d r e =
      let s = struct_is fs d r e in
      subst (λ v. is_value (tree.struct fs) v ≡ true) s.2 (fields_conform fs d s.0 s.1)
  value_conforms (tree.array t nullable) d r e = absurd cc
  value_conforms (tree.map k v nullable) d r e = absurd cc

  fields_conform : (fs : Fields) (d : Data) (vs : List Value) → field_values fs d ≡ Ok vs → are_values fs (values_of vs) ≡ true
  fields_conform no_fields d vs e = let same : [] ≡ vs = cc in subst (λ us. are_values no_fields (values_of us) ≡ true) same refl
  fields_conform (field name t nullable metadata fs) d vs e =
      let found = under name d in
      let p = fields_are (refused_as (inside name) (unless_null nullable found (value_of t found))) (field_values fs d) vs e in
      let first = one_conforms nullable t found (value_of t found) p.0 (value_conforms t found p.0) (not_refused (inside name) (unless_null nullable found (value_of t found)) p.0 p.2) in
      let others = fields_conform fs d p.1 p.3 in
      subst (λ us. are_values (field name t nullable metadata fs) (values_of us) ≡ true) p.4 (and_from (nullable && is_null p.0 || is_value t p.0) (are_values fs (values_of p.1)) first others)

-- ---- rows

not_null : (d : Data) (other : Result Value Fault) (r : Value) → unless_null false d other ≡ Ok r → other ≡ Ok r
not_null json.null other r e = absurd cc
not_null (json.boolean b) other r e = e
not_null (json.number n) other r e = e
not_null (json.string s) other r e = e
not_null (json.array ds) other r e = e
not_null (json.object ms) other r e = e

supported_is : (o : Option Path) (x : Unit {0}) → none_unsupported o ≡ Ok x → o ≡ None
supported_is None x e = refl
supported_is (Some path) x e = absurd cc

pub row_conforms : (t : Tree) (d : Data) (r : Row) → row_of t d ≡ Ok r → Conforms t r
unfolding row_of
row_conforms t d r e =
    let p = bind_ok (none_unsupported (unsupported t)) (λ supported. unless_null false d (value_of t d)) r e in
    record {
      supported = supported_is (unsupported t) p.0 p.1;
      fits = value_conforms t d r (not_null d (value_of t d) r p.2);
    }
