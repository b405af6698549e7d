-- A row that conforms is read again from its JSON.
use Rattle.std.proofs.Common.{◌≡◌, ℕ, ◌^◌, ℤ, pos, negsuc, List, [], ◌∷◌, Bool, true, false, ◌&&◌, ◌||◌, ◌⊎◌, inl, inr, cond, bytes_eq, Some, None, Ordering, Less, Equal, Greater, Ok, Result, refl, ap, sym, ◌∙◌}
use Rattle.std.specs.Prelude.{not, is_some}
use Rattle.std.specs.List.{list_all}
use Rattle.std.specs.Ordering.{nat_cmp, match_ordering}
use Rattle.std.specs.Cmp.Lexicographic.{slice_cmp}
use Rattle.std.proofs.lemmas.Bool.{false≢true, and_parts}
use Rattle.std.proofs.lemmas.Slice.Eq.{bytes_eq-Decides}
use Rattle.serde_json.specs.Data as json
use Rattle.serde_json.specs.Data.{Data, Members, no_members, member, put}
use Rattle.serde_json.specs.Find.{get_member, as_object, of_integer}
use Rattle.serde_json.proofs.Views.{get_member-put, get_member-put_other}
use Rattle.hex.specs.Hex.{encode_lower}
use Rattle.hex.proofs.HexLemmas.{decode_of-encode_lower}
use Rattle.json_fields.specs.Printing.{put_fields}
use Rattle.schema_tree.specs.Limits.{is_named, is_sound, are_sound, has_field}
use Rattle.schema_tree.specs.Tree as tree
use Rattle.schema_tree.specs.Tree.{Tree, Fields, no_fields, field}
use Rattle.schema_tree.specs.declared.primitive.Primitive.{Primitive}
use Rattle.schema_tree.specs.declared.primitive.Primitive.TheVariants.{String, Long, Integer, Short, Byte, Boolean, Binary, Date}
use Rattle.row_core.specs.Conforms.{Conforms, is_short, is_within, is_byte, is_leaf_value, is_null, is_value, are_values}
use Rattle.row_core.specs.Fault.{Fault}
use Rattle.row_core.specs.Printing.{leaf_data, data_of, fields_data, data_of_row}
use Rattle.row_core.specs.Reading.{whole_value, text_value, bytes_value, leaf_value, unless_null, under, value_of, field_values, unknown_name, row_of}
use Rattle.row_core.specs.Rows.{Value, Values, Row, null, truth, whole, text, bytes, structure, no_values, value, values_of}
use Rattle.row_core.proofs.ByteLists.{bytes_all}
use Rattle.row_core.proofs.ReadFields.{struct_is}
use Rattle.row_core.proofs.Truths.{all_four, neither, not_true, or_true}

-- ---- leaves

whole_again : (limit : ℕ) (z : ℤ) → is_within limit z ≡ true → whole_value limit (json.number (of_integer z)) ≡ Ok (whole z)
whole_again limit (pos n) e = rw e refl
whole_again limit (negsuc n) e = rw e refl

text_again : (s : List ℕ) → is_short s ≡ true → text_value (json.string s) ≡ Ok (text s)
text_again s e = rw e refl

bytes_again : (s : List ℕ) → is_short s && list_all is_byte s ≡ true → bytes_value (json.string (encode_lower s)) ≡ Ok (bytes s)
bytes_again s e =
    let p = and_parts (is_short s) (list_all is_byte s) e in
    rw (decode_of-encode_lower s (bytes_all s p.1), p.0) refl

leaf_again : (p : Primitive) (v : Value) → is_leaf_value p v ≡ true → leaf_value p (leaf_data v) ≡ Ok v
leaf_again Boolean (truth b) e = refl
leaf_again Byte (whole z) e = whole_again (2 ^ 7) z e
leaf_again Short (whole z) e = whole_again (2 ^ 15) z e
leaf_again Integer (whole z) e = whole_again (2 ^ 31) z e
leaf_again Long (whole z) e = whole_again (2 ^ 63) z e
leaf_again Date (whole z) e = whole_again (2 ^ 31) z e
leaf_again String (text s) e = text_again s e
leaf_again Binary (bytes s) e = bytes_again s e
leaf_again p v e = absurd (false≢true e)

-- ---- what was put under names is found there

pub other_name : (k n : List ℕ) → bytes_eq k n ≡ false → k ≡ n → ⊥
other_name k n e same = false≢true (sym e ∙ (bytes_eq-Decides k n).1 same)

-- a name that none of the fields has keeps its value
kept : (k : List ℕ) (fs : Fields) (vs : Values) (ms : Members) → is_named k fs ≡ false → get_member k (put_fields ms (fields_data fs vs)) ≡ get_member k ms
kept k no_fields vs ms e = refl
kept k (field n t nullable metadata fs) no_values ms e = refl
kept k (field n t nullable metadata fs) (value v vs) ms e =
    let p = neither (bytes_eq k n) (is_named k fs) e in
    kept k fs vs (put n (data_of t v) ms) p.1 ∙ get_member-put_other k n (data_of t v) ms (other_name k n p.0)

-- each field's value stands under its name
abbrev Stand : Fields → Values → Members → Type 0
Stand (field n t nullable metadata fs) (value v vs) ms = (get_member n ms ≡ Some (data_of t v)) × Stand fs vs ms
Stand fs vs ms = Unit {0}

all_stand : (fs : Fields) (vs : Values) (ms : Members) → are_sound fs ≡ true → Stand fs vs (put_fields ms (fields_data fs vs))
all_stand no_fields vs ms e = tt
all_stand (field n t nullable metadata fs) no_values ms e = tt
all_stand (field n t nullable metadata fs) (value v vs) ms e =
    let p = all_four (not (is_named n fs)) (is_some (as_object metadata)) (is_sound t) (are_sound fs) e in
    let new = put n (data_of t v) ms in
    (kept n fs vs new (not_true (is_named n fs) p.0) ∙ get_member-put n (data_of t v) ms, all_stand fs vs new p.3)

-- ---- the names are those of fields

known_at : (all : Fields) (o : Ordering) (k l : List ℕ) (d e : Data) (ms : Members) → is_named k all ≡ true → is_named l all ≡ true → unknown_name all ms ≡ None → unknown_name all (put k d ms) ≡ None
    → unknown_name all (match_ordering o (member k d (member l e ms)) (member l d ms) (member l e (put k d ms))) ≡ None
known_at all Less k l d e ms k_known l_known known more = rw (k_known, l_known) known
known_at all Equal k l d e ms k_known l_known known more = rw l_known known
known_at all Greater k l d e ms k_known l_known known more = rw l_known more

first_known : (all : Fields) (l : List ℕ) (e : Data) (ms : Members) (b : Bool) → is_named l all ≡ b → cond b (unknown_name all ms) (Some l) ≡ None → (is_named l all ≡ true) × (unknown_name all ms ≡ None)
first_known all l e ms true is h = (is, h)
first_known all l e ms false is h = absurd cc

pub one_known : (all : Fields) (k : List ℕ) (d : Data) (ms : Members) → is_named k all ≡ true → unknown_name all ms ≡ None → unknown_name all (put k d ms) ≡ None
one_known all k d no_members named known = rw named refl
one_known all k d (member l e ms) named known =
    let p = first_known all l e ms (is_named l all) refl known in
    known_at all (slice_cmp nat_cmp k l) k l d e ms named p.0 p.1 (one_known all k d ms named p.1)

all_known : (all fs : Fields) (vs : Values) (ms : Members) → ((k : List ℕ) → is_named k fs ≡ true → is_named k all ≡ true) → unknown_name all ms ≡ None → unknown_name all (put_fields ms (fields_data fs vs)) ≡ None
all_known all no_fields vs ms within known = known
all_known all (field n t nullable metadata fs) no_values ms within known = known
all_known all (field n t nullable metadata fs) (value v vs) ms within known =
    let here : is_named n all ≡ true = within n (ap (λ b. b || is_named n fs) ((bytes_eq-Decides n n).1 refl)) in
    all_known all fs vs (put n (data_of t v) ms) (λ k e. within k (or_true (bytes_eq k n) (is_named k fs) e)) (one_known all n (data_of t v) ms here known)

-- ---- structs

-- the values of a struct's fields as a plain list
abbrev pub list_of : Values → List Value
list_of no_values = []
list_of (value v vs) = v ∷ list_of vs

pub list_again : (vs : Values) → values_of (list_of vs) ≡ vs
list_again no_values = refl
list_again (value v vs) = ap (value v) (list_again vs)

no_null_leaf : (p : Primitive) → is_leaf_value p null ≡ true → ⊥
no_null_leaf Boolean e = false≢true e
no_null_leaf p e = false≢true e

pub no_struct_leaf : (p : Primitive) (vs : Values) → is_leaf_value p (structure vs) ≡ true → ⊥
no_struct_leaf Boolean vs e = false≢true e
no_struct_leaf p vs e = false≢true e

null_data : (t : Tree) → data_of t null ≡ json.null
null_data (tree.leaf p) = refl
null_data (tree.struct fs) = refl
null_data (tree.array t nullable) = refl
null_data (tree.map k v nullable) = refl

abbrev is_there : Data → Bool
is_there json.null = false
is_there d = true

there : (nullable : Bool) (d : Data) (other : Result Value Fault) → is_there d ≡ true → unless_null nullable d other ≡ other
there nullable json.null other e = absurd (false≢true e)
there nullable (json.boolean b) other e = refl
there nullable (json.number n) other e = refl
there nullable (json.string s) other e = refl
there nullable (json.array ds) other e = refl
there nullable (json.object ms) other e = refl

is_printed : (t : Tree) (v : Value) → is_value t v ≡ true → is_there (data_of t v) ≡ true
is_printed (tree.leaf p) null e = absurd (no_null_leaf p e)
is_printed (tree.leaf p) (truth b) e = refl
is_printed (tree.leaf p) (whole z) e = refl
is_printed (tree.leaf p) (text s) e = refl
is_printed (tree.leaf p) (bytes s) e = refl
is_printed (tree.leaf p) (structure vs) e = absurd (no_struct_leaf p vs e)
is_printed (tree.struct fs) (structure vs) e = refl
is_printed t v e = absurd (false≢true e)

-- a field's value is null or one of its type
null_or_not : (nullable : Bool) (t : Tree) (v : Value) → nullable && is_null v || is_value t v ≡ true → ((nullable ≡ true) × (v ≡ null)) ⊎ (is_value t v ≡ true)
null_or_not true t null e = inl (refl, refl)
null_or_not true t (truth b) e = inr e
null_or_not true t (whole z) e = inr e
null_or_not true t (text s) e = inr e
null_or_not true t (bytes s) e = inr e
null_or_not true t (structure vs) e = inr e
null_or_not false t v e = inr e

-- a field's value is read again, where one that isn't null is
one_again : (nullable : Bool) (t : Tree) (v : Value) → (is_value t v ≡ true → value_of t (data_of t v) ≡ Ok v) → nullable && is_null v || is_value t v ≡ true → unless_null nullable (data_of t v) (value_of t (data_of t v)) ≡ Ok v
one_again nullable t v again e = elim (null_or_not nullable t v e) [
  | inl p ↦ rw (p.0, p.1, null_data t) refl
  | inr h ↦ there nullable (data_of t v) (value_of t (data_of t v)) (is_printed t v h) ∙ again h
]

mutual
  value_again : (t : Tree) (v : Value) → is_sound t ≡ true → is_value t v ≡ true → value_of t (data_of t v) ≡ Ok v
  value_again (tree.leaf p) v s e = leaf_again p v e
  value_again (tree.struct fs) (structure vs) s e =
      let ms = put_fields no_members (fields_data fs vs) in
      let sound = (and_parts (has_field fs) (are_sound fs) s).1 in
      let read = fields_again fs vs ms sound e (all_stand fs vs no_members sound) in
      let known = all_known fs fs vs no_members (λ k h. h) refl in
      struct_is fs (json.object ms) ms (list_of vs) refl read known ∙ ap (λ us. Ok (structure us)) (list_again vs)
  value_again t v s e = absurd (false≢true e)

  fields_again : (fs : Fields) (vs : Values) (ms : Members) → are_sound fs ≡ true → are_values fs vs ≡ true → Stand fs vs ms → field_values fs (json.object ms) ≡ Ok (list_of vs)
  fields_again no_fields no_values ms s e stand = refl
  fields_again (field n t nullable metadata fs) (value v vs) ms s e stand =
      let sound = all_four (not (is_named n fs)) (is_some (as_object metadata)) (is_sound t) (are_sound fs) s in
      let are = and_parts (nullable && is_null v || is_value t v) (are_values fs vs) e in
      let found : under n (json.object ms) ≡ data_of t v = rw stand.0 refl in
      let first : unless_null nullable (under n (json.object ms)) (value_of t (under n (json.object ms))) ≡ Ok v =
      rw found (one_again nullable t v (λ h. value_again t v sound.2 h) are.0) in
      let others = fields_again fs vs ms sound.3 are.1 stand.1 in
      rw (first, others) refl
  fields_again fs vs ms s e stand = absurd (false≢true e)

pub row_again : (t : Tree) (r : Row) → is_sound t ≡ true → Conforms t r → row_of t (data_of_row t r) ≡ Ok r
unfolding row_of
row_again t r sound c = rw c.supported (there false (data_of t r) (value_of t (data_of t r)) (is_printed t r c.fits) ∙ value_again t r sound c.fits)
