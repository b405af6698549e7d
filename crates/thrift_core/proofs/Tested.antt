-- The test of whether a tree can be written passes for just the trees that can be.
use Rattle.std.proofs.Common.{◌≡◌, ℕ, ◌+◌, ◌<◌, ℤ, pos, negsuc, ◌<ℤ◌, ◌≤ℤ◌, Bool, true, false, ◌&&◌, nat_lt, Option, None, Some, List, ◌∷◌, length, drop, get_or, refl, sym, ap, ◌∙◌, arith, FitsSigned, w8, w16, w32, w64}
use Rattle.std.specs.Int.Signed.{lt_z, le_z}
use Rattle.std.proofs.lemmas.Bool.{and_parts, and_right, ltb-true, lt-ltb}
use Rattle.std.proofs.lemmas.Int.{ints}
use Rattle.std.proofs.lemmas.List.{at_drop_more}
use Rattle.thrift_values.specs.Tree.{Tree, boolean, integer, binary, list, map, struct, skipped, Trees, no_trees, tree, Entries, no_entries, entry, Fields, no_fields, field, count_of_trees, count_of_entries, trees_of, entries_of}
use Rattle.thrift_values.specs.View.{views, entry_views}
use Rattle.thrift_core.specs.Form.{Form, boolean_form, byte_form, int16_form, int32_form, int64_form, binary_form, list_form, map_form, struct_form, Forms, member_form, entry_forms, forms_of, form_at}
use Rattle.thrift_core.specs.Writable.{for_some, is_boolean_form, is_binary_form, is_between, integer_fits, is_writable, are_writable, entries_are_writable, fields_are_writable}
use Rattle.thrift_values.specs.declared.value.TValue.{TValue}
use Rattle.thrift_values.specs.declared.value.MapEntry.{MapEntry}
use Rattle.thrift_core.proofs.Written.{count-views, count-entry_views}
use Rattle.thrift_core.specs.Writing.{IntegerHasForm, HasForm, MembersHaveForm, EntriesHaveForm, FieldsHaveForm}

-- ---- what a form names

boolean_named : (f : Form) → is_boolean_form f ≡ true → f ≡ boolean_form
boolean_named boolean_form e = refl
boolean_named other e = absurd cc

binary_named : (f : Form) → is_binary_form f ≡ true → f ≡ binary_form
binary_named binary_form e = refl
binary_named other e = absurd cc

member_named : (f : Form) (passes : Form → Bool) → for_some passes (member_form f) ≡ true → (m : Form) × (f ≡ list_form m) × (passes m ≡ true)
member_named (list_form m) passes e = (m, refl, e)
member_named other passes e = absurd cc

entry_named : (f : Form) (passes : Form × Form → Bool) → for_some passes (entry_forms f) ≡ true → (k v : Form) × (f ≡ map_form k v) × (passes (k, v) ≡ true)
entry_named (map_form k v) passes e = (k, v, refl, e)
entry_named other passes e = absurd cc

fields_named : (f : Form) (passes : Forms → Bool) → for_some passes (forms_of f) ≡ true → (forms : Forms) × (f ≡ struct_form forms) × (passes forms ≡ true)
fields_named (struct_form forms) passes e = (forms, refl, e)
fields_named other passes e = absurd cc

found : (o : Option Form) (passes : Form → Bool) → for_some passes o ≡ true → (f : Form) × (o ≡ Some f) × (passes f ≡ true)
found None passes e = absurd cc
found (Some f) passes e = (f, refl, e)

-- ---- whole numbers

below : (a b : ℤ) → lt_z a b ≡ true → a <ℤ b
below a b is = grind (arith, ints)

below_again : (a b : ℤ) → a <ℤ b → lt_z a b ≡ true
below_again a b lt = grind (arith, ints)

at_most : (a b : ℤ) → le_z a b ≡ true → a ≤ℤ b
at_most a b is = grind (arith, ints)

at_most_again : (a b : ℤ) → a ≤ℤ b → le_z a b ≡ true
at_most_again a b le = grind (arith, ints)

between : (n : ℕ) (z : ℤ) → is_between n z ≡ true → (negsuc n ≤ℤ z) × (z ≤ℤ pos n)
between n z e = let p = and_parts (le_z (negsuc n) z) (le_z z (pos n)) e in (at_most (negsuc n) z p.0, at_most z (pos n) p.1)

between_again : (n : ℕ) (z : ℤ) → negsuc n ≤ℤ z → z ≤ℤ pos n → is_between n z ≡ true
between_again n z low high = rw (at_most_again (negsuc n) z low, at_most_again z (pos n) high) refl

fits_8 : (z : ℤ) → negsuc 127 ≤ℤ z → z ≤ℤ pos 127 → FitsSigned w8 z
fits_8 (pos n) low high = omega (arith, ints)
fits_8 (negsuc n) low high = omega (arith, ints)

fits_16 : (z : ℤ) → negsuc 32767 ≤ℤ z → z ≤ℤ pos 32767 → FitsSigned w16 z
fits_16 (pos n) low high = omega (arith, ints)
fits_16 (negsuc n) low high = omega (arith, ints)

fits_32 : (z : ℤ) → negsuc 2147483647 ≤ℤ z → z ≤ℤ pos 2147483647 → FitsSigned w32 z
fits_32 (pos n) low high = omega (arith, ints)
fits_32 (negsuc n) low high = omega (arith, ints)

fits_64 : (z : ℤ) → negsuc 9223372036854775807 ≤ℤ z → z ≤ℤ pos 9223372036854775807 → FitsSigned w64 z
fits_64 (pos n) low high = omega (arith, ints)
fits_64 (negsuc n) low high = omega (arith, ints)

integer_tested : (f : Form) (z : ℤ) → integer_fits f z ≡ true → IntegerHasForm f z
integer_tested byte_form z e = let b = between 127 z e in fits_8 z b.0 b.1
integer_tested int16_form z e = let b = between 32767 z e in fits_16 z b.0 b.1
integer_tested int32_form z e = let b = between 2147483647 z e in fits_32 z b.0 b.1
integer_tested int64_form z e = let b = between 9223372036854775807 z e in fits_64 z b.0 b.1
integer_tested other z e = absurd cc

between_8 : (z : ℤ) → FitsSigned w8 z → (negsuc 127 ≤ℤ z) × (z ≤ℤ pos 127)
between_8 (pos n) h = (omega (arith, ints), omega (arith, ints))
between_8 (negsuc n) h = (omega (arith, ints), omega (arith, ints))

pub between_16 : (z : ℤ) → FitsSigned w16 z → (negsuc 32767 ≤ℤ z) × (z ≤ℤ pos 32767)
between_16 (pos n) h = (omega (arith, ints), omega (arith, ints))
between_16 (negsuc n) h = (omega (arith, ints), omega (arith, ints))

between_32 : (z : ℤ) → FitsSigned w32 z → (negsuc 2147483647 ≤ℤ z) × (z ≤ℤ pos 2147483647)
between_32 (pos n) h = (omega (arith, ints), omega (arith, ints))
between_32 (negsuc n) h = (omega (arith, ints), omega (arith, ints))

between_64 : (z : ℤ) → FitsSigned w64 z → (negsuc 9223372036854775807 ≤ℤ z) × (z ≤ℤ pos 9223372036854775807)
between_64 (pos n) h = (omega (arith, ints), omega (arith, ints))
between_64 (negsuc n) h = (omega (arith, ints), omega (arith, ints))

-- what fits 16 bits fits 32
pub wider : (z : ℤ) → FitsSigned w16 z → FitsSigned w32 z
wider (pos n) h = omega (arith, ints)
wider (negsuc n) h = omega (arith, ints)

integer_again : (f : Form) (z : ℤ) → IntegerHasForm f z → integer_fits f z ≡ true
integer_again byte_form z h = let b = between_8 z h in between_again 127 z b.0 b.1
integer_again int16_form z h = let b = between_16 z h in between_again 32767 z b.0 b.1
integer_again int32_form z h = let b = between_32 z h in between_again 2147483647 z b.0 b.1
integer_again int64_form z h = let b = between_64 z h in between_again 9223372036854775807 z b.0 b.1
integer_again other z h = absurd h

-- ---- what passes can be written

mutual
  pub tested : (f : Form) (t : Tree) → is_writable f t ≡ true → HasForm f t
  tested f (boolean b) e = boolean_named f e
  tested f (integer z) e = integer_tested f z e
  tested f (binary text) e =
      let p = and_parts (is_binary_form f) (nat_lt (length text) 2147483648) e in (binary_named f p.0, ltb-true (length text) 2147483648 p.1)
  tested f (list ts) e =
      let m = member_named f (λ m. nat_lt (count_of_trees ts) 2147483648 && are_writable m ts) e in
      let p = and_parts (nat_lt (count_of_trees ts) 2147483648) (are_writable m.0 ts) m.2 in
      (m.0, m.1, ltb-true (count_of_trees ts) 2147483648 p.0, members_tested m.0 ts p.1)
  tested f (map es) e =
      let m = entry_named f (λ m. nat_lt (count_of_entries es) 2147483648 && entries_are_writable m.0 m.1 es) e in
      let p = and_parts (nat_lt (count_of_entries es) 2147483648) (entries_are_writable m.0 m.1 es) m.3 in
      (m.0, m.1, m.2, ltb-true (count_of_entries es) 2147483648 p.0, entries_tested m.0 m.1 es p.1)
  tested f (struct fs) e =
      let m = fields_named f (λ forms. fields_are_writable forms (negsuc 32768) fs) e in (m.0, m.1, fields_tested m.0 (negsuc 32768) fs m.2)
  tested f skipped e = absurd cc

  members_tested : (f : Form) (ts : Trees) → are_writable f ts ≡ true → MembersHaveForm f ts
  members_tested f no_trees e = tt
  members_tested f (tree t ts) e = let p = and_parts (is_writable f t) (are_writable f ts) e in (tested f t p.0, members_tested f ts p.1)

  entries_tested : (k v : Form) (es : Entries) → entries_are_writable k v es ≡ true → EntriesHaveForm k v es
  entries_tested k v no_entries e = tt
  entries_tested k v (entry key value es) e =
      let p = and_parts (is_writable k key && is_writable v value) (entries_are_writable k v es) e in
      let q = and_parts (is_writable k key) (is_writable v value) p.0 in
      (tested k key q.0, tested v value q.1, entries_tested k v es p.1)

  fields_tested : (forms : Forms) (last : ℤ) (fs : Fields) → fields_are_writable forms last fs ≡ true → FieldsHaveForm forms last fs
  fields_tested forms last no_fields e = tt
  fields_tested forms last (field id v fs) e =
      let value = for_some (λ f. is_writable f v) (form_at id forms) in
      let p = and_parts (lt_z last id && (le_z id (pos 32767) && value)) (fields_are_writable forms id fs) e in
      let q = and_parts (lt_z last id) (le_z id (pos 32767) && value) p.0 in
      let r = and_parts (le_z id (pos 32767)) value q.1 in
      let f = found (form_at id forms) (λ f. is_writable f v) r.1 in
      (below last id q.0, at_most id (pos 32767) r.0, f.0, f.1, tested f.0 v f.2, fields_tested forms id fs p.1)

-- ---- what can be written passes

mutual
  pub passes : (f : Form) (t : Tree) → HasForm f t → is_writable f t ≡ true
  passes f (boolean b) h = rw h refl
  passes f (integer z) h = integer_again f z h
  passes f (binary text) h = rw (h.0, lt-ltb (length text) 2147483648 h.1) refl
  passes f (list ts) h = rw (h.1, lt-ltb (count_of_trees ts) 2147483648 h.2) (members_pass h.0 ts h.3)
  passes f (map es) h = rw (h.2, lt-ltb (count_of_entries es) 2147483648 h.3) (entries_pass h.0 h.1 es h.4)
  passes f (struct fs) h = rw h.1 (fields_pass h.0 (negsuc 32768) fs h.2)
  passes f skipped h = absurd h

  members_pass : (f : Form) (ts : Trees) → MembersHaveForm f ts → are_writable f ts ≡ true
  members_pass f no_trees h = refl
  members_pass f (tree t ts) h = rw (passes f t h.0) (members_pass f ts h.1)

  entries_pass : (k v : Form) (es : Entries) → EntriesHaveForm k v es → entries_are_writable k v es ≡ true
  entries_pass k v no_entries h = refl
  entries_pass k v (entry key value es) h = rw (passes k key h.0, passes v value h.1) (entries_pass k v es h.2)

  fields_pass : (forms : Forms) (last : ℤ) (fs : Fields) → FieldsHaveForm forms last fs → fields_are_writable forms last fs ≡ true
  fields_pass forms last no_fields h = refl
  fields_pass forms last (field id v fs) h =
      rw (below_again last id h.0, at_most_again id (pos 32767) h.1, h.3, passes h.2 v h.4) (fields_pass forms id fs h.5)

-- ---- one behind the other

-- the first is so, so those behind it decide
pub others_decide : (first others all total : Bool) → all ≡ (first && others) → true ≡ first → all ≡ total → others ≡ total
others_decide first others all total is here so_far = sym (is ∙ ap (λ b. b && others) (sym here)) ∙ so_far

-- the first isn't so, and that decides
pub first_decides : (first others all total : Bool) → all ≡ (first && others) → false ≡ first → all ≡ total → false ≡ total
first_decides first others all total is here so_far = sym (is ∙ ap (λ b. b && others) (sym here)) ∙ so_far

pub not_all : (size total : Bool) → false ≡ total → false ≡ (size && total)
not_all size total never = sym (and_right size total (sym never))

-- what a test of the rest of a list is, with its first member apart
pub first_apart : {X : Type 0} (test : List X → Bool) (xs : List X) (i : ℕ) (x : X) → i < length xs → x ≡ get_or xs i x → test (drop i xs) ≡ test (x ∷ drop (i + 1) xs)
first_apart test xs i x lt is = at_drop_more test xs i x lt ∙ ap (λ y. test (y ∷ drop (i + 1) xs)) (sym is)

-- ---- a list, a map and a field

pub list_tested : {A : Type 0} (f m : Form) (t : Tree) (vs items : List (TValue A)) (result : Bool) → t ≡ list (trees_of (views items)) → Some m ≡ member_form f → vs ≡ items
    → result ≡ (nat_lt (length vs) 2147483648 && are_writable m (trees_of (views vs))) → result ≡ is_writable f t
list_tested f m t vs items result is member same so =
    let one : is_writable f t ≡ (nat_lt (length vs) 2147483648 && are_writable m (trees_of (views vs))) = rw (is, ← member, count-views, same) refl in
    so ∙ sym one

pub map_tested : {A : Type 0} (f k v : Form) (t : Tree) (es items : List (MapEntry A)) (result : Bool) → t ≡ map (entries_of (entry_views items)) → Some (k, v) ≡ entry_forms f → es ≡ items
    → result ≡ (nat_lt (length es) 2147483648 && entries_are_writable k v (entries_of (entry_views es))) → result ≡ is_writable f t
map_tested f k v t es items result is member same so =
    let one : is_writable f t ≡ (nat_lt (length es) 2147483648 && entries_are_writable k v (entries_of (entry_views es))) = rw (is, ← member, count-entry_views, same) refl in
    so ∙ sym one

-- an id that doesn't rise
pub falls : (last id : ℤ) (others : Bool) → id ≤ℤ last → false ≡ (lt_z last id && others)
falls last id others le = let e : lt_z last id ≡ false = grind (arith, ints) in rw e refl

-- a value that can't be written
pub unfit : (rises small value : Bool) → false ≡ value → false ≡ (rises && (small && value))
unfit rises small value never = sym (and_right rises (small && value) (and_right small value (sym never)))

-- a field that can be written
pub stands : (last id : ℤ) (value : Bool) → last <ℤ id → id ≤ℤ pos 32767 → true ≡ value → true ≡ (lt_z last id && (le_z id (pos 32767) && value))
stands last id value lt le passed = rw (below_again last id lt, at_most_again id (pos 32767) le) passed
