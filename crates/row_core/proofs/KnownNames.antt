-- Where as many fields of a struct are found in an object as it has names, no other name stands there.
use Rattle.std.proofs.Common.{◌≡◌, ℕ, suc, ◌+◌, ◌≤◌, List, [], ◌∷◌, Bool, true, false, ◌||◌, cond, bytes_eq, Option, Some, None, option_map, Bor, Ordering, Less, Equal, Greater, length, refl, ap, sym, ◌∙◌, arith}
use Rattle.std.specs.Prelude.{not, is_some}
use Rattle.std.specs.Ordering.{nat_cmp, match_ordering, is_eq}
use Rattle.std.specs.Cmp.Lexicographic.{slice_cmp}
use Rattle.std.proofs.lemmas.Map.Text.{is_eq-slice_cmp}
use Rattle.std.proofs.lemmas.Slice.Eq.{bytes_eq-Decides}
use Rattle.serde_json.specs.Data.{Data, null, boolean, number, string, array, object, Members, no_members, member}
use Rattle.serde_json.specs.Find.{get, get_member, as_object}
use Rattle.json_text.specs.View.{view, named_view}
use Rattle.json_text.specs.declared.value.Value.{Value}
use Rattle.schema_tree.specs.Limits.{is_named, is_sound, are_sound}
use Rattle.schema_tree.specs.Tree.{Fields, no_fields, field, Column, fields_of}
use Rattle.row_core.specs.Reading.{unknown_name}
use Rattle.row_core.proofs.Truths.{all_four, neither, not_true}

abbrev pub one_if : Bool → ℕ
one_if true = 1
one_if false = 0

-- how many of the fields are found in an object
abbrev pub found : Fields → Data → ℕ
found no_fields d = 0
found (field n t nullable metadata fs) d = one_if (is_some (get n d)) + found fs d

-- how many of the fields have the name
abbrev hits : List ℕ → Fields → ℕ
hits k no_fields = 0
hits k (field n t nullable metadata fs) = one_if (bytes_eq k n) + hits k fs

-- how many of an object's names are those of fields, and how many names it has
abbrev known : Fields → Members → ℕ
known fs no_members = 0
known fs (member k d ms) = one_if (is_named k fs) + known fs ms

abbrev pub names : Members → ℕ
names no_members = 0
names (member k d ms) = suc (names ms)

-- ---- a name is that of one field at most

none_hit : (k : List ℕ) (fs : Fields) → is_named k fs ≡ false → hits k fs ≡ 0
none_hit k no_fields e = refl
none_hit k (field n t nullable metadata fs) e =
    let p = neither (bytes_eq k n) (is_named k fs) e in
    rw (p.0, none_hit k fs p.1) refl

one_hit_at : (k n : List ℕ) (fs : Fields) (b : Bool) → bytes_eq k n ≡ b → is_named n fs ≡ false → hits k fs ≤ one_if (is_named k fs) → one_if b + hits k fs ≤ one_if (b || is_named k fs)
one_hit_at k n fs true is other h =
    let none : hits k fs ≡ 0 = none_hit k fs (ap (λ l. is_named l fs) ((bytes_eq-Decides k n).0 is) ∙ other) in
    omega arith
one_hit_at k n fs false is other h = omega arith

one_hit : (k : List ℕ) (fs : Fields) → are_sound fs ≡ true → hits k fs ≤ one_if (is_named k fs)
one_hit k no_fields e = omega arith
one_hit k (field n t nullable metadata fs) e =
    let p = all_four (not (is_named n fs)) (is_some (as_object metadata)) (is_sound t) (are_sound fs) e in
    one_hit_at k n fs (bytes_eq k n) refl (not_true (is_named n fs) p.0) (one_hit k fs p.3)

-- ---- one more member

at_most_one : (b : Bool) → one_if b ≤ 1
at_most_one true = omega arith
at_most_one false = omega arith

flipped : (k n : List ℕ) → bytes_eq n k ≡ true → one_if (bytes_eq k n) ≡ 1
flipped k n e = ap one_if ((bytes_eq-Decides k n).1 (sym ((bytes_eq-Decides n k).0 e)))

one_found : (o : Ordering) (k n : List ℕ) (d : Data) (ms : Members) → slice_cmp nat_cmp n k ≡ o → one_if (is_some (match_ordering o (get_member n ms) (Some d) (get_member n ms))) ≤ one_if (is_some (get_member n ms)) + one_if (bytes_eq k n)
one_found Less k n d ms e = omega arith
one_found Equal k n d ms e =
    let same : one_if (bytes_eq k n) ≡ 1 = flipped k n (sym (is_eq-slice_cmp n k) ∙ ap is_eq e) in
    omega arith
one_found Greater k n d ms e = omega arith

sums : (a b c x y z : ℕ) → a ≤ b + c → x ≤ y + z → a + x ≤ b + y + (c + z)
sums a b c x y z h i = omega arith

more_found : (fs : Fields) (k : List ℕ) (d : Data) (ms : Members) → found fs (object (member k d ms)) ≤ found fs (object ms) + hits k fs
more_found no_fields k d ms = omega arith
more_found (field n t nullable metadata fs) k d ms =
    sums (one_if (is_some (get_member n (member k d ms)))) (one_if (is_some (get_member n ms))) (one_if (bytes_eq k n)) (found fs (object (member k d ms))) (found fs (object ms)) (hits k fs)
    (one_found (slice_cmp nat_cmp n k) k n d ms refl) (more_found fs k d ms)

none_found : (fs : Fields) → found fs (object no_members) ≡ 0
none_found no_fields = refl
none_found (field n t nullable metadata fs) = let rest = none_found fs in omega arith

through : (a b c x y : ℕ) → a ≤ b + c → b ≤ x → c ≤ y → a ≤ y + x
through a b c x y h i j = omega arith

found_known : (fs : Fields) (ms : Members) → are_sound fs ≡ true → found fs (object ms) ≤ known fs ms
found_known fs no_members e = let none = none_found fs in omega arith
found_known fs (member k d ms) e =
    through (found fs (object (member k d ms))) (found fs (object ms)) (hits k fs) (known fs ms) (one_if (is_named k fs)) (more_found fs k d ms) (found_known fs ms e) (one_hit k fs e)

-- ---- all names

known_names : (fs : Fields) (ms : Members) → known fs ms ≤ names ms
known_names fs no_members = omega arith
known_names fs (member k d ms) = let one = at_most_one (is_named k fs) in let rest = known_names fs ms in omega arith

all_known_at : (fs : Fields) (k : List ℕ) (ms : Members) (b : Bool) → known fs ms ≤ names ms → one_if b + known fs ms ≡ suc (names ms) → (known fs ms ≡ names ms → unknown_name fs ms ≡ None) → cond b (unknown_name fs ms) (Some k) ≡ None
all_known_at fs k ms true h e rest = rest (omega arith)
all_known_at fs k ms false h e rest = absurd (omega arith)

all_known : (fs : Fields) (ms : Members) → known fs ms ≡ names ms → unknown_name fs ms ≡ None
all_known fs no_members e = refl
all_known fs (member k d ms) e = all_known_at fs k ms (is_named k fs) (known_names fs ms) e (all_known fs ms)

pub none_unknown : (fs : Fields) (ms : Members) → are_sound fs ≡ true → found fs (object ms) ≡ names ms → unknown_name fs ms ≡ None
none_unknown fs ms sound e =
    let low = found_known fs ms sound in
    let high = known_names fs ms in
    all_known fs ms (omega arith)

pub names-named_view : (es : List (Bor (List ℕ) × Bor Value)) → names (named_view es) ≡ length es
names-named_view [] = refl
names-named_view (e ∷ es) = ap suc (names-named_view es)

-- ---- one field after another

pub count_field : (cs others : List Column) (c : Column) (d : Data) (count all : ℕ) (b : Bool) → cs ≡ c ∷ others → b ≡ is_some (get c.name d) → count + found (fields_of cs) d ≡ all → count + one_if b + found (fields_of others) d ≡ all
count_field cs others c d count all b first is e =
    let same : one_if b ≡ one_if (is_some (get c.name d)) = ap one_if is in
    let f : count + found (fields_of (c ∷ others)) d ≡ all = rw first at e in
    omega arith

pub object_is : (d : Data) (ms : Members) → as_object d ≡ Some ms → d ≡ object ms
object_is null ms e = absurd cc
object_is (boolean b) ms e = absurd cc
object_is (number n) ms e = absurd cc
object_is (string t) ms e = absurd cc
object_is (array ds) ms e = absurd cc
object_is (object ns) ms e = let same : ns ≡ ms = cc in ap object same

pub all_counted : (cs : List Column) (d : Data) (count all : ℕ) → cs ≡ [] → count + found (fields_of cs) d ≡ all → all ≡ count
all_counted cs d count all none e = let f : count + 0 ≡ all = rw none at e in omega arith

pub is_there : (o : Option (Bor Value)) (r : Option Data) → option_map (λ v. view v.now) o ≡ r → is_some o ≡ is_some r
is_there None r e = ap is_some e
is_there (Some v) r e = ap is_some e
