-- How deep what is printed nests.
use Rattle.std.proofs.Common.{◌≡◌, ℕ, suc, ◌≤◌, Bool, true, false, List, [], ◌∷◌, map, Option, Some, None, option_map, Ordering, Less, Equal, Greater, refl, arith, nat_cmp}
use Rattle.std.specs.Prelude.{IfSome, ◌&&◌}
use Rattle.std.specs.Ordering.{match_ordering}
use Rattle.std.specs.Cmp.Lexicographic.{slice_cmp}
use Rattle.serde_json.specs.Data.{Data, null, boolean, number, string, array, object, Members, no_members, member, put, depth, items_depth, members_depth}
use Rattle.serde_json.specs.View.{items_of}
use Rattle.json_fields.specs.Kinds.{is_text_map, are_texts, is_text_or_null}
use Rattle.json_fields.specs.Printing.{Field, put_if, put_fields, fields_object, texts_data, unless_empty}

put_depth_at : (o : Ordering) (k l : List ℕ) (d e : Data) (ms : Members) (n : ℕ) → depth d ≤ n → depth e ≤ n → members_depth ms ≤ n → members_depth (put k d ms) ≤ n
    → members_depth (match_ordering o (member k d (member l e ms)) (member l d ms) (member l e (put k d ms))) ≤ n
put_depth_at Less k l d e ms n hd he hm later = omega arith
put_depth_at Equal k l d e ms n hd he hm later = omega arith
put_depth_at Greater k l d e ms n hd he hm later = omega arith

put_depth : (k : List ℕ) (d : Data) (ms : Members) (n : ℕ) → depth d ≤ n → members_depth ms ≤ n → members_depth (put k d ms) ≤ n
put_depth k d no_members n hd hm = omega arith
put_depth k d (member l e ms) n hd hm = put_depth_at (slice_cmp nat_cmp k l) k l d e ms n hd (omega arith) (omega arith) (put_depth k d ms n hd (omega arith))

abbrev pub IfShallow : ℕ → Option Data → Type 0
IfShallow n None = Unit {0}
IfShallow n (Some d) = depth d ≤ n

abbrev pub AreShallow : ℕ → List Field → Type 0
AreShallow n [] = Unit {0}
AreShallow n (f ∷ fs) = IfShallow n f.1 × AreShallow n fs

put_if_depth : (k : List ℕ) (o : Option Data) (ms : Members) (n : ℕ) → IfShallow n o → members_depth ms ≤ n → members_depth (put_if k o ms) ≤ n
put_if_depth k None ms n h hm = hm
put_if_depth k (Some d) ms n h hm = put_depth k d ms n h hm

put_fields_depth : (fs : List Field) (ms : Members) (n : ℕ) → AreShallow n fs → members_depth ms ≤ n → members_depth (put_fields ms fs) ≤ n
put_fields_depth [] ms n h hm = hm
put_fields_depth (f ∷ fs) ms n h hm = put_fields_depth fs (put_if f.0 f.1 ms) n h.1 (put_if_depth f.0 f.1 ms n h.0 hm)

pub fields_depth : (fs : List Field) (n : ℕ) → AreShallow n fs → depth (fields_object fs) ≤ suc n
fields_depth fs n h = let inside : members_depth (put_fields no_members fs) ≤ n = put_fields_depth fs no_members n h (omega arith) in omega arith

strings_depth : (ts : List (List ℕ)) → items_depth (items_of (map string ts)) ≤ 0
strings_depth [] = omega arith
strings_depth (t ∷ ts) = let rest = strings_depth ts in omega arith

pub texts_depth : (ts : List (List ℕ)) (n : ℕ) → 1 ≤ n → depth (texts_data ts) ≤ n
texts_depth ts n h = let inside = strings_depth ts in omega arith

text_depth : (d : Data) → is_text_or_null d ≡ true → depth d ≤ 0
text_depth null h = omega arith
text_depth (boolean b) h = omega arith
text_depth (number n) h = omega arith
text_depth (string s) h = omega arith
text_depth (array ds) h = absurd cc
text_depth (object ms) h = absurd cc

both : (a b : Bool) → (a && b) ≡ true → (a ≡ true) × (b ≡ true)
both true b h = (refl, h)
both false b h = absurd cc

are_texts_depth : (ms : Members) → are_texts ms ≡ true → members_depth ms ≤ 0
are_texts_depth no_members h = omega arith
are_texts_depth (member k d ms) h =
    let parts = both (is_text_or_null d) (are_texts ms) h in
    let here = text_depth d parts.0 in
    let rest = are_texts_depth ms parts.1 in
    omega arith

pub text_map_depth : (d : Data) (n : ℕ) → 1 ≤ n → is_text_map d ≡ true → depth d ≤ n
text_map_depth null n h is = absurd cc
text_map_depth (boolean b) n h is = absurd cc
text_map_depth (number k) n h is = absurd cc
text_map_depth (string s) n h is = absurd cc
text_map_depth (array ds) n h is = absurd cc
text_map_depth (object ms) n h is = let inside = are_texts_depth ms is in omega arith

pub unless_empty_depth : (ts : List (List ℕ)) (n : ℕ) → 1 ≤ n → IfShallow n (unless_empty ts)
unless_empty_depth [] n h = tt
unless_empty_depth (t ∷ ts) n h = texts_depth (t ∷ ts) n h

-- a field whose value has no depth
pub leaf : {A : Type 0} (write : A → Data) → ((x : A) → depth (write x) ≡ 0) → (o : Option A) (n : ℕ) → IfShallow n (option_map write o)
leaf write flat None n = tt
leaf write flat (Some x) n = let e = flat x in omega arith

pub map_if : (o : Option Data) (n : ℕ) → 1 ≤ n → IfSome o (λ d. is_text_map d ≡ true) → IfShallow n o
map_if None n h is = tt
map_if (Some d) n h is = text_map_depth d n h is
