-- Truth values as bits of bytes, eight a byte.
use Rattle.std.proofs.Common.{◌≡◌, ℕ, zero, suc, ◌+◌, ◌-◌, ◌*◌, ◌/◌, ◌%◌, ◌^◌, ◌<◌, ◌≤◌, true, false, List, [], ◌∷◌, ◌++◌, length, take, drop, refl, sym, ap, ◌∙◌, arith, append_assoc, append-nil, drop-drop, map, min}
use Rattle.std.proofs.lemmas.List.{drop-map, length-drop, take-map, take_min}
use Rattle.std.proofs.Math.Nat.{pow-suc}
use Rattle.std.proofs.lemmas.Nat.{pow_pos}
use Rattle.lake_bytes.specs.Hybrid.{low_bytes}
use Rattle.row_core.specs.Rows.{Value, null, truth, whole, text, bytes, structure}
use Rattle.page_writing.specs.Writing.{bit_of, packed_bits}

pub one_bit : (v : Value) → bit_of v ≤ 1
one_bit null = omega arith
one_bit (truth true) = omega arith
one_bit (truth false) = omega arith
one_bit (whole z) = omega arith
one_bit (text s) = omega arith
one_bit (bytes s) = omega arith
one_bit (structure vs) = omega arith

pub packed_bits-split : (n : ℕ) (vs : List Value)
    → packed_bits vs ≡ packed_bits (take n vs) + 2 ^ n * packed_bits (drop n vs)
packed_bits-split zero vs = omega arith
packed_bits-split (suc n) [] = omega arith
packed_bits-split (suc n) (v ∷ vs) =
    let others = packed_bits-split n vs in
    rw (pow-suc 2 n) (omega arith)

pub packed_bits-below : (n : ℕ) (vs : List Value) → packed_bits (take n vs) < 2 ^ n
packed_bits-below zero vs = omega arith
packed_bits-below (suc n) [] = pow_pos (suc n)
packed_bits-below (suc n) (v ∷ vs) =
    let one = one_bit v in
    let others = packed_bits-below n vs in
    rw (pow-suc 2 n) (omega arith)

-- the first byte of so many
first_byte : (count : ℕ) (vs : List Value)
    → low_bytes (suc count) (packed_bits vs) ≡ packed_bits (take 8 vs) ∷ low_bytes count (packed_bits (drop 8 vs))
unfolding low_bytes
first_byte count vs =
    let split = packed_bits-split 8 vs in
    let below = packed_bits-below 8 vs in
    let low : packed_bits vs % 256 ≡ packed_bits (take 8 vs) = omega arith in
    let high : packed_bits vs / 256 ≡ packed_bits (drop 8 vs) = omega arith in
    rw (low, high) refl

-- one byte is written, and the bytes of the values behind it are left
pub bits_written : (count index : ℕ) (values : List Value) (byte : ℕ) (old new total : List ℕ) → index < count
    → byte ≡ packed_bits (take 8 (drop (8 * index) values)) → new ≡ old ++ byte ∷ []
    → old ++ low_bytes (count - index) (packed_bits (drop (8 * index) values)) ≡ total
    → new ++ low_bytes (count - (index + 1)) (packed_bits (drop (8 * (index + 1)) values)) ≡ total
bits_written count index values byte old new total lt is new_is so_far =
    let left = low_bytes (count - (index + 1)) (packed_bits (drop (8 * (index + 1)) values)) in
    let more : count - index ≡ suc (count - (index + 1)) = omega arith in
    let eight : 8 * index + 8 ≡ 8 * (index + 1) = omega arith in
    let behind : drop 8 (drop (8 * index) values) ≡ drop (8 * (index + 1)) values = drop-drop 8 (8 * index) values
    ∙ ap (λ (n : ℕ). drop n values) eight in
    let first : low_bytes (count - index) (packed_bits (drop (8 * index) values)) ≡ byte ∷ left =
    ap (λ (n : ℕ). low_bytes n (packed_bits (drop (8 * index) values))) more
    ∙ first_byte (count - (index + 1)) (drop (8 * index) values) ∙ rw (is, behind) refl in
    ap (λ (t : List ℕ). t ++ left) new_is ∙ append_assoc old (byte ∷ []) left
    ∙ ap (λ (t : List ℕ). old ++ t) (sym first)
    ∙ so_far

pub no_bits_left : (count number : ℕ) (old total : List ℕ) → count ≡ 0 → old ++ low_bytes count number ≡ total
    → old ≡ total
unfolding low_bytes
no_bits_left count number old total none h =
    sym (append-nil old) ∙ ap (λ (n : ℕ). old ++ low_bytes n number) (sym none) ∙ h

-- the values of a byte, cut out of more
pub eight_values : {X : Type 0} (f : X → Value) (xs : List X) (start end : ℕ) → end ≡ min (length xs) (start + 8)
    → packed_bits (map f (take (end - start) (drop start xs))) ≡ packed_bits (take 8 (drop start (map f xs)))
eight_values {X} f xs start end is =
    let few : end - start ≡ min 8 (length (drop start xs)) = omega (arith, length-drop start xs) in
    let cut : take (end - start) (drop start xs) ≡ take 8 (drop start xs) =
    ap (λ (n : ℕ). take n (drop start xs)) few ∙ take_min 8 (drop start xs) in
    ap (λ (t : List X). packed_bits (map f t)) cut
    ∙ ap packed_bits (sym (take-map f 8 (drop start xs)) ∙ ap (take 8) (sym (drop-map f start xs)))
