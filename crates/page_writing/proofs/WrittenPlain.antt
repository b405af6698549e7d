-- The sizes of values that are written in PLAIN.
use Rattle.std.proofs.Common.{◌≡◌, ◌≢◌, ℕ, zero, suc, ◌+◌, ◌/◌, ◌<◌, ◌≤◌, List, [], ◌∷◌, ◌++◌, length, drop, map, get_or, refl, sym, ap, ◌∙◌, append_assoc, add-one, arith}
use Rattle.std.specs.List.{flat_map}
use Rattle.std.proofs.lemmas.List.{length-append}
use Rattle.lake_bytes.proofs.Callers.{length-low_bytes}
use Rattle.row_core.specs.Rows.{Value}
use Rattle.page_cells.specs.Plain.{bytes_for_bits}
use Rattle.page_writing.specs.Writing.{packed_bits, plain_bytes, value_bytes}
use Rattle.page_cells.specs.declared.types.PhysicalType.{PhysicalType}
use Rattle.page_cells.specs.declared.types.PhysicalType.TheVariants.{Boolean, Int32, Int64, ByteArray}

pub bits_size : (type : PhysicalType) (values : List Value) → type ≡ Boolean
    → length (plain_bytes type values) ≡ (length values + 7) / 8
bits_size Boolean values is = length-low_bytes (bytes_for_bits (length values)) (packed_bits values)
bits_size Int32 values is = absurd cc
bits_size Int64 values is = absurd cc
bits_size ByteArray values is = absurd cc

part_within : {X : Type 0} (f : X → List ℕ) (xs : List X) (i : ℕ) (x : X) → i < length xs
    → length (f (get_or xs i x)) ≤ length (flat_map f xs)
part_within f [] i x lt = absurd (omega arith)
part_within f (first ∷ xs) zero x lt = omega (arith, length-append (f first) (flat_map f xs))
part_within f (first ∷ xs) (suc i) x lt =
    omega (arith, length-append (f first) (flat_map f xs), part_within f xs i x (omega arith))

-- a value that isn't a truth value takes no more than all of them
pub value_within : (type : PhysicalType) (values : List Value) (i : ℕ) (v : Value) → type ≢ Boolean → i < length values
    → length (value_bytes type (get_or values i v)) ≤ length (plain_bytes type values)
value_within Boolean values i v other lt = absurd (other refl)
value_within Int32 values i v other lt = part_within (value_bytes Int32) values i v lt
value_within Int64 values i v other lt = part_within (value_bytes Int64) values i v lt
value_within ByteArray values i v other lt = part_within (value_bytes ByteArray) values i v lt

-- ---- one value more

next_value : {X : Type 0} (xs : List X) (i : ℕ) (x : X) → i < length xs → get_or xs i x ≡ x
    → drop i xs ≡ x ∷ drop (suc i) xs
next_value [] i x lt same = absurd (omega arith)
next_value (first ∷ xs) zero x lt same = ap (λ y. y ∷ xs) same
next_value (first ∷ xs) (suc i) x lt same = next_value xs i x (omega arith) same

plain_value : (type : PhysicalType) (v : Value) (values : List Value) → type ≢ Boolean
    → plain_bytes type (v ∷ values) ≡ value_bytes type v ++ plain_bytes type values
plain_value Boolean v values other = absurd (other refl)
plain_value Int32 v values other = refl
plain_value Int64 v values other = refl
plain_value ByteArray v values other = refl

-- what is written, and what is left to write, is what is to be written, behind one more value
pub value_written : {X : Type 0} (type : PhysicalType) (f : X → Value) (xs : List X) (i : ℕ) (x : X)
    (old new total : List ℕ) → type ≢ Boolean → i < length xs → get_or xs i x ≡ x → new ≡ old ++ value_bytes type (f x)
    → old ++ plain_bytes type (map f (drop i xs)) ≡ total → new ++ plain_bytes type (map f (drop (i + 1) xs)) ≡ total
value_written type f xs i x old new total other lt same new_is so_far =
    let left = plain_bytes type (map f (drop (i + 1) xs)) in
    ap (λ (t : List ℕ). t ++ left) new_is ∙ append_assoc old (value_bytes type (f x)) left
    ∙ ap (λ (t : List ℕ). old ++ t) (sym (plain_value type (f x) (map f (drop (i + 1) xs)) other)
    ∙ ap (λ ys. plain_bytes type (map f ys)) (sym (next_value xs i x lt same ∙ ap (λ n. x ∷ drop n xs) (sym (add-one i)))))
    ∙ so_far
