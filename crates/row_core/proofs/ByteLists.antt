-- Lists whose items are bytes.
use Rattle.std.proofs.Common.{◌≡◌, ℕ, zero, suc, List, [], ◌∷◌, true, Fits, w8, get_or, refl, arith}
use Rattle.std.specs.List.{list_all}
use Rattle.std.proofs.lemmas.Bool.{lt-ltb, ltb-true, and_parts}
use Rattle.hex.specs.Hex.{IsBytes}
use Rattle.row_core.specs.Conforms.{is_byte}

pub all_bytes : (xs : List ℕ) → IsBytes xs → list_all is_byte xs ≡ true
all_bytes [] h = refl
all_bytes (x ∷ xs) h = rw (lt-ltb x 256 (h 0)) (all_bytes xs (λ i. h (suc i)))

pub bytes_all : (xs : List ℕ) → list_all is_byte xs ≡ true → IsBytes xs
bytes_all [] h i = omega arith
bytes_all (x ∷ xs) h zero = ltb-true x 256 (and_parts (is_byte x) (list_all is_byte xs) h).0
bytes_all (x ∷ xs) h (suc i) = bytes_all xs (and_parts (is_byte x) (list_all is_byte xs) h).1 i

pub fit_bytes : (xs : List ℕ) → ((i : ℕ) → Fits w8 (get_or xs i 0)) → IsBytes xs
fit_bytes xs h i = let fits : Fits w8 (get_or xs i 0) = h i in omega arith
