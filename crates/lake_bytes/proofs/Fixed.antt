-- Numbers of fixed width, written and read again.
use Rattle.std.proofs.Common.{◌≡◌, ℕ, ◌^◌, ◌<◌, ◌++◌, false, ltb, List, length, Ok, refl, arith, ℤ, pos, negsuc}
use Rattle.std.specs.Int.{Width, w32, w64, byte_len, from_le_bytes, to_le_bytes, cast_unsigned}
use Rattle.std.specs.Prelude.{FitsSigned}
use Rattle.std.proofs.lemmas.Bool.{le-ltb}
use Rattle.std.proofs.lemmas.List.{take_at, drop_at, length-append}
use Rattle.std.proofs.lemmas.Nat.{from_le_bytes-to_le_bytes_4, from_le_bytes-to_le_bytes_8}
use Rattle.std.proofs.lemmas.Int.{to_z-of_z}
use Rattle.lake_bytes.specs.LittleEndian.{little_at, signed_little_at}

-- the bytes of a number are as many as its width has, and give the number back
pub record Returns (w : Width) (n : ℕ) : Type 0 where
  pub len : length (to_le_bytes w n) ≡ byte_len w
  pub again : from_le_bytes w (to_le_bytes w n) ≡ n

pub four : (n : ℕ) → n < 2 ^ 32 → Returns w32 n
four n fits = record { len = refl; again = from_le_bytes-to_le_bytes_4 n fits }

pub eight : (n : ℕ) → n < 2 ^ 64 → Returns w64 n
eight n fits = record { len = refl; again = from_le_bytes-to_le_bytes_8 n fits }

pub little_again : (w : Width) (n : ℕ) (rest : List ℕ) → Returns w n → little_at w (to_le_bytes w n ++ rest) ≡ Ok (n, rest)
unfolding little_at
little_again w n rest r =
    let long : ltb (length (to_le_bytes w n ++ rest)) (byte_len w) ≡ false = le-ltb _ _ (omega (arith, r.len, length-append (to_le_bytes w n) rest)) in
    rw (long, take_at (to_le_bytes w n) rest (byte_len w) r.len, drop_at (to_le_bytes w n) rest (byte_len w) r.len, r.again) refl

pub signed_little_again : (w : Width) (z : ℤ) (rest : List ℕ) → FitsSigned w z → Returns w (cast_unsigned w z) → signed_little_at w (to_le_bytes w (cast_unsigned w z) ++ rest) ≡ Ok (z, rest)
unfolding signed_little_at
signed_little_again w z rest fits r = rw (little_again w (cast_unsigned w z) rest r, to_z-of_z) refl

-- two's complement has as many bits as the width
pub below_32 : (z : ℤ) → FitsSigned w32 z → cast_unsigned w32 z < 2 ^ 32
below_32 (pos n) h = omega arith
below_32 (negsuc n) h = omega arith

pub below_64 : (z : ℤ) → FitsSigned w64 z → cast_unsigned w64 z < 2 ^ 64
below_64 (pos n) h = omega arith
below_64 (negsuc n) h = omega arith
