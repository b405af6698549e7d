-- What is known of the steps of a reading that gave a value.
use Rattle.std.proofs.Common.{◌≡◌, ◌^◌, ◌<◌, Bool, true, false, cond, ℕ, zero, suc, List, [], ◌∷◌, ◌++◌, take, drop, Result, Ok, Err, refl, arith, inl, inr, ◌⊎◌}
use Rattle.std.specs.Int.{w32, from_le_bytes}
use Rattle.outcomes.specs.Results.{◌>>=◌}
use Rattle.outcomes.specs.Bytes.{IsBytes}
use Rattle.thrift_values.specs.declared.fault.ThriftFault.{ThriftFault}
use Rattle.parquet_footer.specs.declared.fault.FileFault.{FileFault}
use Rattle.parquet_footer.specs.Reading.{told_as}

-- ---- steps

-- the value of a step that did not fail
pub bind_ok : {A B E : Type 0} (r : Result A E) (f : A → Result B E) (y : B) → (r >>= f) ≡ Ok y → (x : A) × (r ≡ Ok x) × (f x ≡ Ok y)
bind_ok (Ok x) f y e = (x, refl, e)
bind_ok (Err d) f y e = absurd cc

-- a reading that gave this
abbrev pub done : {A E : Type 0} → A → Result A E
done x = Ok x

pub ok_is : {A E : Type 0} (x y : A) → done {E = E} x ≡ done y → x ≡ y
ok_is x y e = cc

abbrev pub failed : {A E : Type 0} → E → Result A E
failed d = Err d

pub no_fault : {A E : Type 0} (d : E) (x : A) → failed d ≡ done x → ⊥
no_fault d x e = absurd cc

-- a test that did not fail
pub passed : {A E : Type 0} (b : Bool) (d : E) (r : Result A E) (y : A) → cond b (Err d) r ≡ Ok y → (b ≡ false) × (r ≡ Ok y)
passed true d r y e = absurd cc
passed false d r y e = (refl, e)

-- a test that held
pub held : {A E : Type 0} (b : Bool) (d : E) (x y : A) → cond b (Ok x) (Err d) ≡ Ok y → (b ≡ true) × (x ≡ y)
held true d x y e = (refl, cc)
held false d x y e = absurd cc

-- a choice, and which way it went
pub chosen : {A : Type 0} (b : Bool) (x y z : A) → cond b x y ≡ z → ((b ≡ true) × (x ≡ z)) ⊎ ((b ≡ false) × (y ≡ z))
chosen true x y z e = inl (refl, e)
chosen false x y z e = inr (refl, e)

-- readings whose faults are told as the footer's or a page's
pub told_ok : {A : Type 0} (fault : ThriftFault → FileFault) (r : Result A ThriftFault) (x : A) → told_as fault r ≡ Ok x → r ≡ Ok x
told_ok fault (Ok y) x e = cc
told_ok fault (Err d) x e = absurd cc

-- ---- parts of bytes

pub bytes_behind : (count : ℕ) (bytes : List ℕ) → IsBytes bytes → IsBytes (drop count bytes)
bytes_behind zero bytes h = h
bytes_behind (suc count) [] h = h
bytes_behind (suc count) (b ∷ bytes) h = bytes_behind count bytes (λ i. h (suc i))

pub bytes_after : (front rest : List ℕ) → IsBytes (front ++ rest) → IsBytes rest
bytes_after [] rest h = h
bytes_after (b ∷ front) rest h = bytes_after front rest (λ i. h (suc i))

pub bytes_before : (count : ℕ) (bytes : List ℕ) → IsBytes bytes → IsBytes (take count bytes)
bytes_before zero bytes h = λ i. omega arith
bytes_before (suc count) [] h = h
bytes_before (suc count) (b ∷ bytes) h = first_and b (take count bytes) (h 0) (bytes_before count bytes (λ i. h (suc i)))
  where
    first_and : (b : ℕ) (bytes : List ℕ) → b < 256 → IsBytes bytes → IsBytes (b ∷ bytes)
    first_and b bytes small h zero = small
    first_and b bytes small h (suc i) = h i

-- four bytes are a number of 32 bits
pub four_below : (bytes : List ℕ) → IsBytes bytes → from_le_bytes w32 bytes < 2 ^ 32
four_below bytes h = omega (arith, h 0, h 1, h 2, h 3)
