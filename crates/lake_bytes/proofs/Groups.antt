-- The groups of seven bits that a number is written in.
use Rattle.std.proofs.Common.{◌≡◌, ℕ, zero, suc, ◌+◌, ◌-◌, ◌*◌, ◌/◌, ◌%◌, ◌^◌, ◌<◌, ◌≤◌, List, [], ◌∷◌, ◌++◌, length, Result, Ok, Err, refl, sym, ap, ◌∙◌, append_assoc, arith, inl, inr}
use Rattle.std.specs.Prelude.{OnOk}
use Rattle.std.proofs.lemmas.Bool.{lt-ltb, le-ltb, cases_lt}
use Rattle.lake_bytes.specs.Varint.{IsVarint, SpellsNumber, groups_of, varint_bytes}

pub last_group : (most n : ℕ) → 0 < most → n < 128 → groups_of most n ≡ n ∷ []
unfolding groups_of
last_group zero n some lt = absurd (omega arith)
last_group (suc most) n some lt = rw (lt-ltb n 128 lt) refl

-- what is left for the groups behind the first
pub record GoesOn (most n : ℕ) : Type 0 where
  pub some : 0 < most - 1
  pub fits : n / 128 < 128 ^ (most - 1)
  pub groups : groups_of most n ≡ (128 + n % 128) ∷ groups_of (most - 1) (n / 128)

power : (most n : ℕ) → n < 128 ^ suc most → n < 128 * 128 ^ most
power most n h = omega arith

pub goes_on : (most n : ℕ) → 128 ≤ n → n < 128 ^ most → GoesOn most n
unfolding groups_of
goes_on zero n big fits = absurd (omega arith)
goes_on (suc zero) n big fits = absurd (omega arith)
goes_on (suc (suc most)) n big fits =
    let wide : n < 128 * 128 ^ suc most = power (suc most) n fits in
    let one : suc (suc most) - 1 ≡ suc most = omega arith in
    record {
      some = omega arith;
      fits = rw one (omega arith);
      groups = rw (le-ltb n 128 big, one) refl;
    }

pub regroup : {E : Type 0} (r : Result Unit E) (new old : List ℕ) (b : ℕ) (groups whole : List ℕ) → whole ≡ b ∷ groups → OnOk r (new ≡ (old ++ b ∷ []) ++ groups) → OnOk r (new ≡ old ++ whole)
regroup (Ok x) new old b groups whole is h = h ∙ append_assoc old (b ∷ []) groups ∙ ap (λ (t : List ℕ). old ++ t) (sym is)
regroup (Err e) new old b groups whole is h = tt

-- no varint begins another
pub one_front : (a b x y : List ℕ) (m n : ℕ) → IsVarint a m → IsVarint b n → a ++ x ≡ b ++ y → (a ≡ b) × (x ≡ y) × (m ≡ n)
one_front [] b x y m n v w e = absurd v
one_front (c ∷ a) [] x y m n v w e = absurd w
one_front (c ∷ []) (d ∷ []) x y m n v w e =
    let heads : c ≡ d = cc in
    let tails : x ≡ y = cc in
    (ap (λ (k : ℕ). k ∷ []) heads, tails, v.1 ∙ heads ∙ sym w.1)
one_front (c ∷ []) (d ∷ e ∷ b) x y m n v w h =
    let heads : c ≡ d = cc in
    absurd (omega (arith, v.0, w.0))
one_front (c ∷ d ∷ a) (e ∷ []) x y m n v w h =
    let heads : c ≡ e = cc in
    absurd (omega (arith, v.0, w.0))
one_front (c ∷ d ∷ a) (e ∷ f ∷ b) x y m n v w h =
    let heads : c ≡ e = cc in
    let tails : (d ∷ a) ++ x ≡ (f ∷ b) ++ y = cc in
    let rest = one_front (d ∷ a) (f ∷ b) x y v.2 w.2 v.3 w.3 tails in
    let fronts : (c ∷ d ∷ a) ≡ (e ∷ f ∷ b) = rw (heads, rest.0) refl in
    (fronts, rest.1, omega (arith, v.4, w.4, rest.2))

-- ---- the written form

with_first : (n : ℕ) (bytes : List ℕ) → 128 ≤ n → IsVarint bytes (n / 128) → IsVarint ((128 + n % 128) ∷ bytes) n
with_first n [] le v = absurd v
with_first n (b ∷ bytes) le v = (omega arith, omega arith, n / 128, v, omega arith)

groups_behind : (most n : ℕ) → 128 ≤ n → GoesOn (suc most) n → (0 < most → n / 128 < 128 ^ most → IsVarint (groups_of most (n / 128)) (n / 128)) → IsVarint (groups_of (suc most) n) n
groups_behind most n le on behind =
    let one : suc most - 1 ≡ most = omega arith in
    let groups : groups_of (suc most) n ≡ (128 + n % 128) ∷ groups_of most (n / 128) = on.groups ∙ rw one refl in
    let left : n / 128 < 128 ^ most = rw one at on.fits in
    let more : 0 < most = omega (arith, on.some) in
    rw groups (with_first n (groups_of most (n / 128)) le (behind more left))

IsVarint-groups_of : (most n : ℕ) → 0 < most → n < 128 ^ most → IsVarint (groups_of most n) n
IsVarint-groups_of zero n some fits = absurd (omega arith)
IsVarint-groups_of (suc most) n some fits =
    elim (cases_lt n 128) [
      | inl lt ↦ rw (last_group (suc most) n some lt) (lt, refl)
      | inr le ↦ groups_behind most n le (goes_on (suc most) n le fits) (λ more left. IsVarint-groups_of most (n / 128) more left)
    ]

-- a number in k bytes is below 128 ^ k
raise : (m n : ℕ) → n < 128 * 128 ^ m → n < 128 ^ suc m
raise m n h = omega arith

below_power : (bytes : List ℕ) (n : ℕ) → IsVarint bytes n → n < 128 ^ length bytes
below_power [] n v = absurd v
below_power (b ∷ []) n v = omega (arith, v.0, v.1)
below_power (b ∷ c ∷ bytes) n v =
    let high = below_power (c ∷ bytes) v.2 v.3 in
    let wide : n < 128 * 128 ^ length (c ∷ bytes) = omega (arith, v.0, v.1, v.4, high) in
    raise (length (c ∷ bytes)) n wide

fewer_behind : (most k n : ℕ) → GoesOn most n → GoesOn (suc k) n → (0 < k → n / 128 < 128 ^ k → length (groups_of (most - 1) (n / 128)) ≤ k) → length (groups_of most n) ≤ suc k
fewer_behind most k n on short behind =
    let one : suc k - 1 ≡ k = omega arith in
    let left : n / 128 < 128 ^ k = rw one at short.fits in
    let some_left : 0 < k = omega (arith, short.some) in
    let shorter = behind some_left left in
    rw on.groups (omega (arith, shorter))

-- as few groups as there are
length-groups_of : (most k n : ℕ) → 0 < most → 0 < k → n < 128 ^ most → n < 128 ^ k → length (groups_of most n) ≤ k
length-groups_of most zero n some any fits below = absurd (omega arith)
length-groups_of most (suc k) n some any fits below =
    elim (cases_lt n 128) [
      | inl lt ↦ rw (last_group most n some lt) (omega arith)
      | inr le ↦ after le (goes_on most n le fits) (λ on more left. length-groups_of (most - 1) k (n / 128) on.some more on.fits left)
    ]
  where
    after : 128 ≤ n → GoesOn most n → (GoesOn most n → 0 < k → n / 128 < 128 ^ k → length (groups_of (most - 1) (n / 128)) ≤ k) → length (groups_of most n) ≤ suc k
    after le on behind = fewer_behind most k n on (goes_on (suc k) n le below) (behind on)

pub SpellsNumber-varint_bytes : (n : ℕ) → n < 2 ^ 64 → SpellsNumber (varint_bytes n) n
unfolding varint_bytes
SpellsNumber-varint_bytes n fits = record {
  varint = IsVarint-groups_of 10 n (omega arith) (omega arith);
  within_ten = length-groups_of 10 10 n (omega arith) (omega arith) (omega arith) (omega arith);
  in_range = fits;
}

pub varint_bytes-shortest : (n : ℕ) (other : List ℕ) → n < 2 ^ 64 → IsVarint other n → length (varint_bytes n) ≤ length other
unfolding varint_bytes
varint_bytes-shortest n [] fits v = absurd v
varint_bytes-shortest n (b ∷ other) fits v = length-groups_of 10 (length (b ∷ other)) n (omega arith) (omega arith) (omega arith) (below_power (b ∷ other) n v)
