-- Bits that are taken from bytes, as numbers.
use Rattle.std.proofs.Common.{◌≡◌, ℕ, zero, suc, ◌+◌, ◌-◌, ◌*◌, ◌/◌, ◌%◌, ◌^◌, ◌<◌, ◌≤◌, ◌⊎◌, inl, inr, List, [], ◌∷◌, ◌++◌, min, replicate, take, refl, sym, ap, subst, ◌∙◌, arith, append_assoc, append-nil}
use Rattle.std.proofs.Math.Nat.{add-mul-mod_self_left, add-mul-div_left, mul-le-mul_right, pow-le-pow_right, div-eq_of_lt}
use Rattle.std.proofs.lemmas.Nat.{pow-add, pow_pos, shr_below}
use Rattle.std.proofs.lemmas.Bool.{cases_lt}
use Rattle.lake_bytes.specs.Hybrid.{unpacked}

-- a byte that is taken counts above the bits that are held
pub byte_taken : (buffer held byte low : ℕ)
    → (buffer + byte * 2 ^ held) + 2 ^ (held + 8) * low ≡ buffer + 2 ^ held * (byte + 256 * low)
byte_taken buffer held byte low = rw (pow-add 2 held 8) (omega arith)

pub byte_fits : (buffer held byte : ℕ) → buffer < 2 ^ held → byte < 256 → buffer + byte * 2 ^ held < 2 ^ (held + 8)
byte_fits buffer held byte lt small =
    let most : byte * 2 ^ held ≤ 255 * 2 ^ held = mul-le-mul_right {m = byte} {n = 255} (2 ^ held) (omega arith) in
    rw (pow-add 2 held 8) (omega arith)

-- so many bits given: the value, and what is left
pub record Given (width held buffer low : ℕ) : Type 0 where
  pub value : buffer % 2 ^ width ≡ (buffer + 2 ^ held * low) % 2 ^ width
  pub left : buffer / 2 ^ width + 2 ^ (held - width) * low ≡ (buffer + 2 ^ held * low) / 2 ^ width
  pub fits : buffer / 2 ^ width < 2 ^ (held - width)

fewer : (width held buffer : ℕ) → buffer < 2 ^ held → buffer / 2 ^ width < 2 ^ (held - width)
fewer width held buffer lt =
    elim (cases_lt held width) [
      | inl past ↦
          let less : 2 ^ held ≤ 2 ^ width =
          pow-le-pow_right {n = 2} (omega arith) {i = held} {j = width} (omega arith) in
          let gone : held - width ≡ 0 = omega arith in
          let below : buffer < 2 ^ width = omega arith in
          rw (div-eq_of_lt {n = buffer} {m = 2 ^ width} below, gone) (omega arith)
      | inr within ↦
          let swapped : held ≡ (held - width) + width = omega arith in
          shr_below buffer (held - width) width (subst (λ (k : ℕ). buffer < 2 ^ k) swapped lt)
    ]

-- enough are held, or nothing stands behind them
pub given : (width held buffer low : ℕ) → buffer < 2 ^ held → (width ≤ held) ⊎ (low ≡ 0) → Given width held buffer low
given width held buffer low lt (inl enough) =
    let split : held ≡ width + (held - width) = omega arith in
    let power : 2 ^ held ≡ 2 ^ width * 2 ^ (held - width) = ap (λ (k : ℕ). 2 ^ k) split
    ∙ pow-add 2 width (held - width) in
    let above : 2 ^ held * low ≡ 2 ^ width * (2 ^ (held - width) * low) = rw power (omega arith) in
    record {
      value = rw above (sym (add-mul-mod_self_left buffer (2 ^ width) (2 ^ (held - width) * low)));
      left = rw above (sym (add-mul-div_left buffer (2 ^ (held - width) * low) (pow_pos width)));
      fits = fewer width held buffer lt;
    }
given width held buffer low lt (inr none) =
    let nothing : buffer + 2 ^ held * low ≡ buffer = rw none (omega arith) in
    record {
      value = rw nothing refl;
      left = rw (nothing, none) (omega arith);
      fits = fewer width held buffer lt;
    }

-- ---- values

-- values of no bits are zeros
pub unpacked-none : (count number : ℕ) → unpacked 0 count number ≡ replicate count 0
unfolding unpacked
unpacked-none zero number = refl
unpacked-none (suc count) number =
    let none : number % 2 ^ 0 ≡ 0 = omega arith in
    rw (none, unpacked-none count (number / 2 ^ 0)) refl

-- the first values of more
pub take-unpacked : (width wanted more number : ℕ)
    → take wanted (unpacked width more number) ≡ unpacked width (min wanted more) number
unfolding unpacked
take-unpacked width zero more number =
    let none : min 0 more ≡ 0 = omega arith in
    rw none refl
take-unpacked width (suc wanted) zero number =
    let none : min (suc wanted) 0 ≡ 0 = omega arith in
    rw none refl
take-unpacked width (suc wanted) (suc more) number =
    let one : min (suc wanted) (suc more) ≡ suc (min wanted more) = omega arith in
    rw one (ap (λ (t : List ℕ). number % 2 ^ width ∷ t) (take-unpacked width wanted more (number / 2 ^ width)))

pub take-replicate : {A : Type 0} (wanted count : ℕ) (x : A)
    → take wanted (replicate count x) ≡ replicate (min wanted count) x
take-replicate zero count x =
    let none : min 0 count ≡ 0 = omega arith in
    rw none refl
take-replicate (suc wanted) zero x =
    let none : min (suc wanted) 0 ≡ 0 = omega arith in
    rw none refl
take-replicate {A} (suc wanted) (suc count) x =
    let one : min (suc wanted) (suc count) ≡ suc (min wanted count) = omega arith in
    rw one (ap (λ (t : List A). x ∷ t) (take-replicate wanted count x))

-- ---- bytes

pub three_bytes : (count : ℕ) → count ≤ 3 → 256 ^ count ≤ 256 ^ 3
three_bytes count few = pow-le-pow_right {n = 256} (omega arith) {i = count} {j = 3} few

-- ---- values one by one

-- one value is given, and the others are left
pub value_given : (width count index number value left : ℕ) (old new whole : List ℕ) → index < count
    → old ++ unpacked width (count - index) number ≡ whole → new ≡ old ++ replicate 1 value
    → value ≡ number % 2 ^ width → left ≡ number / 2 ^ width → new ++ unpacked width (count - (index + 1)) left ≡ whole
unfolding unpacked
value_given width count index number value left old new whole lt so_far new_is value_is left_is =
    let more : count - index ≡ suc (count - (index + 1)) = omega arith in
    let first : unpacked width (count - index) number ≡ value ∷ unpacked width (count - (index + 1)) left =
    rw (more, value_is, left_is) refl in
    ap (λ (t : List ℕ). t ++ unpacked width (count - (index + 1)) left) new_is
    ∙ append_assoc old (value ∷ []) (unpacked width (count - (index + 1)) left)
    ∙ ap (λ (t : List ℕ). old ++ t) (sym first) ∙ so_far

pub values_given : (width left number : ℕ) (old whole : List ℕ) → left ≡ 0 → old ++ unpacked width left number ≡ whole
    → old ≡ whole
unfolding unpacked
values_given width left number old whole none h = sym (append-nil old)
    ∙ ap (λ (n : ℕ). old ++ unpacked width n number) (sym none) ∙ h
