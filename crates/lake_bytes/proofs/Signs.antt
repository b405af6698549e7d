-- Signed numbers by zigzag, and numbers of fixed width.
use Rattle.std.proofs.Common.{◌⊎◌, ◌≡◌, ℕ, ◌+◌, ◌*◌, ◌/◌, ◌%◌, ◌^◌, ◌<◌, cond, ltb, List, ◌++◌, Result, Ok, Err, refl, sym, ap, subst, ◌∙◌, arith, inl, inr, ℤ, pos, negsuc}
use Rattle.std.specs.Prelude.{IfOk, OnErr, IsErrOf, ◌↔◌}
use Rattle.std.proofs.lemmas.Bool.{lt-ltb, le-ltb, cases_lt}
use Rattle.lake_bytes.specs.Reading.{ReadingGives, id, ReadsFront, ReadsWhatStands}
use Rattle.outcomes.specs.Results.{◌>>=◌}
use Rattle.outcomes.specs.Bytes.{IsBytes}
use Rattle.lake_bytes.specs.Varint.{IsCutShort, GoesPastTen, IsTooLarge, varint_at, varint_bytes}
use Rattle.lake_bytes.specs.Zigzag.{zigzag, unzigzag, SpellsSigned, IsTooWide, signed_at}
use Rattle.lake_bytes.proofs.Varints.{varint_found, varint_stands, varint_short, short_varint, varint_too_long, too_long_varint, varint_out_of_range, out_of_range_varint}
use Rattle.lake_bytes.proofs.Groups.{SpellsNumber-varint_bytes, one_front}
use Rattle.lake_bytes.specs.declared.fault.ByteFault.{ByteFault}
use Rattle.lake_bytes.specs.declared.fault.ByteFault.TheVariants.{Short, VarintTooLong, OutOfRange}

pub unzigzag-zigzag : (z : ℤ) → unzigzag (zigzag z) ≡ z
unzigzag-zigzag (pos n) =
    let even : (2 * n) % 2 ≡ 0 = omega arith in
    let half : (2 * n) / 2 ≡ n = omega arith in
    rw (even, half) refl
unzigzag-zigzag (negsuc n) =
    let odd : (2 * n + 1) % 2 ≡ 1 = omega arith in
    let half : (2 * n + 1) / 2 ≡ n = omega arith in
    rw (odd, half) refl

pub zigzag-unzigzag : (n : ℕ) → zigzag (unzigzag n) ≡ n
zigzag-unzigzag n =
    elim (cases_lt (n % 2) 1) [
      | inl lt ↦ let even : n % 2 ≡ 0 = omega arith in rw even (omega arith)
      | inr le ↦ let odd : n % 2 ≡ 1 = omega arith in rw odd (omega arith)
    ]

abbrev done : ℤ → List ℕ → Result (ℤ × List ℕ) ByteFault
done z rest = Ok (z, rest)

abbrev failed : ByteFault → Result (ℤ × List ℕ) ByteFault
failed fault = Err fault

abbrev varint_failed : ByteFault → Result (ℕ × List ℕ) ByteFault
varint_failed fault = Err fault

abbrev number : ℕ → List ℕ → Result (ℕ × List ℕ) ByteFault
number n rest = Ok (n, rest)

-- what a varint reads as, as a signed number
abbrev ranged : ℕ → Result (ℕ × List ℕ) ByteFault → Result (ℤ × List ℕ) ByteFault
ranged width read = read >>= λ x. cond (ltb x.0 (2 ^ width)) (Ok (unzigzag x.0, x.1)) (Err OutOfRange)

record Found (width : ℕ) (read : Result (ℕ × List ℕ) ByteFault) (z : ℤ) (rest : List ℕ) : Type 0 where
  pub is : read ≡ number (zigzag z) rest
  pub fits : zigzag z < 2 ^ width

found : (width : ℕ) (read : Result (ℕ × List ℕ) ByteFault) (z : ℤ) (rest : List ℕ) → ranged width read ≡ done z rest → Found width read z rest
found width (Err e) z rest h = let bad : failed e ≡ done z rest = h in absurd cc
found width (Ok x) z rest h =
    elim (cases_lt x.0 (2 ^ width)) [
      | inl lt ↦
          let same : done (unzigzag x.0) x.1 ≡ done z rest = rw (lt-ltb x.0 (2 ^ width) lt) at h in
          let parts : (unzigzag x.0, x.1) ≡ (z, rest) = cc in
          let value : unzigzag x.0 ≡ z = ap (λ (p : ℤ × List ℕ). p.0) parts in
          let left : x.1 ≡ rest = ap (λ (p : ℤ × List ℕ). p.1) parts in
          let zig : x.0 ≡ zigzag z = sym (zigzag-unzigzag x.0) ∙ ap zigzag value in
          let is : number x.0 x.1 ≡ number (zigzag z) rest = rw (zig, left) refl in
          record { is = is; fits = subst (λ (k : ℕ). k < 2 ^ width) zig lt }
      | inr le ↦ let bad : failed OutOfRange ≡ done z rest = rw (le-ltb x.0 (2 ^ width) le) at h in absurd cc
    ]

pub signed_found : (width : ℕ) (bytes : List ℕ) (z : ℤ) (rest : List ℕ) → IsBytes bytes → signed_at width bytes ≡ done z rest → ReadsFront (SpellsSigned width) bytes z rest
unfolding signed_at
signed_found width bytes z rest fits h =
    let f = found width (varint_at bytes) z rest h in
    let r = varint_found bytes (zigzag z) rest fits f.is in
    record { front = r.front; spelled = record { number = r.spelled; fits = f.fits }; split = r.split }

pub signed_stands : (width : ℕ) (front rest : List ℕ) (z : ℤ) → SpellsSigned width front z → signed_at width (front ++ rest) ≡ done z rest
unfolding signed_at
signed_stands width front rest z s =
    let is : ranged width (number (zigzag z) rest) ≡ done z rest = rw (lt-ltb (zigzag z) (2 ^ width) s.fits, unzigzag-zigzag z) refl in
    ap (ranged width) (varint_stands front rest (zigzag z) s.number) ∙ is

-- ---- faults

-- a fault other than a number too wide stands in the varint
inside : (width : ℕ) (read : Result (ℕ × List ℕ) ByteFault) (e : ByteFault) → (OutOfRange ≡ e → ⊥) → ranged width read ≡ failed e → read ≡ varint_failed e
inside width (Err d) e apart h = let same : failed d ≡ failed e = h in cc
inside width (Ok x) e apart h =
    elim (cases_lt x.0 (2 ^ width)) [
      | inl lt ↦ let bad : done (unzigzag x.0) x.1 ≡ failed e = rw (lt-ltb x.0 (2 ^ width) lt) at h in absurd cc
      | inr le ↦ let bad : failed OutOfRange ≡ failed e = rw (le-ltb x.0 (2 ^ width) le) at h in absurd (apart cc)
    ]

-- out of range: the varint's number, or that it is too wide
outside : (width : ℕ) (bytes : List ℕ) → IsBytes bytes → (read : Result (ℕ × List ℕ) ByteFault) → varint_at bytes ≡ read → ranged width read ≡ failed OutOfRange → IsTooLarge bytes ⊎ IsTooWide width bytes
outside width bytes fits (Err d) is h =
    let same : failed d ≡ failed OutOfRange = h in
    let fault : d ≡ OutOfRange = cc in
    inl (varint_out_of_range bytes fits (is ∙ ap varint_failed fault))
outside width bytes fits (Ok x) is h =
    elim (cases_lt x.0 (2 ^ width)) [
      | inl lt ↦ let bad : done (unzigzag x.0) x.1 ≡ failed OutOfRange = rw (lt-ltb x.0 (2 ^ width) lt) at h in absurd cc
      | inr le ↦
          let r = varint_found bytes x.0 x.1 fits is in
          inr (record { front = r.front; rest = x.1; number = x.0; spelled = r.spelled; past = le; split = r.split })
    ]

too_wide : (width : ℕ) (bytes : List ℕ) → IsTooWide width bytes → signed_at width bytes ≡ failed OutOfRange
unfolding signed_at
too_wide width bytes s =
    let reads : varint_at bytes ≡ number s.number s.rest = ap varint_at s.split ∙ varint_stands s.front s.rest s.number s.spelled in
    let is : ranged width (number s.number s.rest) ≡ failed OutOfRange = rw (le-ltb s.number (2 ^ width) s.past) refl in
    ap (ranged width) reads ∙ is

passed_on : (width : ℕ) (bytes : List ℕ) (e : ByteFault) → varint_at bytes ≡ varint_failed e → signed_at width bytes ≡ failed e
unfolding signed_at
passed_on width bytes e h = ap (ranged width) h

-- what a reading of a signed number tells
pub record Tells (width : ℕ) (old : List ℕ) (r : Result ℤ ByteFault) (new : List ℕ) : Type 0 where
  pub read : IfOk r (λ z. ReadsFront (SpellsSigned width) old z new)
  pub whatever_stands : ReadsWhatStands (SpellsSigned width) old r new
  pub short : IsErrOf r Short ↔ IsCutShort old
  pub too_long : IsErrOf r VarintTooLong ↔ GoesPastTen old
  pub out_of_range : IsErrOf r OutOfRange ↔ (IsTooLarge old ⊎ IsTooWide width old)
  pub unchanged : OnErr r (new ≡ old)

abbrev value : ℤ → Result ℤ ByteFault
value z = Ok z

abbrev fault : ByteFault → Result ℤ ByteFault
fault e = Err e

same_ok : (old : List ℕ) (width : ℕ) (m n : ℤ) (x y : List ℕ) → signed_at width old ≡ done m x → signed_at width old ≡ done n y → (value m ≡ value n) × (x ≡ y)
same_ok old width m n x y a b =
    let both : done m x ≡ done n y = sym a ∙ b in
    let parts : (m, x) ≡ (n, y) = cc in
    (ap (λ (p : ℤ × List ℕ). value p.0) parts, ap (λ (p : ℤ × List ℕ). p.1) parts)

never_both : (old : List ℕ) (width : ℕ) (m : ℤ) (x : List ℕ) (e : ByteFault) → signed_at width old ≡ done m x → signed_at width old ≡ failed e → ⊥
never_both old width m x e a b = let p : done m x ≡ failed e = sym a ∙ b in cc

-- the answer is a fault exactly where reading gives it
tells_fault : (width : ℕ) (old : List ℕ) (r : Result ℤ ByteFault) (new : List ℕ) (e : ByteFault) → ReadingGives id (signed_at width old) old r new → (IsErrOf r e → signed_at width old ≡ failed e) × (signed_at width old ≡ failed e → IsErrOf r e)
tells_fault width old (Ok z) new e h = (λ is. let bad : value z ≡ fault e = is in absurd cc, λ is. absurd (never_both old width z new e h is))
tells_fault width old (Err d) new e h = (
  λ is. let same : fault d ≡ fault e = is in let one : d ≡ e = cc in h.0 ∙ ap failed one,
  λ is. let same : failed d ≡ failed e = sym h.0 ∙ is in let one : d ≡ e = cc in ap fault one,
)

apart_short : OutOfRange ≡ Short → ⊥
apart_short e = cc

apart_long : OutOfRange ≡ VarintTooLong → ⊥
apart_long e = cc

varint_of : (width : ℕ) (bytes : List ℕ) (e : ByteFault) → (OutOfRange ≡ e → ⊥) → signed_at width bytes ≡ failed e → varint_at bytes ≡ varint_failed e
unfolding signed_at
varint_of width bytes e apart h = inside width (varint_at bytes) e apart h

outside_of : (width : ℕ) (bytes : List ℕ) → IsBytes bytes → signed_at width bytes ≡ failed OutOfRange → IsTooLarge bytes ⊎ IsTooWide width bytes
unfolding signed_at
outside_of width bytes fits h = outside width bytes fits (varint_at bytes) refl h

found_and_stands : (width : ℕ) (old : List ℕ) (r : Result ℤ ByteFault) (new : List ℕ) → IsBytes old → ReadingGives id (signed_at width old) old r new
    → IfOk r (λ z. ReadsFront (SpellsSigned width) old z new) × ReadsWhatStands (SpellsSigned width) old r new × OnErr r (new ≡ old)
found_and_stands width old (Ok z) new fits h = (
  signed_found width old z new fits h,
  λ front rest y spells split. same_ok old width z y new rest h (ap (signed_at width) split ∙ signed_stands width front rest y spells),
  tt,
)
found_and_stands width old (Err e) new fits h =
    (tt, λ front rest y spells split. absurd (never_both old width y rest e (ap (signed_at width) split ∙ signed_stands width front rest y spells) h.0), h.1)

pub signed_tells : (width : ℕ) (old : List ℕ) (r : Result ℤ ByteFault) (new : List ℕ) → IsBytes old → ReadingGives id (signed_at width old) old r new → Tells width old r new
signed_tells width old r new fits h =
    let main = found_and_stands width old r new fits h in
    let short_is = tells_fault width old r new Short h in
    let long_is = tells_fault width old r new VarintTooLong h in
    let range_is = tells_fault width old r new OutOfRange h in
    record {
      read = main.0;
      whatever_stands = main.1;
      short = (λ e. varint_short old fits (varint_of width old Short apart_short (short_is.0 e)), λ s. short_is.1 (passed_on width old Short (short_varint old s)));
      too_long = (λ e. varint_too_long old fits (varint_of width old VarintTooLong apart_long (long_is.0 e)), λ s. long_is.1 (passed_on width old VarintTooLong (too_long_varint old s)));
      out_of_range = (λ e. outside_of width old fits (range_is.0 e), λ s. range_is.1 (past s));
      unchanged = main.2;
    }
  where
    past : IsTooLarge old ⊎ IsTooWide width old → signed_at width old ≡ failed OutOfRange
    past (inl s) = passed_on width old OutOfRange (out_of_range_varint old s)
    past (inr s) = too_wide width old s

-- no spelling of a signed number begins another
pub one_signed_front : (width : ℕ) (a b x y : List ℕ) (m n : ℤ) → SpellsSigned width a m → SpellsSigned width b n → a ++ x ≡ b ++ y → (a ≡ b) × (x ≡ y) × (m ≡ n)
one_signed_front width a b x y m n v w e =
    let one = one_front a b x y (zigzag m) (zigzag n) v.number.varint w.number.varint e in
    (one.0, one.1, sym (unzigzag-zigzag m) ∙ ap unzigzag one.2 ∙ unzigzag-zigzag n)

pub written_again : (width : ℕ) (z : ℤ) (rest : List ℕ) → zigzag z < 2 ^ 64 → zigzag z < 2 ^ width → signed_at width (varint_bytes (zigzag z) ++ rest) ≡ done z rest
written_again width z rest small fits = signed_stands width (varint_bytes (zigzag z)) rest z (record { number = SpellsNumber-varint_bytes (zigzag z) small; fits = fits })
