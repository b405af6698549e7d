-- Reading a varint from the left, and the spellings: each reading has a spelling, and each spelling is read.
use Rattle.std.proofs.Common.{◌≡◌, ℕ, zero, suc, ◌+◌, ◌-◌, ◌*◌, ◌^◌, ◌<◌, ◌≤◌, cond, ltb, List, [], ◌∷◌, ◌++◌, length, take, Result, Ok, Err, refl, sym, ap, subst, ◌∙◌, arith, inl, inr, ◌⊎◌}
use Rattle.std.proofs.lemmas.Bool.{lt-ltb, le-ltb, cases_lt}
use Rattle.std.specs.Prelude.{IfOk, IsErrOf, ◌↔◌}
use Rattle.std.specs.List.{AllByRecursion}
use Rattle.std.proofs.lemmas.List.Elements.{recursion_from_All, All-from_recursion}
use Rattle.lake_bytes.specs.Reading.{ReadingGives, id, ReadsFront, ReadsWhatStands}
use Rattle.outcomes.specs.Results.{◌>>=◌}
use Rattle.outcomes.specs.Bytes.{IsBytes}
use Rattle.lake_bytes.specs.Varint.{IsVarint, SpellsNumber, IsCutShort, GoesPastTen, IsTooLarge, groups_at, varint_at}
use Rattle.lake_bytes.specs.declared.fault.ByteFault.{ByteFault}
use Rattle.lake_bytes.specs.declared.fault.ByteFault.TheVariants.{Short, VarintTooLong, OutOfRange}

pub IsBytes-tail : (b : ℕ) (bytes : List ℕ) → IsBytes (b ∷ bytes) → IsBytes bytes
IsBytes-tail b bytes h i = h (suc i)

-- the number, or that it is out of range
abbrev pub ranged : ℕ → List ℕ → Result (ℕ × List ℕ) ByteFault
ranged n rest = cond (ltb n (2 ^ 64)) (Ok (n, rest)) (Err OutOfRange)

step : (low high : ℕ) (rest : List ℕ) → (ranged high rest >>= λ x. cond (ltb (low + 128 * x.0) (2 ^ 64)) (Ok (low + 128 * x.0, x.1)) (Err OutOfRange)) ≡ ranged (low + 128 * high) rest
step low high rest =
    elim (cases_lt high (2 ^ 64)) [
      | inl lt ↦ rw (lt-ltb high (2 ^ 64) lt) refl
      | inr le ↦ let big : 2 ^ 64 ≤ low + 128 * high = omega arith in rw (le-ltb high (2 ^ 64) le, le-ltb (low + 128 * high) (2 ^ 64) big) refl
    ]

-- what a varint in front reads as
pub spelled_reads : (most : ℕ) (front rest : List ℕ) (n : ℕ) → IsVarint front n → length front ≤ most → groups_at most (front ++ rest) ≡ ranged n rest
unfolding groups_at
spelled_reads most [] rest n v le = absurd v
spelled_reads zero (b ∷ front) rest n v le = absurd (omega arith)
spelled_reads (suc most) (b ∷ []) rest n v le =
    let small : n < 2 ^ 64 = omega (arith, v.0, v.1) in
    rw (lt-ltb b 128 v.0, lt-ltb n (2 ^ 64) small, v.1) refl
spelled_reads (suc most) (b ∷ c ∷ front) rest n v le =
    let shorter : length (c ∷ front) ≤ most = omega arith in
    rw (le-ltb b 128 v.0, spelled_reads most (c ∷ front) rest v.2 v.3 shorter, step (b - 128) v.2 rest, v.4) refl

-- bytes that end before the varint does
pub cut_reads : (most : ℕ) (bytes : List ℕ) → AllByRecursion (λ b. 128 ≤ b) bytes → length bytes < most → groups_at most bytes ≡ Err Short
unfolding groups_at
cut_reads zero bytes go lt = absurd (omega arith)
cut_reads (suc most) [] go lt = refl
cut_reads (suc most) (b ∷ bytes) go lt =
    let shorter : length bytes < most = omega arith in
    rw (le-ltb b 128 go.0, cut_reads most bytes go.1 shorter) refl

-- bytes of which too many say that another one follows
pub past_reads : (most : ℕ) (bytes : List ℕ) → AllByRecursion (λ b. 128 ≤ b) (take most bytes) → most ≤ length bytes → groups_at most bytes ≡ Err VarintTooLong
unfolding groups_at
past_reads zero bytes go le = refl
past_reads (suc most) [] go le = absurd (omega arith)
past_reads (suc most) (b ∷ bytes) go le =
    let shorter : most ≤ length bytes = omega arith in
    rw (le-ltb b 128 go.0, past_reads most bytes go.1 shorter) refl

-- a varint of at most so many bytes in front
pub record Stands (most : ℕ) (bytes : List ℕ) : Type 0 where
  pub front : List ℕ
  pub rest : List ℕ
  pub number : ℕ
  pub varint : IsVarint front number
  pub within : length front ≤ most
  pub split : bytes ≡ front ++ rest

pub record Cut (most : ℕ) (bytes : List ℕ) : Type 0 where
  pub continues : AllByRecursion (λ b. 128 ≤ b) bytes
  pub below : length bytes < most

pub record Past (most : ℕ) (bytes : List ℕ) : Type 0 where
  pub continues : AllByRecursion (λ b. 128 ≤ b) (take most bytes)
  pub reaches : most ≤ length bytes

abbrev pub Kinds : ℕ → List ℕ → Type 0
Kinds most bytes = Stands most bytes ⊎ (Cut most bytes ⊎ Past most bytes)

longer : (most b : ℕ) (bytes : List ℕ) → 128 ≤ b → b < 256 → Kinds most bytes → Kinds (suc most) (b ∷ bytes)
longer most b bytes h small (inl s) = inl (record {
  front = b ∷ s.front;
  rest = s.rest;
  number = (b - 128) + 128 * s.number;
  varint = grown s.front s.number s.varint;
  within = omega (arith, s.within);
  split = ap (λ (t : List ℕ). b ∷ t) s.split;
})
  where
    grown : (front : List ℕ) (n : ℕ) → IsVarint front n → IsVarint (b ∷ front) ((b - 128) + 128 * n)
    grown [] n v = absurd v
    grown (c ∷ front) n v = (h, small, n, v, refl)
longer most b bytes h small (inr (inl s)) = inr (inl (record { continues = (h, s.continues); below = omega (arith, s.below) }))
longer most b bytes h small (inr (inr s)) = inr (inr (record { continues = (h, s.continues); reaches = omega (arith, s.reaches) }))

-- bytes begin with a varint, or end before it does, or go on for too long
pub kinds : (most : ℕ) (bytes : List ℕ) → IsBytes bytes → Kinds most bytes
kinds zero bytes fits = inr (inr (record { continues = tt; reaches = omega arith }))
kinds (suc most) [] fits = inr (inl (record { continues = tt; below = omega arith }))
kinds (suc most) (b ∷ bytes) fits =
    elim (cases_lt b 128) [
      | inl lt ↦ inl (record { front = b ∷ []; rest = bytes; number = b; varint = (lt, refl); within = omega arith; split = refl })
      | inr le ↦ longer most b bytes le (fits 0) (kinds most bytes (IsBytes-tail b bytes fits))
    ]

-- ---- what reading a varint gives, in the words of its spelling

abbrev Read : Type 0
Read = Result (ℕ × List ℕ) ByteFault

abbrev done : ℕ → List ℕ → Read
done n rest = Ok (n, rest)

abbrev failed : ByteFault → Read
failed fault = Err fault

done_parts : (m n : ℕ) (x y : List ℕ) → done m x ≡ done n y → (m ≡ n) × (x ≡ y)
done_parts m n x y e =
    let parts : (m, x) ≡ (n, y) = cc in
    (ap (λ (p : ℕ × List ℕ). p.0) parts, ap (λ (p : ℕ × List ℕ). p.1) parts)

-- a varint in front either fits 64 bits or doesn't, and reads accordingly
reads_so : (bytes : List ℕ) (s : Stands 10 bytes) → ((s.number < 2 ^ 64) × (varint_at bytes ≡ done s.number s.rest)) ⊎ ((2 ^ 64 ≤ s.number) × (varint_at bytes ≡ failed OutOfRange))
unfolding varint_at
reads_so bytes s =
    let reads : groups_at 10 bytes ≡ ranged s.number s.rest = ap (groups_at 10) s.split ∙ spelled_reads 10 s.front s.rest s.number s.varint s.within in
    elim (cases_lt s.number (2 ^ 64)) [
      | inl lt ↦ let is : ranged s.number s.rest ≡ done s.number s.rest = rw (lt-ltb s.number (2 ^ 64) lt) refl in inl (lt, reads ∙ is)
      | inr le ↦ let is : ranged s.number s.rest ≡ failed OutOfRange = rw (le-ltb s.number (2 ^ 64) le) refl in inr (le, reads ∙ is)
    ]

cut_so : (bytes : List ℕ) → Cut 10 bytes → varint_at bytes ≡ failed Short
unfolding varint_at
cut_so bytes s = cut_reads 10 bytes s.continues s.below

past_so : (bytes : List ℕ) → Past 10 bytes → varint_at bytes ≡ failed VarintTooLong
unfolding varint_at
past_so bytes s = past_reads 10 bytes s.continues s.reaches

pub varint_found : (bytes : List ℕ) (n : ℕ) (rest : List ℕ) → IsBytes bytes → varint_at bytes ≡ done n rest → ReadsFront SpellsNumber bytes n rest
varint_found bytes n rest fits e =
    elim (kinds 10 bytes fits) [
      | inl s ↦ elim (reads_so bytes s) [
        | inl r ↦ stands s r.0 (done_parts s.number n s.rest rest (sym r.1 ∙ e))
        | inr r ↦ let bad : failed OutOfRange ≡ done n rest = sym r.1 ∙ e in absurd cc
      ]
      | inr (inl s) ↦ let bad : failed Short ≡ done n rest = sym (cut_so bytes s) ∙ e in absurd cc
      | inr (inr s) ↦ let bad : failed VarintTooLong ≡ done n rest = sym (past_so bytes s) ∙ e in absurd cc
    ]
  where
    stands : (s : Stands 10 bytes) → s.number < 2 ^ 64 → (s.number ≡ n) × (s.rest ≡ rest) → ReadsFront SpellsNumber bytes n rest
    stands s lt is = record {
      front = s.front;
      spelled = record { varint = subst (λ (k : ℕ). IsVarint s.front k) is.0 s.varint; within_ten = s.within; in_range = omega arith };
      split = s.split ∙ ap (λ (t : List ℕ). s.front ++ t) is.1;
    }

pub varint_stands : (front rest : List ℕ) (n : ℕ) → SpellsNumber front n → varint_at (front ++ rest) ≡ done n rest
unfolding varint_at
varint_stands front rest n s =
    let is : ranged n rest ≡ done n rest = rw (lt-ltb n (2 ^ 64) s.in_range) refl in
    spelled_reads 10 front rest n s.varint s.within_ten ∙ is

pub varint_short : (bytes : List ℕ) → IsBytes bytes → varint_at bytes ≡ failed Short → IsCutShort bytes
varint_short bytes fits e =
    elim (kinds 10 bytes fits) [
      | inl s ↦ elim (reads_so bytes s) [
        | inl r ↦ let bad : done s.number s.rest ≡ failed Short = sym r.1 ∙ e in absurd cc
        | inr r ↦ let bad : failed OutOfRange ≡ failed Short = sym r.1 ∙ e in absurd cc
      ]
      | inr (inl s) ↦ record { continues = All-from_recursion (λ b. 128 ≤ b) bytes s.continues; below_ten = s.below }
      | inr (inr s) ↦ let bad : failed VarintTooLong ≡ failed Short = sym (past_so bytes s) ∙ e in absurd cc
    ]

pub short_varint : (bytes : List ℕ) → IsCutShort bytes → varint_at bytes ≡ failed Short
short_varint bytes s = cut_so bytes (record { continues = recursion_from_All (λ b. 128 ≤ b) bytes s.continues; below = s.below_ten })

pub varint_too_long : (bytes : List ℕ) → IsBytes bytes → varint_at bytes ≡ failed VarintTooLong → GoesPastTen bytes
varint_too_long bytes fits e =
    elim (kinds 10 bytes fits) [
      | inl s ↦ elim (reads_so bytes s) [
        | inl r ↦ let bad : done s.number s.rest ≡ failed VarintTooLong = sym r.1 ∙ e in absurd cc
        | inr r ↦ let bad : failed OutOfRange ≡ failed VarintTooLong = sym r.1 ∙ e in absurd cc
      ]
      | inr (inl s) ↦ let bad : failed Short ≡ failed VarintTooLong = sym (cut_so bytes s) ∙ e in absurd cc
      | inr (inr s) ↦ record { ten = s.reaches; continues = All-from_recursion (λ b. 128 ≤ b) (take 10 bytes) s.continues }
    ]

pub too_long_varint : (bytes : List ℕ) → GoesPastTen bytes → varint_at bytes ≡ failed VarintTooLong
too_long_varint bytes s = past_so bytes (record { continues = recursion_from_All (λ b. 128 ≤ b) (take 10 bytes) s.continues; reaches = s.ten })

pub varint_out_of_range : (bytes : List ℕ) → IsBytes bytes → varint_at bytes ≡ failed OutOfRange → IsTooLarge bytes
varint_out_of_range bytes fits e =
    elim (kinds 10 bytes fits) [
      | inl s ↦ elim (reads_so bytes s) [
        | inl r ↦ let bad : done s.number s.rest ≡ failed OutOfRange = sym r.1 ∙ e in absurd cc
        | inr r ↦ record { front = s.front; rest = s.rest; number = s.number; varint = s.varint; within_ten = s.within; past = r.0; split = s.split }
      ]
      | inr (inl s) ↦ let bad : failed Short ≡ failed OutOfRange = sym (cut_so bytes s) ∙ e in absurd cc
      | inr (inr s) ↦ let bad : failed VarintTooLong ≡ failed OutOfRange = sym (past_so bytes s) ∙ e in absurd cc
    ]

pub out_of_range_varint : (bytes : List ℕ) → IsTooLarge bytes → varint_at bytes ≡ failed OutOfRange
unfolding varint_at
out_of_range_varint bytes s =
    let is : ranged s.number s.rest ≡ failed OutOfRange = rw (le-ltb s.number (2 ^ 64) s.past) refl in
    ap (groups_at 10) s.split ∙ spelled_reads 10 s.front s.rest s.number s.varint s.within_ten ∙ is

-- what a reading of a varint tells
pub record Tells (old : List ℕ) (r : Result ℕ ByteFault) (new : List ℕ) : Type 0 where
  pub read : IfOk r (λ n. ReadsFront SpellsNumber old n new)
  pub whatever_stands : ReadsWhatStands SpellsNumber old r new
  pub short : IsErrOf r Short ↔ IsCutShort old
  pub too_long : IsErrOf r VarintTooLong ↔ GoesPastTen old
  pub out_of_range : IsErrOf r OutOfRange ↔ IsTooLarge old

abbrev number : ℕ → Result ℕ ByteFault
number n = Ok n

abbrev fault : ByteFault → Result ℕ ByteFault
fault e = Err e

-- one reading has one outcome
same_ok : (old : List ℕ) (m n : ℕ) (x y : List ℕ) → varint_at old ≡ done m x → varint_at old ≡ done n y → (number m ≡ number n) × (x ≡ y)
same_ok old m n x y a b = let p = done_parts m n x y (sym a ∙ b) in (ap number p.0, p.1)

same_fault : (old : List ℕ) (d e : ByteFault) → varint_at old ≡ failed d → varint_at old ≡ failed e → fault d ≡ fault e
same_fault old d e a b = let p : failed d ≡ failed e = sym a ∙ b in cc

never_both : (old : List ℕ) (m : ℕ) (x : List ℕ) (e : ByteFault) → varint_at old ≡ done m x → varint_at old ≡ failed e → ⊥
never_both old m x e a b = let p : done m x ≡ failed e = sym a ∙ b in cc

ok_no_fault : (n : ℕ) (e : ByteFault) → number n ≡ fault e → ⊥
ok_no_fault n e h = cc

moved : (old : List ℕ) (d e : ByteFault) → varint_at old ≡ failed d → fault d ≡ fault e → varint_at old ≡ failed e
moved old d e a h = let p : d ≡ e = cc in a ∙ ap failed p

pub varint_tells : (old : List ℕ) (r : Result ℕ ByteFault) (new : List ℕ) → IsBytes old → ReadingGives id (varint_at old) old r new → Tells old r new
varint_tells old (Ok n) new fits h = record {
  read = varint_found old n new fits h;
  whatever_stands = λ front rest m spells split. same_ok old n m new rest h (ap varint_at split ∙ varint_stands front rest m spells);
  short = (λ e. absurd (ok_no_fault n Short e), λ s. absurd (never_both old n new Short h (short_varint old s)));
  too_long = (λ e. absurd (ok_no_fault n VarintTooLong e), λ s. absurd (never_both old n new VarintTooLong h (too_long_varint old s)));
  out_of_range = (λ e. absurd (ok_no_fault n OutOfRange e), λ s. absurd (never_both old n new OutOfRange h (out_of_range_varint old s)));
}
varint_tells old (Err d) new fits h = record {
  read = tt;
  whatever_stands = λ front rest m spells split. absurd (never_both old m rest d (ap varint_at split ∙ varint_stands front rest m spells) h.0);
  short = (λ e. varint_short old fits (moved old d Short h.0 e), λ s. same_fault old d Short h.0 (short_varint old s));
  too_long = (λ e. varint_too_long old fits (moved old d VarintTooLong h.0 e), λ s. same_fault old d VarintTooLong h.0 (too_long_varint old s));
  out_of_range = (λ e. varint_out_of_range old fits (moved old d OutOfRange h.0 e), λ s. same_fault old d OutOfRange h.0 (out_of_range_varint old s));
}
