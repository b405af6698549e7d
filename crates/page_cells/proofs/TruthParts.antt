-- Packed truth values, of which some are passed over and some behind them kept.
use Rattle.std.proofs.Common.{◌≡◌, ℕ, zero, suc, ◌+◌, ◌-◌, ◌*◌, ◌/◌, ◌%◌, ◌^◌, ◌≤◌, ◌<◌, true, List, [], ◌∷◌, ◌++◌, length, map, take, drop, Result, Ok, refl, sym, ap, ◌∙◌, arith, inl, inr}
use Rattle.std.specs.List.{list_all}
use Rattle.std.proofs.lemmas.Bool.{and_parts, cases_lt, le-ltb, lt-ltb, ltb-true}
use Rattle.std.proofs.lemmas.List.{append-nil, drop-map, take-append-drop, take-map}
use Rattle.std.proofs.lemmas.Nat.{shr-shr, shr_high}
use Rattle.std.proofs.Math.Nat.{div-one, zero-div}
use Rattle.lake_bytes.specs.Hybrid.{low_first, unpacked}
use Rattle.lake_bytes.specs.Reading.{bytes_at}
use Rattle.lake_bytes.specs.declared.fault.ByteFault.{ByteFault}
use Rattle.row_core.specs.Conforms.{is_byte}
use Rattle.row_core.specs.Rows.{Value}
use Rattle.shred.specs.Parts.{part_of}
use Rattle.page_cells.specs.Plain.{bytes_for_bits, truth_of, truths_at}
use Rattle.page_cells.proofs.CodeValues.{done}
use Rattle.page_cells.proofs.PlainParts.{truths_bits}

-- ---- bits

bits_taken : (count more n : ℕ) → take count (unpacked 1 (count + more) n) ≡ unpacked 1 count n
unfolding unpacked
bits_taken zero more n = refl
bits_taken (suc count) more n =
    let one : suc count + more ≡ suc (count + more) = omega arith in
    rw one (ap (λ (bits : List ℕ). n % 2 ^ 1 ∷ bits) (bits_taken count more (n / 2 ^ 1)))

bits_passed : (skip count n : ℕ) → drop skip (unpacked 1 (skip + count) n) ≡ unpacked 1 count (n / 2 ^ skip)
unfolding unpacked
bits_passed zero count n =
    let none : 0 + count ≡ count = omega arith in
    rw none (ap (λ (m : ℕ). unpacked 1 count m) (sym (div-one n)))
bits_passed (suc skip) count n =
    let one : suc skip + count ≡ suc (skip + count) = omega arith in
    let power : 1 + skip ≡ suc skip = omega arith in
    rw one (bits_passed skip count (n / 2 ^ 1)
    ∙ ap (λ (m : ℕ). unpacked 1 count m) (shr-shr n 1 skip ∙ ap (λ (k : ℕ). n / 2 ^ k) power))

bits_cut : (skip count total n : ℕ) → skip + count ≤ total
    → part_of skip count (unpacked 1 total n) ≡ unpacked 1 count (n / 2 ^ skip)
bits_cut skip count total n few =
    let all : total ≡ skip + (count + (total - skip - count)) = omega arith in
    ap (λ (k : ℕ). part_of skip count (unpacked 1 k n)) all
    ∙ ap (take count) (bits_passed skip (count + (total - skip - count)) n)
    ∙ bits_taken count (total - skip - count) (n / 2 ^ skip)

-- ---- bytes

bytes_passed : (k : ℕ) (bytes : List ℕ) → list_all is_byte bytes ≡ true
    → low_first bytes / 2 ^ (8 * k) ≡ low_first (drop k bytes)
bytes_passed zero bytes are = div-one (low_first bytes)
bytes_passed (suc k) [] are = zero-div (2 ^ (8 * suc k))
bytes_passed (suc k) (byte ∷ bytes) are =
    let p = and_parts (is_byte byte) (list_all is_byte bytes) are in
    let small : byte < 2 ^ 8 = ltb-true byte 256 p.0 in
    let power : 8 * suc k ≡ 8 + 8 * k = omega arith in
    let turned : byte + 256 * low_first bytes ≡ low_first bytes * 2 ^ 8 + byte = omega arith in
    ap (λ (j : ℕ). low_first (byte ∷ bytes) / 2 ^ j) power
    ∙ sym (shr-shr (low_first (byte ∷ bytes)) 8 (8 * k))
    ∙ ap (λ (n : ℕ). n / 2 ^ 8 / 2 ^ (8 * k)) turned
    ∙ ap (λ (n : ℕ). n / 2 ^ (8 * k)) (shr_high (low_first bytes) 8 byte small)
    ∙ bytes_passed k bytes p.1

-- ---- truth values

-- the bytes that are taken, where none is left behind them
record AreAll (n : ℕ) (given front : List ℕ) : Type 0 where
  fits : n ≤ length given
  all : front ≡ given

all_taken : (n : ℕ) (given front rest : List ℕ) → bytes_at n given ≡ Ok (front, rest) → rest ≡ []
    → AreAll n given front
all_taken n given front rest h none =
    elim (cases_lt (length given) n) [
      | inl lt ↦ absurd (let bad = rw (lt-ltb (length given) n lt) at h in cc)
      | inr le ↦
          let same : ◌≡◌ {A = Result (List ℕ × List ℕ) ByteFault} (Ok (take n given, drop n given)) (Ok (front, rest)) =
          rw (le-ltb (length given) n le) at h in
          let parts : ◌≡◌ {A = List ℕ × List ℕ} (take n given, drop n given) (front, rest) = cc in
          let ends : drop n given ≡ [] = ap (λ (p : List ℕ × List ℕ). p.1) parts ∙ none in
          let all : take n given ≡ given = sym (append-nil (take n given))
          ∙ ap (λ (more : List ℕ). take n given ++ more) (sym ends) ∙ take-append-drop n given in
          record { fits = le; all = sym (ap (λ (p : List ℕ × List ℕ). p.0) parts) ∙ all }
    ]

-- Where so many truth values are all that bytes hold: the whole bytes that are passed over are there, and those that are
-- kept are the bits behind them.
pub record AreBitsCut (skip count : ℕ) (given : List ℕ) (values : List Value) : Type 0 where
  pub there : skip / 8 ≤ length given
  pub kept : map truth_of (part_of (skip % 8) count (unpacked 1 (skip % 8 + count) (low_first (drop (skip / 8) given))))
      ≡ part_of skip count values

pub truths_cut : (skip count total : ℕ) (given : List ℕ) (values : List Value) → list_all is_byte given ≡ true
    → skip + count ≤ total → truths_at total given ≡ done values [] → AreBitsCut skip count given values
truths_cut skip count total given values are few h =
    let bits = truths_bits total given values [] h in
    let taken = all_taken (bytes_for_bits total) given bits.0.0 bits.0.1 bits.1 bits.3 in
    let n = low_first given in
    let whole : 8 * (skip / 8) + skip % 8 ≡ skip = omega arith in
    let shifted : low_first (drop (skip / 8) given) / 2 ^ (skip % 8) ≡ n / 2 ^ skip =
    ap (λ (m : ℕ). m / 2 ^ (skip % 8)) (sym (bytes_passed (skip / 8) given are))
    ∙ shr-shr n (8 * (skip / 8)) (skip % 8) ∙ ap (λ (k : ℕ). n / 2 ^ k) whole in
    let read : map truth_of (unpacked 1 total n) ≡ values =
    ap (λ (bytes : List ℕ). map truth_of (unpacked 1 total (low_first bytes))) (sym taken.all) ∙ bits.2 in
    let cut : part_of (skip % 8) count (unpacked 1 (skip % 8 + count) (low_first (drop (skip / 8) given)))
    ≡ part_of skip count (unpacked 1 total n) =
    bits_cut (skip % 8) count (skip % 8 + count) (low_first (drop (skip / 8) given)) (omega arith)
    ∙ ap (λ (m : ℕ). unpacked 1 count m) shifted ∙ sym (bits_cut skip count total n few) in
    record {
      there = omega (arith, taken.fits);
      kept = ap (map truth_of) cut ∙ sym (part_map (unpacked 1 total n)) ∙ ap (part_of skip count) read;
    }
  where
    part_map : (bits : List ℕ) → part_of skip count (map truth_of bits) ≡ map truth_of (part_of skip count bits)
    part_map bits = ap (take count) (drop-map truth_of skip bits) ∙ take-map truth_of count (drop skip bits)
