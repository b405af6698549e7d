-- Runs, read from the left: what is read is runs, and runs in front are read.
use Rattle.std.proofs.Common.{◌≡◌, ℕ, zero, suc, ◌+◌, ◌*◌, ◌/◌, ◌%◌, ◌^◌, ◌<◌, cond, ltb, eqb, true, false, List, ◌++◌, length, take, drop, replicate, Result, Ok, Err, refl, sym, ap, subst, ◌∙◌, arith, inl, inr, append_assoc, eq-eqb}
use Rattle.std.proofs.lemmas.Bool.{lt-ltb, le-ltb, cases_lt, ne_eqb}
use Rattle.std.proofs.lemmas.List.{take_at, drop_at, length-append, length-replicate, take-append-drop, length-take-le, get_or-append-add}
use Rattle.lake_bytes.specs.Hybrid.{IsRun, bytes_for, low_first, packed, repeated, run_at, unpacked}
use Rattle.lake_bytes.specs.Reading.{ReadsFront, bytes_at}
use Rattle.outcomes.specs.Results.{◌>>=◌}
use Rattle.outcomes.specs.Bytes.{IsBytes}
use Rattle.lake_bytes.specs.Varint.{SpellsNumber, varint_at}
use Rattle.lake_bytes.specs.declared.fault.ByteFault.{ByteFault}
use Rattle.lake_bytes.specs.declared.fault.ByteFault.TheVariants.{BadRun, Short}
use Rattle.lake_bytes.proofs.Varints.{varint_found, varint_stands}

abbrev pub Read : Type 0
Read = Result (List ℕ × List ℕ) ByteFault

abbrev pub done : List ℕ → List ℕ → Read
done values rest = Ok (values, rest)

abbrev pub failed : ByteFault → Read
failed fault = Err fault

pub done_parts : (values others rest more : List ℕ) → done values rest ≡ done others more
    → (values ≡ others) × (rest ≡ more)
done_parts values others rest more e =
    let parts : (values, rest) ≡ (others, more) = cc in
    (ap (λ (p : List ℕ × List ℕ). p.0) parts, ap (λ (p : List ℕ × List ℕ). p.1) parts)

-- ---- bytes in front

bytes_stand : (n : ℕ) (body rest : List ℕ) → length body ≡ n → bytes_at n (body ++ rest) ≡ done body rest
bytes_stand n body rest len =
    let long : ltb (length (body ++ rest)) n ≡ false = le-ltb _ _ (omega (arith, length-append body rest)) in
    rw (long, take_at body rest n len, drop_at body rest n len) refl

record Taken (n : ℕ) (bytes body rest : List ℕ) : Type 0 where
  pub len : length body ≡ n
  pub split : bytes ≡ body ++ rest

bytes_found : (n : ℕ) (bytes body rest : List ℕ) → bytes_at n bytes ≡ done body rest → Taken n bytes body rest
bytes_found n bytes body rest e =
    elim (cases_lt (length bytes) n) [
      | inl lt ↦ let bad : failed Short ≡ done body rest = rw (lt-ltb (length bytes) n lt) at e in absurd cc
      | inr le ↦
          let same : done (take n bytes) (drop n bytes) ≡ done body rest = rw (le-ltb (length bytes) n le) at e in
          let parts = done_parts (take n bytes) body (drop n bytes) rest same in
          record {
            len = ap length (sym parts.0) ∙ length-take-le n bytes le;
            split = sym (take-append-drop n bytes) ∙ ap (λ (t : List ℕ). t ++ drop n bytes) parts.0
                ∙ ap (λ (t : List ℕ). body ++ t) parts.1;
          }
    ]

pub IsBytes-behind : (front rest : List ℕ) → IsBytes (front ++ rest) → IsBytes rest
IsBytes-behind front rest h i = subst (λ (n : ℕ). n < 256) (get_or-append-add front rest i 0) (h (length front + i))

-- ---- one run

-- what follows a run's header
abbrev behind : (width : ℕ) → ℕ × List ℕ → Read
behind width header = cond (eqb (header.0 / 2) 0) (Err BadRun) (cond (eqb (header.0 % 2) 0)
    (bytes_at (bytes_for width) header.1 >>= λ body. Ok (replicate (header.0 / 2) (low_first body.0), body.1))
    (bytes_at (header.0 / 2 * width) header.1 >>= λ body. Ok
    (unpacked width (8 * (header.0 / 2)) (low_first body.0), body.1)))

run_behind : (width : ℕ) (header : List ℕ) (n : ℕ) (rest : List ℕ) → SpellsNumber header n
    → run_at width (header ++ rest) ≡ behind width (n, rest)
unfolding run_at
run_behind width header n rest spells = rw (varint_stands header rest n spells) refl

pub run_stands : (width : ℕ) (front values rest : List ℕ) → IsRun width front values
    → run_at width (front ++ rest) ≡ done values rest
run_stands width front values rest (repeated count header body some spells len) =
    let half : (2 * count) / 2 ≡ count = omega arith in
    let even : (2 * count) % 2 ≡ 0 = omega arith in
    let not_none : eqb count 0 ≡ false = ne_eqb count 0 (λ e. absurd (omega arith)) in
    let reads : behind width (2 * count, body ++ rest) ≡ done (replicate count (low_first body)) rest =
    rw (half, even, not_none, bytes_stand (bytes_for width) body rest len) refl in
    ap (run_at width) (append_assoc header body rest) ∙ run_behind width header (2 * count) (body ++ rest) spells
    ∙ reads
run_stands width front values rest (packed groups header body some spells len) =
    let half : (2 * groups + 1) / 2 ≡ groups = omega arith in
    let odd : (2 * groups + 1) % 2 ≡ 1 = omega arith in
    let not_none : eqb groups 0 ≡ false = ne_eqb groups 0 (λ e. absurd (omega arith)) in
    let reads : behind width (2 * groups + 1, body ++ rest) ≡ done (unpacked width (8 * groups) (low_first body)) rest =
    rw (half, odd, not_none, bytes_stand (groups * width) body rest len) refl in
    ap (run_at width) (append_assoc header body rest) ∙ run_behind width header (2 * groups + 1) (body ++ rest) spells
    ∙ reads

pub length-unpacked : (width count number : ℕ) → length (unpacked width count number) ≡ count
unfolding unpacked
length-unpacked width zero number = refl
length-unpacked width (suc count) number = ap suc (length-unpacked width count (number / 2 ^ width))

pub some_values : (width : ℕ) (front values : List ℕ) → IsRun width front values → 0 < length values
some_values width front values (repeated count header body some spells len) =
    omega (arith, length-replicate count (low_first body))
some_values width front values (packed groups header body some spells len) =
    omega (arith, length-unpacked width (8 * groups) (low_first body))

abbrev body_so : (List ℕ → List ℕ) → Read → Read
body_so values read = read >>= λ body. Ok (values body.0, body.1)

record BodyFound (n : ℕ) (values : List ℕ → List ℕ) (bytes whole rest : List ℕ) : Type 0 where
  pub body : List ℕ
  pub taken : Taken n bytes body rest
  pub is : whole ≡ values body

body_found : (n : ℕ) (values : List ℕ → List ℕ) (bytes : List ℕ) (read : Read) (whole rest : List ℕ)
    → bytes_at n bytes ≡ read → body_so values read ≡ done whole rest → BodyFound n values bytes whole rest
body_found n values bytes (Err fault) whole rest e h = let bad : failed fault ≡ done whole rest = h in absurd cc
body_found n values bytes (Ok body) whole rest e h =
    let parts = done_parts (values body.0) whole body.1 rest h in
    record {
      body = body.0;
      taken = bytes_found n bytes body.0 rest (e ∙ ap (done body.0) parts.1);
      is = sym parts.0;
    }

-- a header in front, and what follows it, is a run
header_found : (width : ℕ) (bytes header : List ℕ) (n : ℕ) (left values rest : List ℕ) → SpellsNumber header n
    → bytes ≡ header ++ left → behind width (n, left) ≡ done values rest → ReadsFront (IsRun width) bytes values rest
header_found width bytes header n left values rest spells split h =
    elim (cases_lt (n / 2) 1) [
      | inl lt ↦
          let none : eqb (n / 2) 0 ≡ true = eq-eqb (n / 2) 0 (omega arith) in
          let bad : failed BadRun ≡ done values rest = rw none at h in absurd cc
      | inr some ↦
          let not_none : eqb (n / 2) 0 ≡ false = ne_eqb (n / 2) 0 (λ e. absurd (omega arith)) in
          elim (cases_lt (n % 2) 1) [
            | inl lt ↦
                let even : eqb (n % 2) 0 ≡ true = eq-eqb (n % 2) 0 (omega arith) in
                let twice : n ≡ 2 * (n / 2) = omega arith in
                let f = body_found (bytes_for width) (λ body. replicate (n / 2) (low_first body)) left
                (bytes_at (bytes_for width) left) values rest refl (rw (not_none, even) at h) in
                whole f.body f.taken.split
                (subst (IsRun width (header ++ f.body)) (sym f.is)
                (repeated (n / 2) header f.body (omega arith) (subst (SpellsNumber header) twice spells)
                f.taken.len))
            | inr odd ↦
                let not_even : eqb (n % 2) 0 ≡ false = ne_eqb (n % 2) 0 (λ e. absurd (omega arith)) in
                let twice : n ≡ 2 * (n / 2) + 1 = omega arith in
                let f = body_found (n / 2 * width) (λ body. unpacked width (8 * (n / 2)) (low_first body)) left
                (bytes_at (n / 2 * width) left) values rest refl (rw (not_none, not_even) at h) in
                whole f.body f.taken.split
                (subst (IsRun width (header ++ f.body)) (sym f.is)
                (packed (n / 2) header f.body (omega arith) (subst (SpellsNumber header) twice spells) f.taken.len))
          ]
    ]
  where
    whole : (body : List ℕ) → left ≡ body ++ rest → IsRun width (header ++ body) values
        → ReadsFront (IsRun width) bytes values rest
    whole body is r = record {
      front = header ++ body;
      spelled = r;
      split = split ∙ ap (λ (t : List ℕ). header ++ t) is ∙ sym (append_assoc header body rest);
    }

pub run_found : (width : ℕ) (bytes values rest : List ℕ) → IsBytes bytes → run_at width bytes ≡ done values rest
    → ReadsFront (IsRun width) bytes values rest
unfolding run_at
run_found width bytes values rest fits h = by_header (varint_at bytes) refl h
  where
    by_header : (read : Result (ℕ × List ℕ) ByteFault) → varint_at bytes ≡ read
        → (read >>= behind width) ≡ done values rest → ReadsFront (IsRun width) bytes values rest
    by_header (Err fault) e g = let bad : failed fault ≡ done values rest = g in absurd cc
    by_header (Ok header) e g =
        let f = varint_found bytes header.0 header.1 fits e in
        header_found width bytes f.front header.0 header.1 values rest f.spelled f.split g

-- ---- a run, as it is read

-- where these bytes stand behind a header of equal values
pub repeated_read : (width n size : ℕ) (bytes left body rest : List ℕ) → varint_at bytes ≡ Ok (n, left)
    → (n / 2 ≡ 0 → ⊥) → n % 2 ≡ 0 → size ≡ bytes_for width → bytes_at size left ≡ done body rest
    → run_at width bytes ≡ done (replicate (n / 2) (low_first body)) rest
unfolding run_at
repeated_read width n size bytes left body rest header some even is reads =
    let not_none : eqb (n / 2) 0 ≡ false = ne_eqb (n / 2) 0 some in
    let equal : eqb (n % 2) 0 ≡ true = eq-eqb (n % 2) 0 even in
    let body_reads : bytes_at (bytes_for width) left ≡ done body rest = ap (λ (k : ℕ). bytes_at k left) (sym is)
    ∙ reads in
    ap (λ (read : Result (ℕ × List ℕ) ByteFault). read >>= behind width) header
    ∙ rw (not_none, equal) (ap (body_so (λ found. replicate (n / 2) (low_first found))) body_reads)

-- where these bytes stand behind a header of packed values
pub packed_read : (width n : ℕ) (bytes left body rest : List ℕ) → varint_at bytes ≡ Ok (n, left) → (n / 2 ≡ 0 → ⊥)
    → (n % 2 ≡ 0 → ⊥) → bytes_at (n / 2 * width) left ≡ done body rest
    → run_at width bytes ≡ done (unpacked width (8 * (n / 2)) (low_first body)) rest
unfolding run_at
packed_read width n bytes left body rest header some odd reads =
    let not_none : eqb (n / 2) 0 ≡ false = ne_eqb (n / 2) 0 some in
    let not_even : eqb (n % 2) 0 ≡ false = ne_eqb (n % 2) 0 odd in
    ap (λ (read : Result (ℕ × List ℕ) ByteFault). read >>= behind width) header
    ∙ rw (not_none, not_even) (ap (body_so (λ found. unpacked width (8 * (n / 2)) (low_first found))) reads)

-- no run is empty
pub run_some : (width : ℕ) (bytes values rest : List ℕ) → run_at width bytes ≡ done values rest → 0 < length values
unfolding run_at
run_some width bytes values rest h = by_header (varint_at bytes) h
  where
    by_half : (n : ℕ) (left : List ℕ) → behind width (n, left) ≡ done values rest → 0 < length values
    by_half n left g =
        elim (cases_lt (n / 2) 1) [
          | inl lt ↦
              let none : eqb (n / 2) 0 ≡ true = eq-eqb (n / 2) 0 (omega arith) in
              let bad : failed BadRun ≡ done values rest = rw none at g in absurd cc
          | inr some ↦
              let not_none : eqb (n / 2) 0 ≡ false = ne_eqb (n / 2) 0 (λ e. absurd (omega arith)) in
              elim (cases_lt (n % 2) 1) [
                | inl lt ↦
                    let even : eqb (n % 2) 0 ≡ true = eq-eqb (n % 2) 0 (omega arith) in
                    let f = body_found (bytes_for width) (λ body. replicate (n / 2) (low_first body)) left
                    (bytes_at (bytes_for width) left) values rest refl (rw (not_none, even) at g) in
                    omega (arith, ap length f.is, length-replicate (n / 2) (low_first f.body))
                | inr odd ↦
                    let not_even : eqb (n % 2) 0 ≡ false = ne_eqb (n % 2) 0 (λ e. absurd (omega arith)) in
                    let f = body_found (n / 2 * width) (λ body. unpacked width (8 * (n / 2)) (low_first body)) left
                    (bytes_at (n / 2 * width) left) values rest refl (rw (not_none, not_even) at g) in
                    omega (arith, ap length f.is, length-unpacked width (8 * (n / 2)) (low_first f.body))
              ]
        ]

    by_header : (read : Result (ℕ × List ℕ) ByteFault) → (read >>= behind width) ≡ done values rest → 0 < length values
    by_header (Err fault) g = let bad : failed fault ≡ done values rest = g in absurd cc
    by_header (Ok header) g = by_half header.0 header.1 g
