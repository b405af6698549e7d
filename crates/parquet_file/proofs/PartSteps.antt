-- A part of what one reading after another gives: what was kept of the readings that are done, and what is left.
use Rattle.std.proofs.Common.{◌≡◌, ℕ, ◌-◌, ◌≤◌, List, [], ◌++◌, length, Result, Ok, Err, refl, sym, ap, ◌∙◌, arith, append_assoc, length-append}
use Rattle.std.proofs.lemmas.List.{append-nil}
use Rattle.outcomes.specs.Outcome.{Said, IsSaid}
use Rattle.outcomes.specs.Results.{refused_as}
use Rattle.outcomes.proofs.Callers.{with_front, regroup, said_too}
use Rattle.row_core.specs.Rows.{Row}
use Rattle.shred.specs.Parts.{part_of}
use Rattle.row_assembly.specs.Faults.{Fault}
use Rattle.row_assembly.specs.Parts.{rows_part}
use Rattle.parquet_footer.proofs.Callers.{ok_is}
use Rattle.parquet_file.specs.Reading.{RowsPart, part_among, part_read}
use Rattle.parquet_file.proofs.PartLists.{part_behind, part_of_none, part_whole}

-- ---- reading after reading

-- What is done and the rest are all that is read; a part of what is done was kept, and so much is still passed over and
-- wanted.
pub record KeptSoFar {A E : Type 0} (first most : ℕ) (old now : List A) (rest total : Result (List A) E)
    (skip wanted : ℕ) : Type 0 where
  pub done : List A
  pub read : with_front done rest ≡ total
  pub kept : now ≡ old ++ part_of first most done
  pub skipped : skip ≡ first - length done
  pub needed : wanted ≡ most - length (part_of first most done)

none_in_front : {A E : Type 0} (read : Result (List A) E) → with_front [] read ≡ read
none_in_front (Ok xs) = refl
none_in_front (Err e) = refl

pub part_begun : {A E : Type 0} (first most : ℕ) (old : List A) (total : Result (List A) E)
    → KeptSoFar first most old old total total first most
part_begun {A} first most old total =
    let none : ◌≡◌ {A = List A} (part_of first most []) [] = part_of_none first most in
    record {
      done = [];
      read = none_in_front total;
      kept = rw none (sym (append-nil old));
      skipped = omega arith;
      needed = rw none (omega arith);
    }

pub part_goes_on : {A E : Type 0} (first most : ℕ) (old now new one : List A) (whole rest total : Result (List A) E)
    (skip wanted left more : ℕ) → KeptSoFar first most old now whole total skip wanted → whole ≡ with_front one rest
    → new ≡ now ++ part_of skip wanted one → left ≡ skip - length one → more ≡ wanted - length (part_of skip wanted one)
    → KeptSoFar first most old new rest total left more
part_goes_on {A} first most old now new one whole rest total skip wanted left more k is put lefts mores =
    let here : part_of skip wanted one ≡ part_of (first - length k.done) (most - length (part_of first most k.done)) one =
    rw (k.skipped, k.needed) refl in
    let both : part_of first most (k.done ++ one) ≡ part_of first most k.done ++ part_of skip wanted one =
    part_behind first most k.done one ∙ ap (λ (l : List A). part_of first most k.done ++ l) (sym here) in
    let begun : with_front k.done whole ≡ with_front (k.done ++ one) rest = rw is (regroup k.done one rest) in
    record {
      done = k.done ++ one;
      read = sym begun ∙ k.read;
      kept = put ∙ (ap (λ (l : List A). l ++ part_of skip wanted one) k.kept
          ∙ (append_assoc old (part_of first most k.done) (part_of skip wanted one)
          ∙ ap (λ (l : List A). old ++ l) (sym both)));
      skipped = omega (arith, lefts, k.skipped, length-append k.done one);
      needed = omega (
        arith,
        mores,
        k.needed,
        ap length both,
        length-append (part_of first most k.done) (part_of skip wanted one),
      );
    }

pub part_done : {A E : Type 0} (first most : ℕ) (old now : List A) (rest total : Result (List A) E)
    (skip wanted : ℕ) → KeptSoFar first most old now rest total skip wanted → rest ≡ Ok []
    → (all : List A) × (total ≡ Ok all) × (now ≡ old ++ part_of first most all)
part_done {A} first most old now rest total skip wanted k none =
    let all : with_front k.done rest ≡ Ok k.done = rw none (ap (λ (l : List A). Ok l) (append-nil k.done)) in
    (k.done, sym k.read ∙ all, k.kept)

-- no more of the rest are wanted
pub part_stops : {A E : Type 0} (first most : ℕ) (old now others : List A) (rest total : Result (List A) E)
    (skip wanted : ℕ) → KeptSoFar first most old now rest total skip wanted → rest ≡ Ok others → wanted ≡ 0
    → (all : List A) × (total ≡ Ok all) × (now ≡ old ++ part_of first most all)
part_stops {A} first most old now others rest total skip wanted k read none =
    let part = part_of first most k.done in
    let last : most - length part ≡ 0 = omega (arith, k.needed, none) in
    let same : part_of first most (k.done ++ others) ≡ part =
    part_behind first most k.done others
    ∙ ap (λ (n : ℕ). part ++ part_of (first - length k.done) n others) last ∙ append-nil part in
    (k.done ++ others, sym k.read ∙ rw read refl, k.kept ∙ ap (λ (l : List A). old ++ l) (sym same))

pub part_fails : {A B E : Type 0} (said : Said E) (one : Result B E) (first most : ℕ) (old now : List A)
    (rest total : Result (List A) E) (skip wanted : ℕ) → KeptSoFar first most old now rest total skip wanted
    → ((e : E) → one ≡ Err e → rest ≡ Err e) → IsSaid said one → IsSaid said total
part_fails said one first most old now rest total skip wanted k goes h =
    said_too said one total (λ e is. sym k.read ∙ rw (goes e is) refl) h

-- ---- a part of what was made

pub kept_of_made : {F : Type 0} (fault : F) (first most : ℕ) (made : Result (List Row) Fault) (rows : List Row)
    → refused_as (λ f. fault) (rows_part first most made) ≡ Ok rows
    → (all : List Row) × (refused_as (λ f. fault) made ≡ Ok all) × (rows ≡ part_of first most all)
kept_of_made fault first most (Ok all) rows e = (all, refl, cc)
kept_of_made fault first most (Err f) rows e = absurd cc

pub made_fails : {F : Type 0} (said : Said F) (fault : F) (first most : ℕ) (made : Result (List Row) Fault)
    → IsSaid said (refused_as (λ f. fault) (rows_part first most made)) → IsSaid said (refused_as (λ f. fault) made)
made_fails {F = F} said fault first most made h =
    said_too said (refused_as (λ f. fault) (rows_part first most made)) (refused_as (λ f. fault) made)
    (λ e. same made e) h
  where
    same : (made : Result (List Row) Fault) (e : F) → refused_as (λ f. fault) (rows_part first most made) ≡ Err e
        → refused_as (λ f. fault) made ≡ Err e
    same (Ok all) e is = absurd cc
    same (Err f) e is = is

-- ---- a part of what is read

pub part_read_fails : {E : Type 0} (first most : ℕ) (read : Result (List Row) E) (e : E) → part_read first most read ≡ Err e
    → read ≡ Err e
part_read_fails first most (Ok rows) e is = absurd cc
part_read_fails first most (Err f) e is = cc

-- all rows were kept, where there are no more than may be kept
pub whole_read : {E : Type 0} (most : ℕ) (read : Result (List Row) E) (part : RowsPart)
    → part_read 0 most read ≡ Ok part → part.total ≤ most → read ≡ Ok part.rows
whole_read {E} most (Ok all) part e few =
    let is : part_among 0 most all ≡ part = ok_is {E = E} (part_among 0 most all) part e in
    let many : length all ≡ part.total = ap (λ (p : RowsPart). p.total) is in
    let same : all ≡ part.rows =
    sym (part_whole most all (omega (arith, many, few))) ∙ ap (λ (p : RowsPart). p.rows) is in
    ap (λ (rows : List Row). Ok rows) same
whole_read most (Err f) part e few = absurd cc
