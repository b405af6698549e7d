-- Runs one behind the other, read from the left as far as values are wanted.
use Rattle.std.proofs.Common.{◌≡◌, ℕ, zero, suc, ◌+◌, ◌-◌, ◌<◌, ◌≤◌, List, [], ◌∷◌, ◌++◌, length, min, take, Ok, Err, refl, sym, ap, subst, ◌∙◌, arith, append_assoc, append-nil}
use Rattle.std.proofs.lemmas.List.{length-append}
use Rattle.std.proofs.Math.Seq.{take-length}
use Rattle.lake_bytes.specs.Hybrid.{AreRuns, HoldsValues, IsRun, hybrid_at, no_run, run, run_at, runs_at}
use Rattle.lake_bytes.specs.Reading.{ReadsFront}
use Rattle.outcomes.specs.Results.{◌>>=◌}
use Rattle.outcomes.specs.Bytes.{IsBytes}
use Rattle.lake_bytes.specs.declared.fault.ByteFault.{ByteFault}
use Rattle.lake_bytes.specs.declared.fault.ByteFault.TheVariants.{BadRun}
use Rattle.outcomes.proofs.Loops.{regroup_beside, with_front_beside}
use Rattle.lake_bytes.proofs.RunLemmas.{Read, done, failed, done_parts, IsBytes-behind, run_found, run_stands, some_values}

take-both : (n : ℕ) (xs ys : List ℕ) → take n (xs ++ ys) ≡ take n xs ++ take (n - length xs) ys
take-both zero xs ys =
    let none : 0 - length xs ≡ 0 = omega arith in
    rw none refl
take-both (suc n) [] ys =
    let none : suc n - 0 ≡ suc n = omega arith in
    rw none refl
take-both (suc n) (x ∷ xs) ys =
    let one : suc n - suc (length xs) ≡ n - length xs = omega arith in
    rw one (ap (λ (t : List ℕ). x ∷ t) (take-both n xs ys))

-- ---- what is read stands in front

-- values that are the first so many of runs in front
pub record Found (width wanted : ℕ) (bytes values rest : List ℕ) : Type 0 where
  pub front : List ℕ
  pub all : List ℕ
  pub split : bytes ≡ front ++ rest
  pub runs : AreRuns width front all
  pub enough : wanted ≤ length all
  pub first : values ≡ take wanted all

-- a run in front, and what is found behind it
found_behind : (width wanted : ℕ) (bytes values left others rest : List ℕ) → ReadsFront (IsRun width) bytes values left
    → Found width (wanted - length values) left others rest
    → Found width wanted bytes (take wanted values ++ others) rest
found_behind width wanted bytes values left others rest f o = record {
  front = f.front ++ o.front;
  all = values ++ o.all;
  split = f.split ∙ ap (λ (t : List ℕ). f.front ++ t) o.split ∙ sym (append_assoc f.front o.front rest);
  runs = run f.front o.front values o.all f.spelled o.runs;
  enough = omega (arith, o.enough, length-append values o.all);
  first = ap (λ (t : List ℕ). take wanted values ++ t) o.first ∙ sym (take-both wanted values o.all);
}

abbrev with_first : (most width wanted : ℕ) → Read → Read
with_first most width wanted read =
    read >>= λ first. with_front_beside (take wanted first.0) (runs_at most width (wanted - length first.0) first.1)

-- what is found by so many runs
abbrev Finds : (most width : ℕ) → Type 0
Finds most width =
    (wanted : ℕ) (bytes values rest : List ℕ) → IsBytes bytes → runs_at most width wanted bytes ≡ done values rest
    → Found width wanted bytes values rest

found_others : (most width wanted : ℕ) (bytes first left values rest : List ℕ) (read : Read) → Finds most width
    → IsBytes left → ReadsFront (IsRun width) bytes first left
    → runs_at most width (wanted - length first) left ≡ read
    → with_front_beside (take wanted first) read ≡ done values rest → Found width wanted bytes values rest
found_others most width wanted bytes first left values rest (Err fault) finds fits f e h =
    let bad : failed fault ≡ done values rest = h in absurd cc
found_others most width wanted bytes first left values rest (Ok others) finds fits f e h =
    let parts = done_parts (take wanted first ++ others.0) values others.1 rest h in
    let o = finds (wanted - length first) left others.0 others.1 fits e in
    let all = found_behind width wanted bytes first left others.0 others.1 f o in
    subst (λ (t : List ℕ). Found width wanted bytes values t) parts.1
    (subst (λ (t : List ℕ). Found width wanted bytes t others.1) parts.0 all)

found_first : (most width wanted : ℕ) (bytes values rest : List ℕ) (read : Read) → Finds most width → IsBytes bytes
    → run_at width bytes ≡ read → with_first most width wanted read ≡ done values rest
    → Found width wanted bytes values rest
found_first most width wanted bytes values rest (Err fault) finds fits e h = let bad : failed fault ≡ done values rest =
    h in absurd cc
found_first most width wanted bytes values rest (Ok first) finds fits e h =
    let f = run_found width bytes first.0 first.1 fits e in
    let left = IsBytes-behind f.front first.1 (subst IsBytes f.split fits) in
    found_others most width wanted bytes first.0 first.1 values rest
    (runs_at most width (wanted - length first.0) first.1) finds left f refl h

runs_found : (most width wanted : ℕ) (bytes values rest : List ℕ) → IsBytes bytes
    → runs_at most width wanted bytes ≡ done values rest → Found width wanted bytes values rest
unfolding runs_at
runs_found most width zero bytes values rest fits h =
    let parts = done_parts [] values bytes rest h in
    record { front = []; all = []; split = parts.1; runs = no_run; enough = omega arith; first = sym parts.0 }
runs_found zero width (suc wanted) bytes values rest fits h = let bad : failed BadRun ≡ done values rest =
    h in absurd cc
runs_found (suc most) width (suc wanted) bytes values rest fits h =
    found_first most width (suc wanted) bytes values rest (run_at width bytes)
    (λ w b v r. runs_found most width w b v r) fits refl h

pub hybrid_found : (width count : ℕ) (bytes values rest : List ℕ) → IsBytes bytes
    → hybrid_at width count bytes ≡ done values rest → HoldsValues width count bytes values
hybrid_found width count bytes values rest fits h =
    let f = runs_found count width count bytes values rest fits h in
    record {
      front = f.front;
      rest = rest;
      all = f.all;
      split = f.split;
      runs = f.runs;
      enough = f.enough;
      first =
          f.first;
    }

-- ---- runs in front are read

-- the values are read, and nothing of the runs is left where all of them are
record Stand (most width wanted : ℕ) (front all rest : List ℕ) : Type 0 where
  pub left : List ℕ
  pub reads : runs_at most width wanted (front ++ rest) ≡ done (take wanted all) (left ++ rest)
  pub none : wanted ≡ length all → left ≡ []

no_bytes : (width : ℕ) (front all : List ℕ) → AreRuns width front all → 0 ≡ length all → front ≡ []
no_bytes width front all no_run e = refl
no_bytes width front all (run first others values more is runs) e =
    absurd (omega (arith, some_values width first values is, length-append values more))

stand_behind : (most width wanted : ℕ) (first others values more rest : List ℕ) → IsRun width first values
    → length (values ++ more) ≡ length values + length more
    → wanted ≤ length (values ++ more) → Stand most width (suc wanted - length values) others more rest
    → Stand (suc most) width (suc wanted) (first ++ others) (values ++ more) rest
unfolding runs_at
stand_behind most width wanted first others values more rest is len enough s =
    let reads : run_at width ((first ++ others) ++ rest) ≡ done values (others ++ rest) =
    ap (run_at width) (append_assoc first others rest) ∙ run_stands width first values (others ++ rest) is in
    record {
      left = s.left;
      reads = ap (with_first most width (suc wanted)) reads ∙ ap (with_front_beside (take (suc wanted) values)) s.reads
          ∙ ap (λ (t : List ℕ). done t (s.left ++ rest)) (sym (take-both (suc wanted) values more));
      none = λ e. s.none (omega (arith, len));
    }

runs_stand : (most width wanted : ℕ) (front all rest : List ℕ) → AreRuns width front all → wanted ≤ length all
    → wanted ≤ most → Stand most width wanted front all rest
unfolding runs_at
runs_stand most width zero front all rest runs enough some =
    record { left = front; reads = refl; none = no_bytes width front all runs }
runs_stand zero width (suc wanted) front all rest runs enough some = absurd (omega arith)
runs_stand (suc most) width (suc wanted) front all rest no_run enough some = absurd (omega arith)
runs_stand (suc most) width (suc wanted) front all rest (run first others values more is runs) enough some =
    let len = length-append values more in
    let any = some_values width first values is in
    let s = runs_stand most width (suc wanted - length values) others more rest runs (omega arith) (omega arith) in
    stand_behind most width wanted first others values more rest is len (omega arith) s

pub hybrid_stands : (width count : ℕ) (bytes values : List ℕ) → HoldsValues width count bytes values
    → (rest : List ℕ) × (hybrid_at width count bytes ≡ done values rest)
hybrid_stands width count bytes values h =
    let s = runs_stand count width count h.front h.all h.rest h.runs h.enough (omega arith) in (
      s.left ++ h.rest,
      ap (hybrid_at width count) h.split ∙ s.reads
          ∙ ap (λ (t : List ℕ). done t (s.left ++ h.rest)) (sym h.first),
    )

pub one_hybrid : (width count : ℕ) (bytes values others : List ℕ) → HoldsValues width count bytes values
    → HoldsValues width count bytes others → values ≡ others
one_hybrid width count bytes values others h k =
    let a = hybrid_stands width count bytes values h in
    let b = hybrid_stands width count bytes others k in
    (done_parts values others a.0 b.0 (sym a.1 ∙ b.1)).0

-- runs of values are read again as all of them
pub all_again : (width : ℕ) (front values rest : List ℕ) → AreRuns width front values
    → hybrid_at width (length values) (front ++ rest) ≡ done values rest
all_again width front values rest runs =
    let s = runs_stand (length values) width (length values) front values rest runs (omega arith) (omega arith) in
    s.reads ∙ rw (s.none refl, take-length values) refl

-- ---- reading run by run

-- what is left to be read, where some values were
pub record LeftToRead (width wanted : ℕ) (bytes front : List ℕ) (whole : Read) : Type 0 where
  pub most : ℕ
  pub enough : wanted ≤ most
  pub reads : with_front_beside front (runs_at most width wanted bytes) ≡ whole

pub nothing_read : (width count : ℕ) (bytes : List ℕ) → LeftToRead width count bytes [] (hybrid_at width count bytes)
nothing_read width count bytes =
    record { most = count; enough = omega arith; reads = same (hybrid_at width count bytes) }
  where
    same : (read : Read) → with_front_beside [] read ≡ read
    same (Ok x) = refl
    same (Err fault) = refl

pub all_read : (width wanted : ℕ) (bytes front : List ℕ) (whole : Read) → wanted ≡ 0
    → LeftToRead width wanted bytes front whole → whole ≡ done front bytes
unfolding runs_at
all_read width wanted bytes front whole none l =
    sym l.reads ∙ ap (λ (n : ℕ). with_front_beside front (runs_at l.most width n bytes)) none
    ∙ ap (λ (t : List ℕ). done t bytes) (append-nil front)

-- what is left, at one more run
at_run : (most width wanted : ℕ) (bytes : List ℕ) → 0 < wanted → wanted ≤ most
    → runs_at most width wanted bytes ≡ with_first (most - 1) width wanted (run_at width bytes)
unfolding runs_at
at_run most width zero bytes some enough = absurd (omega arith)
at_run zero width (suc wanted) bytes some enough = absurd (omega arith)
at_run (suc most) width (suc wanted) bytes some enough =
    let one : suc most - 1 ≡ most = omega arith in
    rw one refl

pub run_read : (width wanted given : ℕ) (bytes front values left : List ℕ) (whole : Read) → 0 < wanted → 0 < given
    → given ≡ min wanted (length values) → run_at width bytes ≡ done values left
    → LeftToRead width wanted bytes front whole
    → LeftToRead width (wanted - given) left (front ++ take wanted values) whole
run_read width wanted given bytes front values left whole some any is reads l =
    let less : wanted - given ≡ wanted - length values = omega arith in
    let step : runs_at l.most width wanted bytes
    ≡ with_front_beside (take wanted values) (runs_at (l.most - 1) width (wanted - given) left) =
    at_run l.most width wanted bytes some l.enough ∙ ap (with_first (l.most - 1) width wanted) reads
    ∙ ap (λ (n : ℕ). with_front_beside (take wanted values) (runs_at (l.most - 1) width n left)) (sym less) in
    record {
      most = l.most - 1;
      enough = omega (arith, l.enough);
      reads = sym (regroup_beside front (take wanted values) (runs_at (l.most - 1) width (wanted - given) left))
          ∙ ap (with_front_beside front) (sym step) ∙ l.reads;
    }

pub run_refused : (width wanted : ℕ) (bytes front : List ℕ) (whole : Read) (fault : ByteFault) → 0 < wanted
    → run_at width bytes ≡ failed fault
    → LeftToRead width wanted bytes front whole → whole ≡ failed fault
run_refused width wanted bytes front whole fault some reads l =
    sym l.reads
    ∙ ap (with_front_beside front) (at_run l.most width wanted bytes some l.enough
    ∙ ap (with_first (l.most - 1) width wanted) reads)
