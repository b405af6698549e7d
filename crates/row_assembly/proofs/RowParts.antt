-- Rows made in parts: those before some rows, these, and those behind them.
use Rattle.std.proofs.Common.{◌≡◌, ◌⊎◌, inl, inr, ℕ, zero, suc, ◌+◌, ◌-◌, ◌≤◌, ◌<◌, min, length, List, [], ◌∷◌, ◌++◌, map, drop, take, replicate, Result, Ok, Err, refl, sym, ap, ◌∙◌, arith}
use Rattle.std.proofs.lemmas.Bool.{cases_lt}
use Rattle.std.proofs.lemmas.List.{append-nil, length-append, length-map, length-drop, length-replicate, drop-drop, drop_all, drop_at, take_all, take_at, nil_from_length}
use Rattle.outcomes.specs.Results.{◌>>=◌}
use Rattle.outcomes.proofs.Callers.{with_front}
use Rattle.row_core.specs.Rows.{Row}
use Rattle.shred.specs.Shape.{Shape}
use Rattle.shred.specs.Columns.{Cell}
use Rattle.shred.specs.Parts.{part_of}
use Rattle.row_assembly.specs.Faults.{Fault}
use Rattle.row_assembly.specs.Assembly.{heads, row_made, rows_made}
use Rattle.row_assembly.specs.Levels.{outcome, row_tested, tested, rows_left, AreLong, AreEqual}
use Rattle.row_assembly.proofs.Rests.{bind_ok, ok_same}
use Rattle.row_assembly.proofs.Mismatched.{drop_none, tails_behind}
use Rattle.row_assembly.proofs.RowsBefore.{heads_cut, tails_cut}
use Rattle.row_assembly.proofs.Masked.{all_masked, tested_more}

-- ---- some rows, and then the others

-- two lists, one behind the other
abbrev pub both : {A : Type 0} → Result (List A) Fault → Result (List A) Fault → Result (List A) Fault
both first second = first >>= λ xs. with_front xs second

front_none : {A : Type 0} (r : Result (List A) Fault) → r ≡ with_front [] r
front_none (Ok xs) = refl
front_none (Err e) = refl

both_more : {A : Type 0} (one : Result A Fault) (first second : Result (List A) Fault) → (one >>= λ x. both first second >>= λ others. Ok (x ∷ others)) ≡ both (one >>= λ x. first >>= λ others. Ok (x ∷ others)) second
both_more (Ok x) (Ok xs) (Ok ys) = refl
both_more (Ok x) (Ok xs) (Err e) = refl
both_more (Ok x) (Err e) second = refl
both_more (Err e) first second = refl

pub rows_split : (s : Shape) (a b : ℕ) (css : List (List Cell)) → rows_made s (a + b) css ≡ both (rows_made s a css) (rows_made s b (map (drop a) css))
rows_split s zero b css =
    let none : zero + b ≡ b = omega arith in
    ap (λ n. rows_made s n css) none ∙ (ap (rows_made s b) (sym (drop_none css)) ∙ front_none (rows_made s b (map (drop 0) css)))
rows_split s (suc a) b css =
    let left = map (drop 1) css in
    let more : suc a + b ≡ suc (a + b) = omega arith in
    ap (λ n. rows_made s n css) more ∙ (ap (λ r. row_made s (heads css) >>= λ row. r >>= λ others. Ok (row ∷ others)) (rows_split s a b left)
    ∙ (both_more (row_made s (heads css)) (rows_made s a left) (rows_made s b (map (drop a) left)) ∙ ap (λ xs. both (rows_made s (suc a) css) (rows_made s b xs)) (tails_behind a css)))

both_done : {A : Type 0} (first second : Result (List A) Fault) → outcome (both first second) ≡ (outcome first >>= λ _. outcome second)
both_done (Ok xs) (Ok ys) = refl
both_done (Ok xs) (Err e) = refl
both_done (Err e) second = refl

pub tested_split : (s : Shape) (a b : ℕ) (css : List (List Cell)) → tested s (a + b) css ≡ (tested s a css >>= λ _. tested s b (map (drop a) css))
tested_split s a b css = ap outcome (rows_split s a b css) ∙ both_done (rows_made s a css) (rows_made s b (map (drop a) css))

-- so many rows are made
pub rows_counted : (s : Shape) (n : ℕ) (css : List (List Cell)) (rs : List Row) → rows_made s n css ≡ Ok rs → length rs ≡ n
rows_counted s zero css rs h = sym (ap length (ok_same [] rs h))
rows_counted s (suc n) css rs h =
    let left = map (drop 1) css in
    let b = bind_ok (row_made s (heads css)) (λ row. rows_made s n left >>= λ others. Ok (row ∷ others)) rs h in
    let d = bind_ok (rows_made s n left) (λ others. Ok (b.0 ∷ others)) rs b.2 in
    sym (ap length (ok_same (b.0 ∷ d.0) rs d.2)) ∙ ap suc (rows_counted s n left d.0 d.1)

-- the cells behind so many rows don't matter
pub rows_of_front : (s : Shape) (n m : ℕ) (css : List (List Cell)) → n ≤ m → rows_made s n (map (take m) css) ≡ rows_made s n css
rows_of_front s zero m css less = refl
rows_of_front s (suc n) zero css less = absurd (omega (arith, less))
rows_of_front s (suc n) (suc m) css less =
    let fewer : n ≤ m = omega (arith, less) in
    let others : rows_made s n (map (drop 1) (map (take (suc m)) css)) ≡ rows_made s n (map (drop 1) css) = ap (rows_made s n) (tails_cut m css) ∙ rows_of_front s n m (map (drop 1) css) fewer in
    ap (λ cs. row_made s cs >>= λ row. rows_made s n (map (drop 1) (map (take (suc m)) css)) >>= λ rest. Ok (row ∷ rest)) (heads_cut m css) ∙ ap (λ r. row_made s (heads css) >>= λ row. r >>= λ rest. Ok (row ∷ rest)) others

-- ---- columns of so many cells

pub dropped_long : (n k : ℕ) (css : List (List Cell)) → AreLong n css → AreLong (n - k) (map (drop k) css)
dropped_long n k [] long = tt
dropped_long n k (cs ∷ css) long = (length-drop k cs ∙ ap (λ m. m - k) long.0, dropped_long n k css long.1)

pub dropped_left : (k : ℕ) (css : List (List Cell)) → rows_left (map (drop k) css) ≡ rows_left css - k
dropped_left k [] = omega arith
dropped_left k (cs ∷ css) = length-drop k cs

pub left_long : (k : ℕ) (css : List (List Cell)) → AreLong (rows_left css) css → AreLong (rows_left (map (drop k) css)) (map (drop k) css)
left_long k css long = rw (dropped_left k css) (dropped_long (rows_left css) k css long)

pub masked_long : (n : ℕ) (css : List (List Cell)) → AreLong n css → AreLong n (map all_masked css)
masked_long n [] long = tt
masked_long n (cs ∷ css) long = (length-map cs _ ∙ long.0, masked_long n css long.1)

pub dropped_masked : (k : ℕ) (css : List (List Cell)) → map (drop k) (map all_masked css) ≡ map all_masked (map (drop k) css)
dropped_masked k [] = refl
dropped_masked k (cs ∷ css) = ap (λ x. x ∷ map (drop k) (map all_masked css)) (drop-masked k cs) ∙ ap (λ xs. all_masked (drop k cs) ∷ xs) (dropped_masked k css)
  where
    drop-masked : (m : ℕ) (xs : List Cell) → drop m (all_masked xs) ≡ all_masked (drop m xs)
    drop-masked zero xs = refl
    drop-masked (suc m) [] = refl
    drop-masked (suc m) (x ∷ xs) = drop-masked m xs

pub dropped_twice : (m n : ℕ) (css : List (List Cell)) → map (drop m) (map (drop n) css) ≡ map (drop (n + m)) css
dropped_twice m n [] = refl
dropped_twice m n (cs ∷ css) = ap (λ x. x ∷ map (drop m) (map (drop n) css)) (drop-drop m n cs) ∙ ap (λ xs. drop (n + m) cs ∷ xs) (dropped_twice m n css)

pub dropped_none : (k : ℕ) (css : List (List Cell)) → AreLong 0 css → map (drop k) css ≡ css
dropped_none k [] long = refl
dropped_none k (cs ∷ css) long = ap (λ x. x ∷ map (drop k) css) (drop_all k cs (let none = long.0 in omega (arith, none)) ∙ sym (nil_from_length cs long.0)) ∙ ap (λ xs. cs ∷ xs) (dropped_none k css long.1)

-- behind the last row there is nothing
pub dropped_all : (n k : ℕ) (css : List (List Cell)) → AreLong n css → map (drop (min k n)) css ≡ map (drop k) css
dropped_all n k [] long = refl
dropped_all n k (cs ∷ css) long = ap (λ x. x ∷ map (drop (min k n)) css) (one (cases_lt k n)) ∙ ap (λ xs. drop k cs ∷ xs) (dropped_all n k css long.1)
  where
    one : (k < n) ⊎ (n ≤ k) → drop (min k n) cs ≡ drop k cs
    one (inl less) = let same : min k n ≡ k = omega (arith, less) in ap (λ m. drop m cs) same
    one (inr more) =
        let these = long.0 in
        drop_all (min k n) cs (omega (arith, more, these)) ∙ sym (drop_all k cs (omega (arith, more, these)))

-- ---- equal rows

equal_tails : (k : ℕ) (css : List (List Cell)) → AreEqual (suc k) css → AreEqual k (map (drop 1) css)
equal_tails k [] equal = tt
equal_tails k (cs ∷ css) equal = ((equal.0.0, equal.0.1, ap (drop 1) equal.0.2), equal_tails k css equal.1)

heads_of : (cs : List Cell) (css : List (List Cell)) (c : Cell) (rest : List Cell) → cs ≡ c ∷ rest → heads (cs ∷ css) ≡ c ∷ heads css
heads_of cs css c rest is = ap (λ x. heads (x ∷ css)) is

equal_heads : (k : ℕ) (css : List (List Cell)) → AreEqual (suc (suc k)) css → heads (map (drop 1) css) ≡ heads css
equal_heads k [] equal = refl
equal_heads k (cs ∷ css) equal =
    let c = equal.0.0 in
    let rest = equal.0.1 in
    heads_of (drop 1 cs) (map (drop 1) css) c (replicate k c ++ rest) (ap (drop 1) equal.0.2) ∙ (ap (λ xs. c ∷ xs) (equal_heads k css equal.1) ∙ sym (heads_of cs css c (replicate (suc k) c ++ rest) equal.0.2))

once : (r : Result (Unit {0}) Fault) → (r >>= λ _. Ok tt) ≡ r
once (Ok x) = refl
once (Err e) = refl

twice : (r : Result (Unit {0}) Fault) → (r >>= λ _. r) ≡ r
twice (Ok x) = refl
twice (Err e) = refl

tested_equal : (s : Shape) (k : ℕ) (css : List (List Cell)) → AreEqual (suc k) css → tested s (suc k) css ≡ row_tested s (heads css)
tested_equal s zero css equal = tested_more s 0 css ∙ once (row_tested s (heads css))
tested_equal s (suc k) css equal =
    let others : tested s (suc k) (map (drop 1) css) ≡ row_tested s (heads css) = tested_equal s k (map (drop 1) css) (equal_tails (suc k) css equal) ∙ ap (row_tested s) (equal_heads k css equal) in
    tested_more s (suc k) css ∙ (ap (λ r. row_tested s (heads css) >>= λ _. r) others ∙ twice (row_tested s (heads css)))

equal_enough : (k : ℕ) (css : List (List Cell)) → 0 < length css → AreEqual k css → k ≤ rows_left css
equal_enough k [] some equal = absurd (omega (arith, some))
equal_enough k (cs ∷ css) some equal =
    let long = ap length equal.0.2 ∙ length-append (replicate k equal.0.0) equal.0.1 in
    let same = length-replicate k equal.0.0 in
    omega (arith, long, same)

-- equal rows are tested by the first of them
pub tests_on : (s : Shape) (left equal : ℕ) (css : List (List Cell)) → 0 < equal → equal ≤ left → 0 < length css → AreEqual equal css → row_tested s (heads css) ≡ Ok tt
    → tested s (min (left - equal) (rows_left (map (drop equal) css))) (map (drop equal) css) ≡ tested s (min left (rows_left css)) css
tests_on s left zero css more less some are done = absurd (omega (arith, more))
tests_on s left (suc k) css more less some are done =
    let enough = equal_enough (suc k) css some are in
    let fewer = dropped_left (suc k) css in
    let rest = min (left - suc k) (rows_left (map (drop (suc k)) css)) in
    let all : min left (rows_left css) ≡ suc k + rest = omega (arith, enough, fewer, less) in
    let first : tested s (suc k) css ≡ Ok tt = tested_equal s k css are ∙ done in
    sym (ap (λ n. tested s n css) all ∙ (tested_split s (suc k) rest css ∙ ap (λ r. r >>= λ _. tested s rest (map (drop (suc k)) css)) first))

fails_on : (s : Shape) (n k : ℕ) (css : List (List Cell)) (e : Fault) → n ≡ suc k → row_tested s (heads css) ≡ Err e → tested s n css ≡ Err e
fails_on s n k css e is h = ap (λ m. tested s m css) is ∙ (tested_more s k css ∙ ap (λ r. r >>= λ _. tested s k (map (drop 1) css)) h)

-- the fault of the first row is that of all
pub tests_fail : (s : Shape) (left equal : ℕ) (css : List (List Cell)) (e : Fault) → 0 < equal → equal ≤ left → 0 < length css → AreEqual equal css → row_tested s (heads css) ≡ Err e → tested s (min left (rows_left css)) css ≡ Err e
tests_fail s left equal css e more less some are h =
    let enough = equal_enough equal css some are in
    let n = min left (rows_left css) in
    let is : n ≡ suc (n - 1) = omega (arith, enough, more, less) in
    fails_on s n (n - 1) css e is h

-- ---- rows before, some rows, and rows behind

abbrev pub in_three : (before some behind : Result (List Row) Fault) → Result (List Row) Fault
in_three before some behind = both before (both some behind)

pub first_fails : (before some behind : Result (List Row) Fault) (e : Fault) → outcome before ≡ Err e → in_three before some behind ≡ Err e
first_fails (Ok xs) some behind e h = absurd cc
first_fails (Err d) some behind e h = let same : d ≡ e = cc in ap (λ (x : Fault). Err x) same

pub second_fails : (before some behind : Result (List Row) Fault) (e : Fault) → outcome before ≡ Ok tt → some ≡ Err e → in_three before some behind ≡ Err e
second_fails (Ok xs) some behind e done h = rw h refl
second_fails (Err d) some behind e done h = absurd cc

pub third_fails : (before some behind : Result (List Row) Fault) (rs : List Row) (e : Fault) → outcome before ≡ Ok tt → some ≡ Ok rs → outcome behind ≡ Err e → in_three before some behind ≡ Err e
third_fails (Ok xs) some (Ok zs) rs e done h fails = absurd cc
third_fails (Ok xs) some (Err d) rs e done h fails = let same : d ≡ e = cc in rw h (ap (λ (x : Fault). Err x) same)
third_fails (Err d) some behind rs e done h fails = absurd cc

record AllMade (before behind all : Result (List Row) Fault) (rs : List Row) : Type 0 where
  pub firsts : List Row
  pub lasts : List Row
  pub made_before : before ≡ Ok firsts
  pub made_behind : behind ≡ Ok lasts
  pub made : all ≡ Ok (firsts ++ (rs ++ lasts))

none_fails : (before some behind : Result (List Row) Fault) (rs : List Row) → outcome before ≡ Ok tt → some ≡ Ok rs → outcome behind ≡ Ok tt → AllMade before behind (in_three before some behind) rs
none_fails (Ok xs) some (Ok zs) rs done h last = record { firsts = xs; lasts = zs; made_before = refl; made_behind = refl; made = rw h refl }
none_fails (Ok xs) some (Err e) rs done h last = absurd cc
none_fails (Err e) some behind rs done h last = absurd cc

drop_front : (k n : ℕ) (xs ys : List Row) → length xs ≡ min k n → length ys ≡ n - k → (k < n) ⊎ (n ≤ k) → drop k (xs ++ ys) ≡ ys
drop_front k n xs ys these others (inl less) = drop_at xs ys k (omega (arith, these, less))
drop_front k n xs ys these others (inr more) =
    let none = nil_from_length ys (omega (arith, others, more)) in
    let long = length-append xs ys in
    drop_all k (xs ++ ys) (omega (arith, long, these, others, more)) ∙ sym none

take_front : (k n : ℕ) (xs ys : List Row) → length xs ≡ min k n → length ys ≡ n - min k n → (k < n) ⊎ (n ≤ k) → take k (xs ++ ys) ≡ xs
take_front k n xs ys these others (inl less) = take_at xs ys k (omega (arith, these, less))
take_front k n xs ys these others (inr more) =
    let none = nil_from_length ys (omega (arith, others, more)) in
    ap (λ zs. take k (xs ++ zs)) none ∙ (ap (take k) (append-nil xs) ∙ take_all k xs (omega (arith, these, more)))

part_found : (rows first most : ℕ) (xs rs zs : List Row) → length xs ≡ min first rows → length rs ≡ min most (rows - first) → length zs ≡ (rows - first) - min most (rows - first) → part_of first most (xs ++ (rs ++ zs)) ≡ rs
part_found rows first most xs rs zs a b c =
    let long = length-append rs zs in
    let behind : length (rs ++ zs) ≡ rows - first = omega (arith, long, b, c) in
    ap (take most) (drop_front first rows xs (rs ++ zs) a behind (cases_lt first rows)) ∙ take_front most (rows - first) rs zs b c (cases_lt most (rows - first))

-- the part of all rows that lies between the others
pub part_made : (s : Shape) (rows first most : ℕ) (cs ds es : List (List Cell)) (rs : List Row) → tested s (min first rows) cs ≡ Ok tt → rows_made s (min most (rows - first)) ds ≡ Ok rs → tested s ((rows - first) - min most (rows - first)) es ≡ Ok tt
    → (in_three (rows_made s (min first rows) cs) (rows_made s (min most (rows - first)) ds) (rows_made s ((rows - first) - min most (rows - first)) es) >>= λ all. Ok (part_of first most all)) ≡ Ok rs
part_made s rows first most cs ds es rs a b c =
    let m = none_fails (rows_made s (min first rows) cs) (rows_made s (min most (rows - first)) ds) (rows_made s ((rows - first) - min most (rows - first)) es) rs a b c in
    let found = part_found rows first most m.firsts rs m.lasts (rows_counted s (min first rows) cs m.firsts m.made_before) (rows_counted s (min most (rows - first)) ds rs b) (rows_counted s ((rows - first) - min most (rows - first)) es m.lasts m.made_behind) in
    ap (λ r. r >>= λ all. Ok (part_of first most all)) m.made ∙ ap (λ (x : List Row). Ok x) found
