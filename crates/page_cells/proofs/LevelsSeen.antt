-- Levels that were seen.
use Rattle.std.proofs.Common.{◌≡◌, ℕ, zero, suc, ◌+◌, ◌*◌, ◌<◌, ◌≤◌, ◌^◌, ◌==◌, ◌&&◌, List, [], ◌++◌, length, replicate, Bool, true, false, cond, refl, sym, ap, subst, ◌∙◌, arith, append_assoc, append-nil, length-append}
use Rattle.std.specs.Prelude.{count_by, nat_le}
use Rattle.std.specs.List.{list_all}
use Rattle.std.proofs.lemmas.List.{length-replicate}
use Rattle.std.proofs.lemmas.List.Folds.{list_all-append, sum_by-replicate}
use Rattle.std.proofs.lemmas.List.Sums.{count_by-le-length, sum_by-append}
use Rattle.page_cells.specs.Internal.{are_below}
use Rattle.page_cells.specs.Levels.{AreTold, may_stand, present}
use Rattle.page_cells.specs.declared.levels.LevelsTold.{LevelsTold}

pub counted_on : (p : ℕ → Bool) (front : List ℕ) (count value : ℕ)
    → count_by p (front ++ replicate count value) ≡ count_by p front + count * cond (p value) 1 0
counted_on p front count value =
    sum_by-append (λ x. cond (p x) 1 0) front (replicate count value)
    ∙ ap (λ (n : ℕ). count_by p front + n) (sum_by-replicate (λ x. cond (p x) 1 0) count value)

all_repeated : (p : ℕ → Bool) (count value : ℕ) → 0 < count → list_all p (replicate count value) ≡ p value
all_repeated p zero value some = absurd (omega arith)
all_repeated p (suc zero) value some = right (p value)
  where
    right : (b : Bool) → (b && true) ≡ b
    right true = refl
    right false = refl
all_repeated p (suc (suc count)) value some = both (p value) _ (all_repeated p (suc count) value (omega arith))
  where
    both : (b d : Bool) → d ≡ b → (b && d) ≡ b
    both true d e = e
    both false d e = refl

pub all_on : (p : ℕ → Bool) (front : List ℕ) (count value : ℕ) → 0 < count
    → list_all p (front ++ replicate count value) ≡ (list_all p front && p value)
all_on p front count value some =
    list_all-append p front (replicate count value)
    ∙ ap (λ (b : Bool). list_all p front && b) (all_repeated p count value some)

-- So many levels were seen: none is above the highest.
pub record IsSeen (nullable : List Bool) (all left : List ℕ) (told : LevelsTold) : Type 0 where
  pub front : List ℕ
  pub parts : all ≡ front ++ left
  pub below : are_below nullable front ≡ true
  pub tells : AreTold nullable front told

pub none_seen : (nullable : List Bool) (all : List ℕ) (told : LevelsTold) → told.present ≡ 0 → told.nulls_may_stand ≡ true
    → IsSeen nullable all all told
none_seen nullable all told none fine = record {
  front = [];
  parts = refl;
  below = refl;
  tells = record { present = λ few. none; nulls = fine };
}

-- levels that are all 0, where nothing may be null
pub zeros_told : (count : ℕ) (told : LevelsTold) → told.present ≡ count → told.nulls_may_stand ≡ true
    → AreTold [] (replicate count 0) told
zeros_told count told all fine = record {
  present = λ few. omega (arith, all, counted_on (λ level. level == 0) [] count 0);
  nulls = fine ∙ sym (all_stand count);
}
  where
    all_stand : (count : ℕ) → list_all (may_stand []) (replicate count 0) ≡ true
    all_stand zero = refl
    all_stand (suc count) = all_stand count

pub seen_on : (nullable : List Bool) (all left more : List ℕ) (told new : LevelsTold) (count value : ℕ) → 0 < count
    → value ≤ length nullable → left ≡ replicate count value ++ more
    → ((front : List ℕ) → AreTold nullable front told → AreTold nullable (front ++ replicate count value) new)
    → IsSeen nullable all left told → IsSeen nullable all more new
seen_on nullable all left more told new count value some le is tells s = record {
  front = s.front ++ replicate count value;
  parts = s.parts ∙ ap (λ (t : List ℕ). s.front ++ t) is ∙ sym (append_assoc s.front (replicate count value) more);
  below =
      let yes : nat_le value (length nullable) ≡ true = grind (arith, le) in
      all_on (λ level. nat_le level (length nullable)) s.front count value some ∙ rw (s.below, yes) refl;
  tells = tells s.front s.tells;
}

pub seen_above : (nullable : List Bool) (all left more : List ℕ) (told : LevelsTold) (count value : ℕ) → 0 < count
    → length nullable < value → left ≡ replicate count value ++ more → IsSeen nullable all left told
    → are_below nullable all ≡ false
seen_above nullable all left more told count value some lt is s =
    let no : nat_le value (length nullable) ≡ false = grind (arith, lt) in
    let test : ℕ → Bool = λ level. nat_le level (length nullable) in
    let parts : all ≡ (s.front ++ replicate count value) ++ more =
    s.parts ∙ ap (λ (t : List ℕ). s.front ++ t) is ∙ sym (append_assoc s.front (replicate count value) more) in
    let front : list_all test (s.front ++ replicate count value) ≡ false =
    all_on test s.front count value some ∙ rw (s.below, no) refl in
    ap (list_all test) parts ∙ list_all-append test (s.front ++ replicate count value) more
    ∙ ap (λ (b : Bool). b && list_all test more) front

pub all_seen : (nullable : List Bool) (all left : List ℕ) (told : LevelsTold) → left ≡ [] → IsSeen nullable all left told
    → (are_below nullable all ≡ true) × AreTold nullable all told
all_seen nullable all left told none s =
    let is : all ≡ s.front = s.parts ∙ ap (λ (t : List ℕ). s.front ++ t) none ∙ append-nil s.front in
    (ap (are_below nullable) is ∙ s.below, subst (λ (levels : List ℕ). AreTold nullable levels told) (sym is) s.tells)

-- how many are the highest, with a run behind them
pub present_on : (nullable : List Bool) (front : List ℕ) (present new count value : ℕ)
    → new ≡ present + count * cond (value == length nullable) 1 0
    → (length front < 2 ^ 64 → present ≡ count_by (λ level. level == length nullable) front)
    → length (front ++ replicate count value) < 2 ^ 64
    → new ≡ count_by (λ level. level == length nullable) (front ++ replicate count value)
present_on nullable front present new count value is told few =
    let before : length front < 2 ^ 64 = omega (arith, few, length-append front (replicate count value)) in
    is ∙ ap (λ (n : ℕ). n + count * cond (value == length nullable) 1 0) (told before)
    ∙ sym (counted_on (λ level. level == length nullable) front count value)

-- nothing is cut off where there are so few
pub not_cut : (nullable : List Bool) (front : List ℕ) (present count value : ℕ)
    → (length front < 2 ^ 64 → present ≡ count_by (λ level. level == length nullable) front)
    → length (front ++ replicate count value) < 2 ^ 64 → present + count < 2 ^ 64
not_cut nullable front present count value told few =
    let size = length-append front (replicate count value) in
    let long = length-replicate count value in
    let before : length front < 2 ^ 64 = omega (arith, few, size) in
    omega (arith, few, size, long, told before, count_by-le-length (λ level. level == length nullable) front)
