-- Where the cells of the values that fit stop being the given ones: the first cell up to which no value has them.
use Rattle.std.proofs.Common.{◌≡◌, ℕ, zero, suc, ◌+◌, ◌<◌, length, List, [], ◌∷◌, ◌++◌, map, take, drop, slice_get, Some, option_map, refl, sym, ap, ◌∙◌, arith}
use Rattle.std.proofs.Math.Seq.{take-append-add, drop-append_seam}
use Rattle.std.proofs.lemmas.List.{take-append-le, drop-take, length-append, length-map}
use Rattle.std.proofs.lemmas.Option.{slice_get-map}
use Rattle.schema_tree.specs.Fault.{Path, path_inside}
use Rattle.shred.specs.Columns.{Cell}

-- Of the values that fit one has the given cells before a place, and none has them up to it; a path stands there.
pub record FailsAt {V : Type 0} (Fit : V → Type 0) (its : V → List Cell) (paths : List Path) (cells : List Cell) (path : Path) : Type 0 where
  pub place : ℕ
  pub within : place < length paths
  pub told : slice_get paths place ≡ Some path
  pub some_value : V
  pub some_fits : Fit some_value
  pub some_agrees : take place (its some_value) ≡ take place cells
  pub none_agrees : (v : V) → Fit v → take (suc place) (its v) ≡ take (suc place) cells → ⊥

-- ---- lists

got_first : {A : Type 0} (xs ys : List A) (i : ℕ) → i < length xs → slice_get (xs ++ ys) i ≡ slice_get xs i
got_first [] ys i h = absurd (omega (arith, h))
got_first (x ∷ xs) ys zero h = refl
got_first (x ∷ xs) ys (suc i) h = let less : i < length xs = omega (arith, h) in got_first xs ys i less

got_other : {A : Type 0} (xs ys : List A) (i : ℕ) → slice_get (xs ++ ys) (length xs + i) ≡ slice_get ys i
got_other [] ys i = let e : 0 + i ≡ i = omega arith in ap (slice_get ys) e
got_other (x ∷ xs) ys i =
    let e : length (x ∷ xs) + i ≡ suc (length xs + i) = omega arith in
    ap (slice_get (x ∷ (xs ++ ys))) e ∙ got_other xs ys i

-- what is taken behind a front of this length
pub taken : {A : Type 0} (xs ys : List A) (n i : ℕ) → length xs ≡ n → take (n + i) (xs ++ ys) ≡ xs ++ take i ys
taken xs ys n i long = ap (λ m. take (m + i) (xs ++ ys)) (sym long) ∙ take-append-add xs ys i

dropped : {A : Type 0} (xs ys : List A) (n i : ℕ) → length xs ≡ n → drop n (take (n + i) (xs ++ ys)) ≡ take i ys
dropped xs ys n i long = drop-take n i (xs ++ ys) ∙ ap (take i) (ap (λ m. drop m (xs ++ ys)) (sym long) ∙ drop-append_seam xs ys)

-- ---- two values, one behind the other

abbrev pub Both : {A B : Type 0} → (A → Type 0) → (B → Type 0) → A × B → Type 0
Both FitA FitB x = FitA x.0 × FitB x.1

abbrev pub both : {A B : Type 0} → (A → List Cell) → (B → List Cell) → A × B → List Cell
both itsA itsB x = itsA x.0 ++ itsB x.1

abbrev pub paths_behind : List ℕ → List Path → List Path → List Path
paths_behind name paths others = map (path_inside name) paths ++ others

pub fails_first : {A B : Type 0} (FitA : A → Type 0) (FitB : B → Type 0) (itsA : A → List Cell) (itsB : B → List Cell) (name : List ℕ) (paths others : List Path) (cells : List Cell) (path : Path)
    → ((a : A) → FitA a → length (itsA a) ≡ length paths) → (b : B) → FitB b → FailsAt FitA itsA paths cells path
    → FailsAt (Both FitA FitB) (both itsA itsB) (paths_behind name paths others) cells (path_inside name path)
fails_first FitA FitB itsA itsB name paths others cells path long b fit f =
    let n = f.place in
    let within = f.within in
    let mapped = length-map paths (path_inside name) in
    let all = length-append (map (path_inside name) paths) others in
    record {
      place = n;
      within = omega (arith, within, mapped, all);
      told = got_first (map (path_inside name) paths) others n (omega (arith, within, mapped)) ∙ (slice_get-map (path_inside name) paths n ∙ ap (option_map (path_inside name)) f.told);
      some_value = (f.some_value, b);
      some_fits = (f.some_fits, fit);
      some_agrees = (let same = long f.some_value f.some_fits in take-append-le n (itsA f.some_value) (itsB b) (omega (arith, within, same)) ∙ f.some_agrees);
      none_agrees = λ x fits agrees. (let same = long x.0 fits.0 in f.none_agrees x.0 fits.0 (sym (take-append-le (suc n) (itsA x.0) (itsB x.1) (omega (arith, within, same))) ∙ agrees));
    }

pub fails_other : {A B : Type 0} (FitA : A → Type 0) (FitB : B → Type 0) (itsA : A → List Cell) (itsB : B → List Cell) (name : List ℕ) (paths others : List Path) (cells left : List Cell) (path : Path)
    → ((a : A) → FitA a → length (itsA a) ≡ length paths) → (a : A) → FitA a → cells ≡ itsA a ++ left → FailsAt FitB itsB others left path
    → FailsAt (Both FitA FitB) (both itsA itsB) (paths_behind name paths others) cells path
fails_other FitA FitB itsA itsB name paths others cells left path long a fit split f =
    let n = length paths in
    let k = f.place in
    let within = f.within in
    let mapped : length (map (path_inside name) paths) ≡ n = length-map paths (path_inside name) in
    let all = length-append (map (path_inside name) paths) others in
    record {
      place = n + k;
      within = omega (arith, within, mapped, all);
      told = ap (λ m. slice_get (paths_behind name paths others) (m + k)) (sym mapped) ∙ (got_other (map (path_inside name) paths) others k ∙ f.told);
      some_value = (a, f.some_value);
      some_fits = (fit, f.some_fits);
      some_agrees = taken (itsA a) (itsB f.some_value) n k (long a fit) ∙ (ap (λ cs. itsA a ++ cs) f.some_agrees ∙ (sym (taken (itsA a) left n k (long a fit)) ∙ ap (take (n + k)) (sym split)));
      none_agrees = λ x fits agrees. (let more : suc (n + k) ≡ n + suc k = omega arith in
          let there : take (n + suc k) (itsA x.0 ++ itsB x.1) ≡ take (n + suc k) (itsA a ++ left) = ap (λ m. take m (itsA x.0 ++ itsB x.1)) (sym more) ∙ (agrees ∙ (ap (λ m. take m cells) more ∙ ap (take (n + suc k)) split)) in
          f.none_agrees x.1 fits.1 (sym (dropped (itsA x.0) (itsB x.1) n (suc k) (long x.0 fits.0)) ∙ (ap (drop n) there ∙ dropped (itsA a) left n (suc k) (long a fit))));
    }

-- the same values under another form
pub fails_as : {A B : Type 0} (FitA : A → Type 0) (FitB : B → Type 0) (itsA : A → List Cell) (itsB : B → List Cell) (paths : List Path) (cells : List Cell) (path : Path)
    → (there : A → B) → ((a : A) → FitA a → FitB (there a)) → ((a : A) → FitA a → itsB (there a) ≡ itsA a) → ((b : B) → FitB b → (a : A) × FitA a × (itsA a ≡ itsB b))
    → FailsAt FitA itsA paths cells path → FailsAt FitB itsB paths cells path
fails_as FitA FitB itsA itsB paths cells path there fits same back f =
    record {
      place = f.place;
      within = f.within;
      told = f.told;
      some_value = there f.some_value;
      some_fits = fits f.some_value f.some_fits;
      some_agrees = ap (take f.place) (same f.some_value f.some_fits) ∙ f.some_agrees;
      none_agrees = λ b fit agrees. (let a = back b fit in f.none_agrees a.0 a.1 (ap (take (suc f.place)) a.2 ∙ agrees));
    }
