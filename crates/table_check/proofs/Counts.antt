-- Lists with the same elements, each as often.
use Rattle.std.proofs.Common.{◌≡◌, ℕ, zero, suc, ◌<◌, ◌≤◌, Bool, true, false, cond, List, [], ◌∷◌, length, map, Contains, slice_index_or, refl, sym, ap, ap₂, subst, ◌∙◌, arith, inl, inr, ◌⊎◌}
use Rattle.std.specs.Prelude.{filter, bytes_eq}
use Rattle.std.specs.Cmp.Lexicographic.{slice_cmp}
use Rattle.std.specs.Ordering.{nat_cmp, is_lt, is_eq, ordering_reverse}
use Rattle.std.proofs.lemmas.Map.Text.{is_eq-slice_cmp}
use Rattle.std.specs.declared.cmp.Ordering.{Ordering}
use Rattle.std.specs.declared.cmp.Ordering.TheVariants.{Less, Equal, Greater}
use Rattle.std.specs.List.{AllByRecursion}
use Rattle.std.specs.List.Sorted.{IsPermutation, IsSorted}
use Rattle.std.proofs.lemmas.Bool.{cases_Bool}
use Rattle.std.proofs.lemmas.Cmp.{nat_list_cmp_total}
use Rattle.std.proofs.lemmas.List.Sorted.{ranks_by, sorted_far, sum_by-IsPermutation}
use Rattle.std.proofs.lemmas.List.Sums.{length-filter}
use Rattle.std.proofs.lemmas.Slice.Eq.{bytes_eq-Decides}

-- how many of these pass a test
abbrev pub count : {A : Type 0} → (A → Bool) → List A → ℕ
count p xs = length (filter p xs)

-- one of these
abbrev pub Among : {A : Type 0} → A → List A → Type 0
Among x [] = ⊥
Among x (y ∷ ys) = (x ≡ y) ⊎ Among x ys

-- a list and its permutation have as many that pass a test
pub count_permuted : {A : Type 0} (p : A → Bool) (xs ys : List A) → IsPermutation xs ys → count p xs ≡ count p ys
count_permuted p xs ys same = length-filter p xs ∙ (sym (sum_by-IsPermutation (λ x. cond (p x) 1 0) xs ys same) ∙ sym (length-filter p ys))

module _ {A : Type 0} where
  pub among_from : (x : A) (xs : List A) → Contains xs x → Among x xs
  among_from x [] has = omega (arith, has.1)
  among_from x (y ∷ ys) (zero, lt, is) = inl (sym is)
  among_from x (y ∷ ys) (suc k, lt, is) = inr (among_from x ys (k, omega (arith, lt), is))

  pub among_to : (x : A) (xs : List A) → Among x xs → Contains xs x
  among_to x [] has = absurd has
  among_to x (y ∷ ys) (inl is) = (0, omega arith, sym is)
  among_to x (y ∷ ys) (inr more) = let later = among_to x ys more in (suc later.0, omega (arith, later.1), later.2)

  -- what is kept by a test is one of all, and passes
  pub among_kept : (p : A → Bool) (x : A) (xs : List A) → Among x (filter p xs) → Among x xs × (p x ≡ true)
  among_kept p x [] has = absurd has
  among_kept p x (y ∷ ys) has =
      elim (cases_Bool (p y)) [
        | inl hit ↦ let there : Among x (y ∷ filter p ys) = rw hit at has in elim there [
          | inl is ↦ (inl is, ap p is ∙ hit)
          | inr more ↦ let later = among_kept p x ys more in (inr later.0, later.1)
        ]
        | inr miss ↦ let more : Among x (filter p ys) = rw miss at has in let later = among_kept p x ys more in (inr later.0, later.1)
      ]

  pub kept_among : (p : A → Bool) (x : A) (xs : List A) → Among x xs → p x ≡ true → Among x (filter p xs)
  kept_among p x [] has passes = absurd has
  kept_among p x (y ∷ ys) (inl is) passes = let hit : p y ≡ true = ap p (sym is) ∙ passes in rw hit (inl is)
  kept_among p x (y ∷ ys) (inr more) passes =
      elim (cases_Bool (p y)) [
        | inl hit ↦ rw hit (inr (kept_among p x ys more passes))
        | inr miss ↦ rw miss (kept_among p x ys more passes)
      ]

  -- what the same test keeps of both, where it keeps one at most
  one_of_each : (p : A → Bool) (xs ys : List A) → ((x : A) → Among x xs → Among x ys) → (first second : List A) → first ≡ filter p xs → second ≡ filter p ys → length first ≡ length second → length second ≤ 1 → first ≡ second
  one_of_each p xs ys other [] [] is same long few = refl
  one_of_each p xs ys other [] (y ∷ second) is same long few = absurd (omega (arith, long))
  one_of_each p xs ys other (x ∷ first) [] is same long few = absurd (omega (arith, long))
  one_of_each p xs ys other (x ∷ []) (y ∷ []) is same long few =
      let kept = among_kept p x xs (subst (Among x) is (inl refl)) in
      let there : Among x (y ∷ []) = subst (Among x) (sym same) (kept_among p x ys (other x kept.0) kept.1) in
      ap (λ (z : A). z ∷ []) (elim there [ inl e ↦ e | inr none ↦ absurd none ])
  one_of_each p xs ys other (x ∷ []) (y ∷ z ∷ second) is same long few = absurd (omega (arith, few))
  one_of_each p xs ys other (x ∷ w ∷ first) (y ∷ []) is same long few = absurd (omega (arith, long))
  one_of_each p xs ys other (x ∷ w ∷ first) (y ∷ z ∷ second) is same long few = absurd (omega (arith, few))

  pub one_kept : (p : A → Bool) (xs ys : List A) → ((x : A) → Among x xs → Among x ys) → count p xs ≡ count p ys → count p ys ≤ 1 → filter p xs ≡ filter p ys
  one_kept p xs ys other long few = one_of_each p xs ys other (filter p xs) (filter p ys) refl refl long few

  -- one that passes a test, or none does
  pub find : (p : A → Bool) (xs : List A) → ((x : A) × Among x xs × (p x ≡ true)) ⊎ (filter p xs ≡ [])
  find p [] = inr refl
  find p (x ∷ xs) =
      elim (cases_Bool (p x)) [
        | inl hit ↦ inl (x, inl refl, hit)
        | inr miss ↦ elim (find p xs) [
          | inl more ↦ inl (more.0, inr more.1, more.2)
          | inr none ↦ inr (rw miss none)
        ]
      ]

  -- where what passes one test passes another, the first keeps the same of what the other keeps
  pub kept_of_kept : (p q : A → Bool) (xs : List A) → ((x : A) → Among x xs → p x ≡ true → q x ≡ true) → filter p (filter q xs) ≡ filter p xs
  kept_of_kept p q [] both = refl
  kept_of_kept p q (x ∷ xs) both =
      let more : filter p (filter q xs) ≡ filter p xs = kept_of_kept p q xs (λ y later. both y (inr later)) in
      elim (cases_Bool (q x)) [
        | inl hit ↦ elim (cases_Bool (p x)) [
          | inl passes ↦ rw (hit, passes, more) refl
          | inr fails ↦ rw (hit, fails, more) refl
        ]
        | inr miss ↦ elim (cases_Bool (p x)) [
          | inl passes ↦ let wrong : false ≡ true = sym miss ∙ both x (inl refl) passes in absurd cc
          | inr fails ↦ rw (miss, fails, more) refl
        ]
      ]

  pub each_among : (P : A → Type 0) (x : A) (xs : List A) → AllByRecursion P xs → Among x xs → P x
  each_among P x [] all has = absurd has
  each_among P x (y ∷ ys) all (inl is) = subst P (sym is) all.0
  each_among P x (y ∷ ys) all (inr more) = each_among P x ys all.1 more

  pub all_from : (P : A → Type 0) (xs : List A) → ((x : A) → Among x xs → P x) → AllByRecursion P xs
  all_from P [] each = tt
  all_from P (x ∷ xs) each = (each x (inl refl), all_from P xs (λ y later. each y (inr later)))

  -- what a test keeps of images
  kept_images : (f : A → List ℕ) (l : List ℕ) (xs : List A) → count (bytes_eq l) (map f xs) ≡ count (λ x. bytes_eq l (f x)) xs
  kept_images f l [] = refl
  kept_images f l (x ∷ xs) =
      elim (cases_Bool (bytes_eq l (f x))) [
        | inl hit ↦ rw hit (ap suc (kept_images f l xs))
        | inr miss ↦ rw miss (kept_images f l xs)
      ]

  module _ (f : A → List ℕ) (P : A → Type 0) (once : (x y : A) → P x → P y → f x ≡ f y → x ≡ y) (Kind : Type 0) (is : Kind → A → Bool) (l : List ℕ) where
    -- those with the text of one are among those of its kind
    of_kind : (a : A) (k : Kind) (xs : List A) → P a → bytes_eq l (f a) ≡ true → is k a ≡ true → AllByRecursion P xs → count (λ x. bytes_eq l (f x)) (filter (is k) xs) ≡ count (λ x. bytes_eq l (f x)) xs
    of_kind a k xs own here kind all =
        ap length (kept_of_kept (λ x. bytes_eq l (f x)) (is k) xs (λ x among same.
        let text : f a ≡ f x = sym ((bytes_eq-Decides l (f a)).0 here) ∙ (bytes_eq-Decides l (f x)).0 same in
        ap (is k) (sym (once a x own (each_among P x xs all among) text)) ∙ kind))

    by_one : (a : A) (k : Kind) (xs ys : List A) → P a → bytes_eq l (f a) ≡ true → is k a ≡ true → AllByRecursion P xs → AllByRecursion P ys → filter (is k) xs ≡ filter (is k) ys
        → count (λ x. bytes_eq l (f x)) xs ≡ count (λ x. bytes_eq l (f x)) ys
    by_one a k xs ys own here kind all others same =
        sym (of_kind a k xs own here kind all) ∙ (ap (λ (zs : List A). count (λ x. bytes_eq l (f x)) zs) same ∙ of_kind a k ys own here kind others)

    -- Lists of which each kind is the same have the same texts, each as often.
    pub same_texts : (xs ys : List A) → AllByRecursion P xs → AllByRecursion P ys → AllByRecursion (λ x. (k : Kind) × (is k x ≡ true)) xs → AllByRecursion (λ x. (k : Kind) × (is k x ≡ true)) ys
        → ((k : Kind) → filter (is k) xs ≡ filter (is k) ys) → count (bytes_eq l) (map f xs) ≡ count (bytes_eq l) (map f ys)
    same_texts xs ys all others kinds kinds_too same =
        kept_images f l xs ∙ (by_found (find (λ x. bytes_eq l (f x)) xs) (find (λ x. bytes_eq l (f x)) ys) ∙ sym (kept_images f l ys))
      where
        by_found : ((x : A) × Among x xs × (bytes_eq l (f x) ≡ true)) ⊎ (filter (λ x. bytes_eq l (f x)) xs ≡ []) → ((x : A) × Among x ys × (bytes_eq l (f x) ≡ true)) ⊎ (filter (λ x. bytes_eq l (f x)) ys ≡ [])
            → count (λ x. bytes_eq l (f x)) xs ≡ count (λ x. bytes_eq l (f x)) ys
        by_found (inl a) found =
            let kind = each_among (λ x. (k : Kind) × (is k x ≡ true)) a.0 xs kinds a.1 in
            by_one a.0 kind.0 xs ys (each_among P a.0 xs all a.1) a.2 kind.1 all others (same kind.0)
        by_found (inr none) (inl b) =
            let kind = each_among (λ x. (k : Kind) × (is k x ≡ true)) b.0 ys kinds_too b.1 in
            by_one b.0 kind.0 xs ys (each_among P b.0 ys others b.1) b.2 kind.1 all others (same kind.0)
        by_found (inr none) (inr none_too) = ap length none ∙ sym (ap length none_too)

-- ---- texts in order

-- no text is below one before it
abbrev pub AreUp : List (List ℕ) → Type 0
AreUp [] = Unit {0}
AreUp (x ∷ xs) = AllByRecursion (λ y. is_lt (slice_cmp nat_cmp y x) ≡ false) xs × AreUp xs

-- a text is among those that have as many of it
has_it : (l : List ℕ) (xs : List (List ℕ)) → 0 < count (bytes_eq l) xs → Among l xs
has_it l [] some = omega (arith, some)
has_it l (x ∷ xs) some =
    elim (cases_Bool (bytes_eq l x)) [
      | inl hit ↦ inl ((bytes_eq-Decides l x).0 hit)
      | inr miss ↦ let more : 0 < count (bytes_eq l) xs = rw miss at some in inr (has_it l xs more)
    ]

own_count : (x : List ℕ) (xs : List (List ℕ)) → count (bytes_eq x) (x ∷ xs) ≡ suc (count (bytes_eq x) xs)
own_count x xs = let own : bytes_eq x x ≡ true = (bytes_eq-Decides x x).1 refl in rw own refl

-- neither of two texts is below the other: they are the same
tied : (x y : List ℕ) → is_lt (slice_cmp nat_cmp x y) ≡ false → is_lt (slice_cmp nat_cmp y x) ≡ false → x ≡ y
tied x y over over_too = by_order (slice_cmp nat_cmp x y) refl (slice_cmp nat_cmp y x) refl
  where
    by_order : (o : Ordering) → slice_cmp nat_cmp x y ≡ o → (back : Ordering) → slice_cmp nat_cmp y x ≡ back → x ≡ y
    by_order Less is back is_back = let wrong : true ≡ false = sym (ap is_lt is) ∙ over in absurd cc
    by_order Equal is back is_back = (bytes_eq-Decides x y).0 (sym (is_eq-slice_cmp x y) ∙ ap is_eq is)
    by_order Greater is Less is_back = let wrong : true ≡ false = sym (ap is_lt is_back) ∙ over_too in absurd cc
    by_order Greater is Equal is_back = sym ((bytes_eq-Decides y x).0 (sym (is_eq-slice_cmp y x) ∙ ap is_eq is_back))
    by_order Greater is Greater is_back = let wrong : Greater ≡ Less = sym is ∙ (nat_list_cmp_total.antisymm x y ∙ ap ordering_reverse is_back) in absurd cc

-- Lists of texts in order that have as many of each are the same.
pub same_in_order : (xs ys : List (List ℕ)) → AreUp xs → AreUp ys → ((l : List ℕ) → count (bytes_eq l) xs ≡ count (bytes_eq l) ys) → xs ≡ ys
same_in_order [] [] up up_too same = refl
same_in_order [] (y ∷ ys) up up_too same = absurd (omega (arith, same y, own_count y ys))
same_in_order (x ∷ xs) [] up up_too same = absurd (omega (arith, same x, own_count x xs))
same_in_order (x ∷ xs) (y ∷ ys) up up_too same =
    let there : Among x (y ∷ ys) = has_it x (y ∷ ys) (omega (arith, same x, own_count x xs)) in
    let here : Among y (x ∷ xs) = has_it y (x ∷ xs) (omega (arith, same y, own_count y ys)) in
    let first : x ≡ y = elim there [
      | inl is ↦ is
      | inr more ↦ elim here [
        | inl is ↦ sym is
        | inr later ↦ tied x y (each_among (λ z. is_lt (slice_cmp nat_cmp z y) ≡ false) x ys up_too.0 more) (each_among (λ z. is_lt (slice_cmp nat_cmp z x) ≡ false) y xs up.0 later)
      ]
    ] in
    ap₂ (λ (z : List ℕ) (zs : List (List ℕ)). z ∷ zs) first (same_in_order xs ys up.1 up_too.1 (λ l. rest l first (same l)))
  where
    rest : (l : List ℕ) → x ≡ y → count (bytes_eq l) (x ∷ xs) ≡ count (bytes_eq l) (y ∷ ys) → count (bytes_eq l) xs ≡ count (bytes_eq l) ys
    rest l first same =
        elim (cases_Bool (bytes_eq l x)) [
          | inl hit ↦
              let hit_too : bytes_eq l y ≡ true = ap (bytes_eq l) (sym first) ∙ hit in
              let both : suc (count (bytes_eq l) xs) ≡ suc (count (bytes_eq l) ys) = rw (hit, hit_too) at same in omega (arith, both)
          | inr miss ↦
              let miss_too : bytes_eq l y ≡ false = ap (bytes_eq l) (sym first) ∙ miss in
              rw (miss, miss_too) at same
        ]

-- what a sort leaves is in order
up_by : (xs : List (List ℕ)) → ((i j : ℕ) (d : List ℕ) → i ≤ j → j < length xs → is_lt (slice_cmp nat_cmp (slice_index_or xs j d) (slice_index_or xs i d)) ≡ false) → AreUp xs
up_by [] far = tt
up_by (x ∷ xs) far = (behind xs (λ j d fits. far 0 (suc j) d (omega arith) (omega (arith, fits))), up_by xs (λ i j d low fits. far (suc i) (suc j) d (omega (arith, low)) (omega (arith, fits))))
  where
    behind : (ys : List (List ℕ)) → ((j : ℕ) (d : List ℕ) → j < length ys → is_lt (slice_cmp nat_cmp (slice_index_or ys j d) x) ≡ false) → AllByRecursion (λ y. is_lt (slice_cmp nat_cmp y x) ≡ false) ys
    behind [] far = tt
    behind (y ∷ ys) far = (far 0 y (omega arith), behind ys (λ j d fits. far (suc j) d (omega (arith, fits))))

pub up_from_sort : (xs : List (List ℕ)) → IsSorted (slice_cmp nat_cmp) xs → AreUp xs
up_from_sort xs sorted = up_by xs (sorted_far (λ x y. is_lt (slice_cmp nat_cmp x y)) (ranks_by nat_list_cmp_total (λ x. x)) xs sorted)
