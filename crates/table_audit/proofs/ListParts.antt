-- The checkpoints of a store, by version.
use Rattle.std.proofs.Common.{◌≡◌, ℕ, suc, ◌+◌, ◌<◌, ◌≤◌, ◌⊎◌, List, [], ◌∷◌, ◌++◌, Contains, Option, None, Some, length, map, option_map, slice_index_or, leb, drop, take, get_or, string_bytes, String, Global, Result, Ok, Err, IfOk, IfSome, refl, sym, ap, subst, ◌∙◌, arith, inl, inr}
use Rattle.std.specs.List.{AllByRecursion, filter_map}
use Rattle.std.specs.List.Sorted.{IsNonDecreasingBy, IsPermutation}
use Rattle.std.specs.Option.{IfNone}
use Rattle.std.proofs.lemmas.Bool.{cases_Bool, leb-true}
use Rattle.std.proofs.lemmas.List.{drop_more, map-append, map_more, take-append-drop, take_all}
use Rattle.std.proofs.lemmas.List.Elements.{filter_map-append}
use Rattle.std.proofs.lemmas.List.Sorted.{Contains-permutation, IsPermutation-sym}
use Rattle.std.specs.declared.alloc.AllocError.{AllocError}
use Rattle.store_core.specs.Names.{commit_version, greatest_version}
use Rattle.store_core.proofs.Callers.{named}
use Rattle.delta_checkpoint.specs.Names.{IsCheckpointName}
use Rattle.store_core.specs.Objects.{Objects, names_of, object_at}
use Rattle.table_log.specs.Restoring.{IsSoundCheckpoint, checkpoint_version}
use Rattle.table_log.proofs.Callers.{checkpoint_named, version_found}
use Rattle.table_check.specs.Below.{AreCheckpointsSoundBelow}
use Rattle.table_check.specs.Named.{least_named, or_checkpoint, unless_before, version_named}
use Rattle.table_check.proofs.Counts.{Among, all_from, among_from, among_to, each_among}
use Rattle.table_check.proofs.NameLists.{picked}
use Rattle.table_check.proofs.WalkEnds.{listed}
use Rattle.table_store.proofs.GroupLemmas.{all_push, map_turn}
use Rattle.table_audit.specs.Listed.{IsRising, IsVersionTold, listed_view, told}
use Rattle.table_audit.specs.declared.listing.Listed.{Listed}

-- ---- what is picked

kept_more : {A B : Type 0} (f : A → Option B) (P : B → Type 0) → ((x : A) (y : B) → f x ≡ Some y → P y) → (x : A) (xs : List A) (found : Option B) → f x ≡ found → AllByRecursion P (filter_map f xs) → AllByRecursion P (filter_map f (x ∷ xs))
kept_more f P each x xs None is all = rw is all
kept_more f P each x xs (Some y) is all = rw is (each x y is, all)

kept_all : {A B : Type 0} (f : A → Option B) (P : B → Type 0) → ((x : A) (y : B) → f x ≡ Some y → P y) → (xs : List A) → AllByRecursion P (filter_map f xs)
kept_all f P each [] = tt
kept_all f P each (x ∷ xs) = kept_more f P each x xs (f x) refl (kept_all f P each xs)

own_told : (name : List ℕ) (p : ℕ × List ℕ) (version : Option ℕ) → checkpoint_version name ≡ version → option_map (λ v. (v, name)) version ≡ Some p → IsVersionTold p
own_told name p None is told = absurd cc
own_told name p (Some version) is told = let same : (version, name) ≡ p = cc in subst IsVersionTold same is

-- ---- in the order of versions

rising_behind_first : (x : Listed) (ys : List Listed) → ((j : ℕ) (d : Listed) → j < length ys → x.version ≤ (slice_index_or ys j d).version) → AllByRecursion (λ q. x.version ≤ q.0) (map listed_view ys)
rising_behind_first x [] far = tt
rising_behind_first x (y ∷ ys) far = (far 0 y (omega arith), rising_behind_first x ys (λ j d fits. far (suc j) d (omega (arith, fits))))

pub rising : (xs : List Listed) → IsNonDecreasingBy (λ l. l.version) xs → IsRising (map listed_view xs)
rising [] up = tt
rising (x ∷ xs) up = (rising_behind_first x xs (λ j d fits. up 0 (suc j) d (omega arith) (omega (arith, fits))), rising xs (λ i j d low fits. up (suc i) (suc j) d (omega (arith, low)) (omega (arith, fits))))

module _ (names : List (List ℕ)) (before after : List (ℕ × List ℕ)) (is : before ≡ filter_map told names) (same : IsPermutation before after) where
  pub sorted_all : (name : List ℕ) (version : ℕ) → Contains names name → checkpoint_version name ≡ Some version → Contains after (version, name)
  sorted_all name version has tells =
      let one : told name ≡ Some (version, name) = ap (option_map (λ (v : ℕ). (v, name))) tells in
      let there : Among (version, name) before = subst (Among (version, name)) (sym is) (picked told names name (version, name) (among_from name names has) one) in
      Contains-permutation before after (version, name) same (among_to (version, name) before there)

  pub sorted_own : AllByRecursion IsVersionTold after
  sorted_own =
      let own : AllByRecursion IsVersionTold before = subst (AllByRecursion IsVersionTold) (sym is) (kept_all told IsVersionTold (λ name p tells. own_told name p (checkpoint_version name) refl tells) names) in
      all_from IsVersionTold after (λ p among. each_among IsVersionTold p before own (among_from p before (Contains-permutation after before p (IsPermutation-sym before after same) (among_to p after among))))

  pub sorted_same : IsPermutation (filter_map told names) after
  sorted_same = subst (λ (ps : List (ℕ × List ℕ)). IsPermutation ps after) is same

-- ---- those of versions below one

among_parts : {A : Type 0} (x : A) (xs ys : List A) → Among x (xs ++ ys) → Among x xs ⊎ Among x ys
among_parts x [] ys has = inr has
among_parts x (z ∷ xs) ys (inl is) = inl (inl is)
among_parts x (z ∷ xs) ys (inr more) = elim (among_parts x xs ys more) [
  | inl first ↦ inl (inr first)
  | inr second ↦ inr second
]

pub rising_behind : (taken : List (ℕ × List ℕ)) (p : ℕ × List ℕ) (rest : List (ℕ × List ℕ)) → IsRising (taken ++ p ∷ rest) → AllByRecursion (λ q. p.0 ≤ q.0) rest
rising_behind [] p rest up = up.0
rising_behind (q ∷ taken) p rest up = rising_behind taken p rest up.1

-- what stands under a checkpoint's name is sound
abbrev pub IsDone : Objects → ℕ × List ℕ → Type 0
IsDone objects p = (bytes : List ℕ) → object_at objects p.1 ≡ Some bytes → IsSoundCheckpoint objects p.0 bytes

module _ (objects : Objects) (ps : List (ℕ × List ℕ)) (all : (name : List ℕ) (version : ℕ) → Contains (names_of objects) name → checkpoint_version name ≡ Some version → Contains ps (version, name)) where
  stands_among : (name bytes : List ℕ) (version : ℕ) → checkpoint_version name ≡ Some version → object_at objects name ≡ Some bytes → Among (version, name) ps
  stands_among name bytes version tells there = among_from (version, name) ps (all name version (among_to name (names_of objects) (listed objects name bytes there)) tells)

  -- Where all are sound, those of the versions below any one are.
  pub done_below : (version : ℕ) → AllByRecursion (IsDone objects) ps → AreCheckpointsSoundBelow objects version
  done_below version done name at bytes tells before there = each_among (IsDone objects) (at, name) ps done (stands_among name bytes at tells there) bytes there

  -- Where those before one are, those of the versions below it are.
  pub part_below : (taken : List (ℕ × List ℕ)) (p : ℕ × List ℕ) (rest : List (ℕ × List ℕ)) → ps ≡ taken ++ p ∷ rest → IsRising ps → AllByRecursion (IsDone objects) taken → AreCheckpointsSoundBelow objects p.0
  part_below taken p rest is up done name at bytes tells before there =
      elim (among_parts (at, name) taken (p ∷ rest) (subst (Among (at, name)) is (stands_among name bytes at tells there))) [
        | inl first ↦ each_among (IsDone objects) (at, name) taken done first bytes there
        | inr later ↦ elim later [
          | inl here ↦ let same : at ≡ p.0 = ap (λ (q : ℕ × List ℕ). q.0) here in absurd (omega (arith, same, before))
          | inr behind ↦ let past : p.0 ≤ at = each_among (λ (q : ℕ × List ℕ). p.0 ≤ q.0) (at, name) rest (rising_behind taken p rest (subst IsRising is up)) behind in absurd (omega (arith, past, before))
        ]
      ]

-- a walk that isn't behind a version isn't behind a greater one
pub still_ahead : (next version : ℕ) (rest : List (ℕ × List ℕ)) → next ≤ suc version → AllByRecursion (λ q. version ≤ q.0) rest → AllByRecursion (λ q. next ≤ suc q.0) rest
still_ahead next version [] low all = tt
still_ahead next version (q ∷ rest) low all = (omega (arith, low, all.0), still_ahead next version rest low all.1)

-- ---- no name tells a version past the greatest

named_small : (name : List ℕ) (version : ℕ) (found : Option ℕ) → commit_version name ≡ found → or_checkpoint found name ≡ Some version → version ≤ greatest_version
named_small name version None is told = (checkpoint_named name version told).small
named_small name version (Some other) is told = let same : other ≡ version = cc in subst (λ (v : ℕ). v ≤ greatest_version) same (named name other is).1

unless_past : (found : Option ℕ) → ((version : ℕ) → found ≡ Some version → version ≤ greatest_version) → unless_before (suc greatest_version) found ≡ None
unless_past None small = refl
unless_past (Some version) small =
    elim (cases_Bool (leb (suc greatest_version) version)) [
      | inl past ↦ absurd (omega (arith, leb-true (suc greatest_version) version past, small version refl))
      | inr fits ↦ rw fits refl
    ]

pub none_past : (names : List (List ℕ)) → least_named (suc greatest_version) names ≡ None
none_past [] = refl
none_past (name ∷ names) = rw (unless_past (version_named name) (λ version is. named_small name version (commit_version name) refl is), none_past names) refl

-- ---- in the code

pub version_is : (name : List ℕ) (r : Result (Option ℕ) AllocError) → IfOk r (λ o. IfSome o (λ v. IsCheckpointName v name)) → IfOk r (λ o. IfNone o ((v : ℕ) → IsCheckpointName v name → ⊥)) → IfOk r (λ o. o ≡ checkpoint_version name)
version_is name (Ok o) found only = version_found name o found only
version_is name (Err e) found only = tt

pub told_more : (names : List (String Global)) (i : ℕ) (x : String Global) → i < length names → x ≡ get_or names i x → filter_map told (map string_bytes (take (i + 1) names)) ≡ filter_map told (map string_bytes (take i names)) ++ filter_map told (string_bytes x ∷ [])
told_more names i x more at =
    ap (filter_map told) (map_more string_bytes names i x more ∙ ap (λ (y : String Global). map string_bytes (take i names) ++ string_bytes y ∷ []) (sym at))
    ∙ filter_map-append told (map string_bytes (take i names)) (string_bytes x ∷ [])

-- the checkpoints before a place, the one there, and those behind it
pub parts_at : (xs : List Listed) (i : ℕ) (x : Listed) → i < length xs → x ≡ get_or xs i x → map listed_view xs ≡ map listed_view (take i xs) ++ listed_view x ∷ map listed_view (drop (i + 1) xs)
parts_at xs i x more at =
    ap (map listed_view) (sym (take-append-drop i xs) ∙ ap (λ (rest : List Listed). take i xs ++ rest) (drop_more xs i x more ∙ ap (λ (y : Listed). y ∷ drop (i + 1) xs) (sym at)))
    ∙ map-append listed_view (take i xs) (x ∷ drop (i + 1) xs)

pub first_ahead : (next : ℕ) → next ≡ 1 → (ps : List (ℕ × List ℕ)) → AllByRecursion (λ p. next ≤ suc p.0) ps
first_ahead next is [] = tt
first_ahead next is (p ∷ ps) = (omega (arith, is), first_ahead next is ps)

-- what holds of each of some and of one more
pub of_part : {A : Type 0} (P : A → Type 0) (taken : List A) (p : A) (rest : List A) → AllByRecursion P (taken ++ p ∷ rest) → P p
of_part P [] p rest all = all.0
of_part P (q ∷ taken) p rest all = of_part P taken p rest all.1

-- checkpoints, by version
pub record AreListed (items : List Listed) : Type 0 where
  pub own : AllByRecursion IsVersionTold (map listed_view items)
  pub up : IsRising (map listed_view items)

pub are_listed : (items seen : List Listed) → seen ≡ items → AllByRecursion IsVersionTold (map listed_view items) → IsRising (map listed_view items) → AreListed seen
are_listed items seen same own up = subst AreListed (sym same) (record { own = own; up = up })

module _ (items : List Listed) (are : AreListed items) (i : ℕ) (x : Listed) (more : i < length items) (at : x ≡ get_or items i x) where
  -- the checkpoint at a place
  pub told_at : checkpoint_version (string_bytes x.name) ≡ Some x.version
  told_at = of_part IsVersionTold (map listed_view (take i items)) (listed_view x) (map listed_view (drop (i + 1) items)) (subst (AllByRecursion IsVersionTold) (parts_at items i x more at) are.own)

  pub small_at : x.version ≤ greatest_version
  small_at = (checkpoint_named (string_bytes x.name) x.version told_at).small

  pub ahead_at : (next : ℕ) → AllByRecursion (λ p. next ≤ suc p.0) (map listed_view (drop i items)) → next ≤ suc x.version
  ahead_at next ahead =
      let here : drop i items ≡ x ∷ drop (i + 1) items = drop_more items i x more ∙ ap (λ (y : Listed). y ∷ drop (i + 1) items) (sym at) in
      (subst (λ (ls : List Listed). AllByRecursion (λ p. next ≤ suc p.0) (map listed_view ls)) here ahead).0

  pub ahead_more : (next : ℕ) → next ≡ suc x.version → AllByRecursion (λ p. next ≤ suc p.0) (map listed_view (drop (i + 1) items))
  ahead_more next here = still_ahead next x.version (map listed_view (drop (i + 1) items)) (omega (arith, here)) (rising_behind (map listed_view (take i items)) (listed_view x) (map listed_view (drop (i + 1) items)) (subst IsRising (parts_at items i x more at) are.up))

-- all checkpoints among names
abbrev pub AreAll : List (List ℕ) → List Listed → Type 0
AreAll names items = (name : List ℕ) (version : ℕ) → Contains names name → checkpoint_version name ≡ Some version → Contains (map listed_view items) (version, name)

pub all_listed : (objects : Objects) (names : List (List ℕ)) (items seen : List Listed) → names ≡ names_of objects → seen ≡ items → AreAll names items → AreAll (names_of objects) seen
all_listed objects names items seen are same all = λ name version has tells.
    subst (λ (ls : List Listed). Contains (map listed_view ls) (version, name)) (sym same) (all name version (subst (λ (ns : List (List ℕ)). Contains ns name) (sym are) has) tells)

module _ (objects : Objects) (items : List Listed) (all : AreAll (names_of objects) items) where
  -- Where all are sound, those of the versions below any one are.
  pub below_all : (i version : ℕ) → length items ≤ i → AllByRecursion (IsDone objects) (map listed_view (take i items)) → AreCheckpointsSoundBelow objects version
  below_all i version long done =
      done_below objects (map listed_view items) all version (subst (λ (ls : List Listed). AllByRecursion (IsDone objects) (map listed_view ls)) (take_all i items long) done)

  module _ (i : ℕ) (x : Listed) (more : i < length items) (at : x ≡ get_or items i x) where
    pub below_at : AreListed items → AllByRecursion (IsDone objects) (map listed_view (take i items)) → AreCheckpointsSoundBelow objects x.version
    below_at are done = part_below objects (map listed_view items) all (map listed_view (take i items)) (listed_view x) (map listed_view (drop (i + 1) items)) (parts_at items i x more at) are.up done

    pub done_more : AllByRecursion (IsDone objects) (map listed_view (take i items)) → IsDone objects (listed_view x) → AllByRecursion (IsDone objects) (map listed_view (take (i + 1) items))
    done_more done one = subst (AllByRecursion (IsDone objects)) (sym (map_turn listed_view items i (i + 1) x more refl at)) (all_push (IsDone objects) (map listed_view (take i items)) (listed_view x) done one)

-- the checkpoints among names, seen where they are
pub all_same : (names : List (List ℕ)) (items seen : List Listed) → seen ≡ items → IsPermutation (filter_map told names) (map listed_view items) → IsPermutation (filter_map told names) (map listed_view seen)
all_same names items seen same are = subst (λ (ls : List Listed). IsPermutation (filter_map told names) (map listed_view ls)) (sym same) are

-- the checkpoint at a place, and those behind it
pub here_at : (items : List Listed) (i : ℕ) (x : Listed) → i < length items → x ≡ get_or items i x → map listed_view (drop i items) ≡ listed_view x ∷ map listed_view (drop (i + 1) items)
here_at items i x more at = ap (map listed_view) (drop_more items i x more ∙ ap (λ (y : Listed). y ∷ drop (i + 1) items) (sym at))
