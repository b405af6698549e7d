-- The names to save: each is there once.
use Rattle.std.proofs.Common.{◌≡◌, ◌<◌, ◌++◌, ◌∷◌, [], ℕ, zero, suc, Bool, true, false, cond, List, length, take, drop, get_or, refl, sym, ◌∙◌, ap, arith}
use Rattle.std.specs.Prelude.{◌&&◌, ◌||◌, not, filter, bytes_eq, nat_eq, codes}
use Rattle.std.specs.declared.cmp.Ordering.TheVariants.{Less}
use Rattle.std.specs.Ordering.{is_eq}
use Rattle.std.specs.List.{AllByRecursion, list_any, starts_with, ends_with}
use Rattle.std.specs.List.Sorted.{IsStrictlySortedBy}
use Rattle.std.proofs.lemmas.Bool.{and_parts}
use Rattle.std.proofs.lemmas.List.Folds.{list_any-append}
use Rattle.std.proofs.lemmas.Map.Text.{is_eq-slice_cmp}
use Rattle.std.proofs.lemmas.Slice.Eq.{bytes_eq-Decides}
use Rattle.store_core.specs.Objects.{name_order}
use Rattle.table_folder.specs.Kinds.{has_version, is_data, is_commit, is_checkpoint}
use Rattle.table_folder.specs.Copies.{not_loaded, to_save}
use Rattle.table_folder.proofs.CopyLemmas.{list_any-filter}
use Rattle.table_folder.proofs.NameLemmas.{bytes_eq_comm}

-- no name is there twice
abbrev pub IsApart : List (List ℕ) → Type 0
IsApart [] = Unit {0}
IsApart (n ∷ ns) = (list_any (bytes_eq n) ns ≡ false) × IsApart ns

-- a choice of names that aren't there twice
pub apart_filter : (test : List ℕ → Bool) (ns : List (List ℕ)) → IsApart ns → IsApart (filter test ns)
apart_filter test [] h = tt
apart_filter test (n ∷ ns) h = by_case (test n) (apart_filter test ns h.1)
  where
    none : (b : Bool) → (b && false) ≡ false
    none true = refl
    none false = refl

    by_case : (b : Bool) → IsApart (filter test ns) → IsApart (cond b (n ∷ filter test ns) (filter test ns))
    by_case true later = (list_any-filter test ns n ∙ ap (λ b. test n && b) h.0 ∙ none (test n), later)
    by_case false later = later

-- two lists with no name in common
apart_append : (ms ns : List (List ℕ)) → IsApart ms → IsApart ns → ((n : List ℕ) → list_any (bytes_eq n) ms ≡ true → list_any (bytes_eq n) ns ≡ false) → IsApart (ms ++ ns)
apart_append [] ns g h apart = h
apart_append (m ∷ ms) ns g h apart = (
  list_any-append (bytes_eq m) ms ns ∙ (λ i. g.0 i || apart m (ap (λ b. b || list_any (bytes_eq m) ms) ((bytes_eq-Decides m m).1 refl)) i),
  apart_append ms ns g.1 h (λ n e. apart n (either (bytes_eq n m) (list_any (bytes_eq n) ms) e)),
)
  where
    either : (a b : Bool) → b ≡ true → (a || b) ≡ true
    either true b e = refl
    either false b e = e

-- names that rise
pub apart_rising : (ns : List (List ℕ)) → IsStrictlySortedBy name_order ns → IsApart ns
unfolding IsStrictlySortedBy
apart_rising [] h = tt
apart_rising (n ∷ ns) h = (none ns h.0, apart_rising ns h.1)
  where
    none : (ms : List (List ℕ)) → AllByRecursion (λ m. name_order n m ≡ Less) ms → list_any (bytes_eq n) ms ≡ false
    none [] g = refl
    none (m ∷ ms) g = λ i. (sym (is_eq-slice_cmp n m) ∙ ap is_eq g.0) i || none ms g.1 i

-- a commit is no checkpoint
pub commit_only : (name : List ℕ) → is_commit name ≡ true → is_checkpoint name ≡ false
unfolding is_commit is_checkpoint
commit_only name e =
    let rest : drop 31 name ≡ codes ".json" = (bytes_eq-Decides (drop 31 name) (codes ".json")).0 (and_parts (has_version name) (bytes_eq (drop 31 name) (codes ".json")) e).1 in
    (λ i. has_version name && starts_with nat_eq (rest i) (codes ".checkpoint.") && ends_with nat_eq name (codes ".json"))
    ∙ none (has_version name) (ends_with nat_eq name (codes ".json"))
  where
    none : (a b : Bool) → (a && false && b) ≡ false
    none true b = refl
    none false b = refl

-- no name is saved twice
pub apart_to_save : (loaded stored : List (List ℕ)) → IsApart stored → IsApart (to_save loaded stored)
apart_to_save loaded stored h =
    apart_append (filter is_data (not_loaded loaded stored) ++ filter is_commit (not_loaded loaded stored)) (filter is_checkpoint (not_loaded loaded stored))
    (apart_append (filter is_data (not_loaded loaded stored)) (filter is_commit (not_loaded loaded stored))
    (apart_filter is_data (not_loaded loaded stored) left) (apart_filter is_commit (not_loaded loaded stored) left) no_commit)
    (apart_filter is_checkpoint (not_loaded loaded stored) left) no_checkpoint
  where
    left : IsApart (not_loaded loaded stored)
    left = apart_filter (λ n. not (list_any (bytes_eq n) loaded)) stored h

    commit : (c p l : Bool) → ((not c && not p) && l) ≡ true → (c && l) ≡ false
    commit true p l e = cc
    commit false p l e = refl

    no_commit : (n : List ℕ) → list_any (bytes_eq n) (filter is_data (not_loaded loaded stored)) ≡ true → list_any (bytes_eq n) (filter is_commit (not_loaded loaded stored)) ≡ false
    no_commit n e =
        list_any-filter is_commit (not_loaded loaded stored) n
        ∙ commit (is_commit n) (is_checkpoint n) (list_any (bytes_eq n) (not_loaded loaded stored)) (sym (list_any-filter is_data (not_loaded loaded stored) n) ∙ e)

    checkpoint : (c p l : Bool) → (c ≡ true → p ≡ false) → (((not c && not p) && l) || (c && l)) ≡ true → (p && l) ≡ false
    checkpoint true p l only e = ap (λ b. b && l) (only refl)
    checkpoint false true l only e = cc
    checkpoint false false l only e = refl

    no_checkpoint : (n : List ℕ) → list_any (bytes_eq n) (filter is_data (not_loaded loaded stored) ++ filter is_commit (not_loaded loaded stored)) ≡ true → list_any (bytes_eq n) (filter is_checkpoint (not_loaded loaded stored)) ≡ false
    no_checkpoint n e =
        list_any-filter is_checkpoint (not_loaded loaded stored) n
        ∙ checkpoint (is_commit n) (is_checkpoint n) (list_any (bytes_eq n) (not_loaded loaded stored)) (commit_only n)
        ((λ i. sym (list_any-filter is_data (not_loaded loaded stored) n) i || sym (list_any-filter is_commit (not_loaded loaded stored) n) i)
        ∙ sym (list_any-append (bytes_eq n) (filter is_data (not_loaded loaded stored)) (filter is_commit (not_loaded loaded stored))) ∙ e)

-- a name that isn't listed is none of those at the places
none_at : (test : List ℕ → Bool) (ns : List (List ℕ)) (i : ℕ) (d : List ℕ) → list_any test ns ≡ false → i < length ns → test (get_or ns i d) ≡ false
none_at test [] i d none lt = absurd (omega arith)
none_at test (n ∷ ns) zero d none lt = first (test n) (list_any test ns) none
  where
    first : (a b : Bool) → (a || b) ≡ false → a ≡ false
    first true b e = e
    first false b e = refl
none_at test (n ∷ ns) (suc i) d none lt = none_at test ns i d (rest (test n) (list_any test ns) none) (omega arith)
  where
    rest : (a b : Bool) → (a || b) ≡ false → b ≡ false
    rest true b e = cc
    rest false b e = e

-- a name at a place isn't before it
pub apart_before : (ns : List (List ℕ)) (i : ℕ) (n : List ℕ) → IsApart ns → i < length ns → n ≡ get_or ns i n → list_any (bytes_eq n) (take i ns) ≡ false
apart_before [] i n h lt e = absurd (omega arith)
apart_before (m ∷ ms) zero n h lt e = refl
apart_before (m ∷ ms) (suc i) n h lt e =
    (λ k. (bytes_eq_comm n m ∙ ap (bytes_eq m) e ∙ none_at (bytes_eq m) ms i n h.0 (omega arith)) k || apart_before ms i n h.1 (omega arith) e k)

-- a name at a place is listed
pub listed_at : (ns : List (List ℕ)) (i : ℕ) (n : List ℕ) → i < length ns → n ≡ get_or ns i n → list_any (bytes_eq n) ns ≡ true
listed_at ns i n lt e = by_case (list_any (bytes_eq n) ns) refl
  where
    by_case : (b : Bool) → list_any (bytes_eq n) ns ≡ b → b ≡ true
    by_case true f = refl
    by_case false f = sym (sym ((bytes_eq-Decides n (get_or ns i n)).1 e) ∙ none_at (bytes_eq n) ns i n f lt)
