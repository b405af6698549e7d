-- A log leaves no path twice: the files that it leaves are those that the newest action of each path leaves.
use Rattle.std.proofs.Common.{◌≡◌, ℕ, zero, suc, Bool, true, false, List, [], ◌∷◌, ◌++◌, map, Contains, refl, sym, ap, subst, ◌∙◌, append_assoc, arith, inl, inr, ◌⊎◌}
use Rattle.std.specs.Prelude.{◌==◌, bytes_eq, filter, not}
use Rattle.std.specs.List.{flat_map}
use Rattle.std.proofs.lemmas.Bool.{false≢true, cases_Bool, and_parts, eqb-true, false_from_ne_true}
use Rattle.std.proofs.lemmas.Slice.Eq.{bytes_eq-Decides}
use Rattle.std.proofs.lemmas.List.{append-nil, map-append}
use Rattle.std.proofs.lemmas.List.Concat.{flat_map-append}
use Rattle.std.proofs.lemmas.List.Elements.{All-contains, All-contains_itself, All-filter, All-map, All-weaker, Contains-append_cases, Contains-append_left, Contains-append_right}
use Rattle.std.proofs.lemmas.List.Folds.{list_any-append}
use Rattle.std.proofs.lemmas.Map.Views.{Contains-from_any}
use Rattle.table_model.specs.Table.{FileName, of_batch, named, Batch, File, ToldNumber, Entry, creation, group, close, batch_file, told_of, gives, names, numbers_by, takes, tells}
use Rattle.table_model.specs.Live.{is_same_path, is_path_among, live, newest_behind, newest_from}
use Rattle.table_model.specs.Lawful.{AreDifferent, IsLawful, Rises, Suits}
use Rattle.table_model.proofs.Batches.{numbers_in, numbers_by-append, Rises-apart, Rises-front}
use Rattle.table_model.proofs.Facts.{Contains-map}
use Rattle.table_model.proofs.Live.{along, live-push, without}

abbrev paths_of : List File → List FileName
paths_of files = map (λ f. f.path) files

-- ---- paths that differ

-- what is left was there
was_path : (stays : File → Bool) (files : List File) (p : FileName) → Contains (paths_of (filter stays files)) p → Contains (paths_of files) p
was_path stays files p among =
    let each = All-weaker (Contains files) (λ f. Contains (paths_of files) f.path) (λ f here. Contains-map (λ (g : File). g.path) files f here) files (All-contains_itself files) in
    let left = All-filter stays (λ f. Contains (paths_of files) f.path) files each in
    All-contains (Contains (paths_of files)) (paths_of (filter stays files)) p (All-map (Contains (paths_of files)) (λ (g : File). g.path) (filter stays files) left) among

different_left : (stays : File → Bool) (files : List File) → AreDifferent (paths_of files) → AreDifferent (paths_of (filter stays files))
different_left stays [] d = tt
different_left stays (f ∷ files) d =
    elim (cases_Bool (stays f)) [
      | inl yes_ ↦ rw yes_ (λ among. d.0 (was_path stays files f.path among), different_left stays files d.1)
      | inr no_ ↦ rw no_ (different_left stays files d.1)
    ]

different_append : {A : Type 0} (xs ys : List A) → AreDifferent xs → AreDifferent ys → ((x : A) → Contains xs x → Contains ys x → ⊥) → AreDifferent (xs ++ ys)
different_append [] ys d e apart = e
different_append (x ∷ xs) ys d e apart = (
  λ among. elim (Contains-append_cases xs ys x among) [
    | inl here ↦ d.0 here
    | inr there ↦ apart x (0, omega arith, refl) there
  ],
  different_append xs ys d.1 e (λ y here there. apart y (Contains-append_right (x ∷ []) xs y here) there),
)

-- batches of different applications have different paths
different_batches : (bs : List Batch) → AreDifferent (map (λ b. b.application) bs) → AreDifferent (paths_of (map batch_file bs))
different_batches [] d = tt
different_batches (b ∷ bs) d = (λ among. d.0 (writer bs among), different_batches bs d.1)
  where
    writer : (cs : List Batch) → Contains (paths_of (map batch_file cs)) (of_batch b.application b.number) → Contains (map (λ c. c.application) cs) b.application
    writer [] among = absurd (omega (arith, among.1))
    writer (c ∷ cs) (zero, lt, is) = let same : c.application ≡ b.application = cc in (0, omega arith, same)
    writer (c ∷ cs) (suc k, lt, is) = let on = writer cs (k, omega (arith, lt), is) in (suc on.0, omega (arith, on.1), on.2)

-- ---- what an entry gives, by kinds

given_told : (before : List Entry) (e : Entry) → Suits before e → (a : List ℕ) (n : ℕ) → Contains (paths_of (gives e)) (of_batch a n) → Contains (numbers_by a (e ∷ [])) n
given_told before creation suits a n among = absurd (omega (arith, among.1))
given_told before (group bs) suits a n among = subst (λ (ts : List ToldNumber). Contains (numbers_in a ts) n) (sym (append-nil (tells (group bs)))) (in_batches bs among)
  where
    in_batches : (cs : List Batch) → Contains (paths_of (map batch_file cs)) (of_batch a n) → Contains (numbers_in a (map told_of cs)) n
    in_batches [] there = absurd (omega (arith, there.1))
    in_batches (c ∷ cs) (zero, lt, is) =
        let application : c.application ≡ a = cc in
        let number : c.number ≡ n = cc in
        rw ((bytes_eq-Decides c.application a).1 application) (0, omega arith, number)
    in_batches (c ∷ cs) (suc k, lt, is) =
        let on = in_batches cs (k, omega (arith, lt), is) in
        elim (cases_Bool (bytes_eq c.application a)) [
          | inl own ↦ rw own (suc on.0, omega (arith, on.1), on.2)
          | inr other ↦ rw other on
        ]
given_told before (close application) suits a n among = absurd (omega (arith, among.1))

gives_different : (before : List Entry) (e : Entry) → Suits before e → AreDifferent (paths_of (gives e))
gives_different before creation suits = tt
gives_different before (group bs) suits = different_batches bs suits.1
gives_different before (close application) suits = tt

-- ---- what a log leaves

pub record LeavesOnce (entries : List Entry) : Type 0 where
  -- a file under a batch's name is that of a number that was told
  pub told : (a : List ℕ) (n : ℕ) → Contains (paths_of (live entries)) (of_batch a n) → Contains (numbers_by a entries) n
  -- all that is there was named
  pub named : (p : FileName) → Contains (paths_of (live entries)) p → Contains (flat_map names entries) p
  pub different : AreDifferent (paths_of (live entries))
  pub newest : newest_from [] entries ≡ live entries

-- no batch's file lies elsewhere
none_elsewhere : (bs : List Batch) (key : List ℕ) → Contains (paths_of (map batch_file bs)) (named key) → ⊥
none_elsewhere [] key among = omega (arith, among.1)
none_elsewhere (b ∷ bs) key (zero, lt, is) = absurd cc
none_elsewhere (b ∷ bs) key (suc k, lt, is) = none_elsewhere bs key (k, omega (arith, lt), is)

-- what an entry gives wasn't there
fresh : (front : List Entry) (e : Entry) → Suits front e → ((a : List ℕ) → Rises (numbers_by a front ++ numbers_by a (e ∷ []))) → LeavesOnce front
    → (p : FileName) → Contains (paths_of (live front)) p → Contains (paths_of (gives e)) p → ⊥
fresh front creation suits rises l p old new = omega (arith, new.1)
fresh front (group bs) suits rises l (of_batch a n) old new =
    let below = Rises-apart (numbers_by a front) (numbers_by a (group bs ∷ [])) n n (rises a) (l.told a n old) (given_told front (group bs) suits a n new) in
    omega (arith, below)
fresh front (group bs) suits rises l (named key) old new = none_elsewhere bs key new
fresh front (close application) suits rises l p old new = omega (arith, new.1)

same_path-is : (p q : FileName) → is_same_path p q ≡ true → p ≡ q
same_path-is (of_batch a n) (of_batch b m) e =
    let both = and_parts (bytes_eq a b) (n == m) e in
    let application : a ≡ b = (bytes_eq-Decides a b).0 both.0 in
    let number : n ≡ m = eqb-true n m both.1 in
    cc
same_path-is (of_batch a n) (named l) e = absurd (false≢true e)
same_path-is (named k) (of_batch b m) e = absurd (false≢true e)
same_path-is (named k) (named l) e = let key : k ≡ l = (bytes_eq-Decides k l).0 e in cc

-- where nothing that is there is given, what is named besides what is taken takes nothing
same_left : (taken given : List FileName) (files : List File) → ((p : FileName) → Contains (paths_of files) p → Contains given p → ⊥) → without (taken ++ given) files ≡ without taken files
same_left taken given [] apart = refl
same_left taken given (f ∷ files) apart =
    let none : is_path_among given f.path ≡ false = false_from_ne_true (is_path_among given f.path) (λ some. apart f.path (0, omega arith, refl) (Contains-from_any same_path-is f.path given some)) in
    let others = same_left taken given files (λ p here there. apart p (Contains-append_right (f.path ∷ []) (paths_of files) p here) there) in
    elim (cases_Bool (is_path_among taken f.path)) [
      | inl yes_ ↦ rw (list_any-append (is_same_path f.path) taken given, yes_) others
      | inr no_ ↦ rw (list_any-append (is_same_path f.path) taken given, no_, none) (ap (λ (fs : List File). f ∷ fs) others)
    ]

newest_from-push : (files : List File) (entries : List Entry) (e : Entry) → newest_from files (entries ++ e ∷ []) ≡ newest_behind (newest_from files entries) e
newest_from-push files [] e = refl
newest_from-push files (x ∷ entries) e = newest_from-push (newest_behind files x) entries e

-- ---- one more entry

module _ (front rest : List Entry) (e : Entry) (lawful : IsLawful (front ++ e ∷ rest)) (l : LeavesOnce front) where
  suits : Suits front e
  suits = lawful.suits front rest e refl

  rises : (a : List ℕ) → Rises (numbers_by a front ++ numbers_by a (e ∷ []))
  rises a =
      let parts = numbers_by-append a front (e ∷ rest) ∙ ap (λ (ns : List ℕ). numbers_by a front ++ ns) (numbers_by-append a (e ∷ []) rest) ∙ sym (append_assoc (numbers_by a front) (numbers_by a (e ∷ [])) (numbers_by a rest)) in
      Rises-front (numbers_by a front ++ numbers_by a (e ∷ [])) (numbers_by a rest) (subst Rises parts (lawful.rises a))

  apart : (p : FileName) → Contains (paths_of (live front)) p → Contains (paths_of (gives e)) p → ⊥
  apart p old new = fresh front e suits rises l p old new

  abbrev left : List File
  left = without (takes e) (live front)

  paths-push : paths_of (live (front ++ e ∷ [])) ≡ paths_of left ++ paths_of (gives e)
  paths-push = ap paths_of (live-push front e) ∙ map-append (λ (f : File). f.path) left (gives e)

  there_or_given : (p : FileName) → Contains (paths_of (live (front ++ e ∷ []))) p → Contains (paths_of (live front)) p ⊎ Contains (paths_of (gives e)) p
  there_or_given p among =
      elim (Contains-append_cases (paths_of left) (paths_of (gives e)) p (subst (λ (ps : List FileName). Contains ps p) paths-push among)) [
        | inl old ↦ inl (was_path (λ f. not (is_path_among (takes e) f.path)) (live front) p old)
        | inr new ↦ inr new
      ]

  told_on : (a : List ℕ) (n : ℕ) → Contains (paths_of (live (front ++ e ∷ []))) (of_batch a n) → Contains (numbers_by a (front ++ e ∷ [])) n
  told_on a n among =
      subst (λ (ns : List ℕ). Contains ns n) (sym (numbers_by-append a front (e ∷ []))) (elim (there_or_given (of_batch a n) among) [
        | inl old ↦ Contains-append_left (numbers_by a front) (numbers_by a (e ∷ [])) n (l.told a n old)
        | inr new ↦ Contains-append_right (numbers_by a front) (numbers_by a (e ∷ [])) n (given_told front e suits a n new)
      ])

  named_on : (p : FileName) → Contains (paths_of (live (front ++ e ∷ []))) p → Contains (flat_map names (front ++ e ∷ [])) p
  named_on p among =
      subst (λ (ps : List FileName). Contains ps p) (sym (flat_map-append names front (e ∷ []))) (elim (there_or_given p among) [
        | inl old ↦ Contains-append_left (flat_map names front) (names e ++ []) p (l.named p old)
        | inr new ↦ Contains-append_right (flat_map names front) (names e ++ []) p (Contains-append_left (names e) [] p (Contains-append_right (takes e) (paths_of (gives e)) p new))
      ])

  different_on : AreDifferent (paths_of (live (front ++ e ∷ [])))
  different_on =
      let stays : File → Bool = λ f. not (is_path_among (takes e) f.path) in
      subst AreDifferent (sym paths-push)
      (different_append (paths_of left) (paths_of (gives e)) (different_left stays (live front) l.different) (gives_different front e suits) (λ p old new. apart p (was_path stays (live front) p old) new))

  newest_on : newest_from [] (front ++ e ∷ []) ≡ live (front ++ e ∷ [])
  newest_on =
      newest_from-push [] front e ∙ ap (λ (fs : List File). newest_behind fs e) l.newest ∙ ap (λ (fs : List File). fs ++ gives e) (same_left (takes e) (paths_of (gives e)) (live front) apart) ∙ sym (live-push front e)

  leaves_on : LeavesOnce (front ++ e ∷ [])
  leaves_on = record { told = told_on; named = named_on; different = different_on; newest = newest_on }

pub leaves_once : (entries : List Entry) → IsLawful entries → LeavesOnce entries
leaves_once = along LeavesOnce (record { told = λ a n among. absurd (omega (arith, among.1)); named = λ p among. absurd (omega (arith, among.1)); different = tt; newest = refl }) leaves_on
