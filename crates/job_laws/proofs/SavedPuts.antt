-- What stands once a front of what was put over the files that are loaded is saved beside all objects.
use Rattle.std.proofs.Common.{◌≡◌, ◌⊎◌, inl, inr, [], ◌∷◌, ℕ, Bool, true, false, List, Option, None, Some, take, refl, sym, ◌∙◌, ap, subst}
use Rattle.std.specs.Prelude.{◌&&◌, not, is_some, unwrap_or, filter, bytes_eq}
use Rattle.std.specs.List.{list_any}
use Rattle.std.proofs.lemmas.Bool.{and_parts}
use Rattle.std.proofs.lemmas.Slice.Eq.{bytes_eq-Decides}
use Rattle.store_core.specs.Objects.{Objects, IsInOrder, object_at, names_of, with_object}
use Rattle.store_core.specs.ObjectLaws.{object_at-with_object_kept, object_at-with_object_other, object_at-with_object_same, IsInOrder-with_object, with_object_stands}
use Rattle.table_folder.specs.Copies.{HasSavedFront, not_loaded, to_save, with_copies, with_copy, with_found}
use Rattle.table_folder.specs.Kinds.{is_checkpoint, is_commit, is_data}
use Rattle.table_folder.specs.Loads.{is_loaded, loaded}
use Rattle.table_folder.proofs.Callers.{IsApart, apart_filter, apart_rising, apart_to_save, commit_only, list_any-filter, list_any-names, list_any-to_save}
use Rattle.job_laws.proofs.Added.{IsAlike, alike_before, alike_put}
use Rattle.job_laws.proofs.Loaded.{loaded_at, loaded_in_order}
use Rattle.job_laws.proofs.SavedNames.{IsFrontOfTwo, front_of_none, front_of_one, front_of_two, none_listed, not_both, one_at_most}

-- ---- copies of what was put

-- a copy of an object that was put is a put
copied_put : (held : Objects) (name bytes : List ℕ) → with_found held name (object_at (with_object held name bytes) name) ≡ with_object held name bytes
copied_put held name bytes = ap (with_found held name) (object_at-with_object_same held name bytes) ∙ by_case (object_at held name) refl
  where
    by_case : (found : Option (List ℕ)) → object_at held name ≡ found → with_object held name (unwrap_or (object_at held name) bytes) ≡ with_object held name bytes
    by_case None e = ap (λ (f : Option (List ℕ)). with_object held name (unwrap_or f bytes)) e
    by_case (Some old) e = with_object_stands held name (unwrap_or (object_at held name) bytes) (ap is_some e) ∙ sym (with_object_stands held name bytes (ap is_some e))

-- the same from what is alike
copied_alike : (files : List (List ℕ)) (objects after whole held : Objects) (name bytes : List ℕ) → is_loaded files name ≡ true → IsAlike files objects after whole → object_at whole name ≡ object_at (with_object held name bytes) name
    → with_copy after held name ≡ with_object held name bytes
copied_alike files objects after whole held name bytes is alike same =
    ap (with_found held name) (ap (λ (o : Objects). object_at o name) alike.is ∙ loaded_at files whole name is ∙ same) ∙ copied_put held name bytes

-- ---- the names that are new

-- a name isn't both new and as it was
new_or_old : (a b : Option (List ℕ)) → b ≡ a → (not (is_some a) && is_some b) ≡ true → ⊥
new_or_old None None e h = not_both (sym h)
new_or_old None (Some bytes) e h = cc
new_or_old (Some kept) b e h = not_both (sym h)

-- a name is listed as new just where nothing stood
listed_new : (old new : Objects) (m : List ℕ) → list_any (bytes_eq m) (not_loaded (names_of old) (names_of new)) ≡ (not (is_some (object_at old m)) && is_some (object_at new m))
listed_new old new m = list_any-filter (λ n. not (list_any (bytes_eq n) (names_of old))) (names_of new) m ∙ (λ i. not (list_any-names old m i) && list_any-names new m i)

-- a name that is new behind a put is the one that was put
new_name : (old : Objects) (name bytes m : List ℕ) → (not (is_some (object_at old m)) && is_some (object_at (with_object old name bytes) m)) ≡ true → m ≡ name
new_name old name bytes m h = by_case (bytes_eq m name) refl
  where
    by_case : (b : Bool) → bytes_eq m name ≡ b → m ≡ name
    by_case true e = (bytes_eq-Decides m name).0 e
    by_case false e =
        absurd (new_or_old (object_at old m) (object_at (with_object old name bytes) m) (object_at-with_object_other old name bytes m (λ same. not_both (sym ((bytes_eq-Decides m name).1 same) ∙ e))) h)

-- a name that is new behind two puts is one of them
new_of_two : (old : Objects) (first file second commit m : List ℕ) → (not (is_some (object_at old m)) && is_some (object_at (with_object (with_object old first file) second commit) m)) ≡ true → (m ≡ first) ⊎ (m ≡ second)
new_of_two old first file second commit m h = by_case (bytes_eq m second) refl
  where
    by_case : (b : Bool) → bytes_eq m second ≡ b → (m ≡ first) ⊎ (m ≡ second)
    by_case true e = inr ((bytes_eq-Decides m second).0 e)
    by_case false e =
        let same = object_at-with_object_other (with_object old first file) second commit m (λ is. not_both (sym ((bytes_eq-Decides m second).1 is) ∙ e)) in
        inl (new_name old first file m (ap (λ (f : Option (List ℕ)). not (is_some (object_at old m)) && is_some f) (sym same) ∙ h))

-- ---- what is saved

-- behind no put
pub none_saved : (files : List (List ℕ)) (objects after new : Objects) → after ≡ loaded files objects → HasSavedFront after (to_save (names_of (loaded files objects)) (names_of after)) objects new → new ≡ objects
none_saved files objects after new same front =
    front_of_none after objects new front.0 (front.1.1 ∙ ap (λ (ns : List (List ℕ)). with_copies after objects (take front.0 ns)) (none_listed (to_save (names_of (loaded files objects)) (names_of after)) none))
  where
    none : (m : List ℕ) → list_any (bytes_eq m) (to_save (names_of (loaded files objects)) (names_of after)) ≡ true → ⊥
    none m listed =
        new_or_old (object_at (loaded files objects) m) (object_at after m) (ap (λ (o : Objects). object_at o m) same)
        ((λ i. not (sym (list_any-names (loaded files objects) m) i) && sym (list_any-names after m) i)
        ∙ sym (list_any-to_save (names_of (loaded files objects)) (names_of after) m) ∙ listed)

-- behind one put
pub one_saved : (files : List (List ℕ)) (objects after new : Objects) (name bytes : List ℕ) → IsInOrder objects → is_loaded files name ≡ true → after ≡ with_object (loaded files objects) name bytes
    → HasSavedFront after (to_save (names_of (loaded files objects)) (names_of after)) objects new → (new ≡ objects) ⊎ (new ≡ with_object objects name bytes)
one_saved files objects after new name bytes order is put front =
    by_case (front_of_one after objects new (to_save (names_of (loaded files objects)) (names_of after)) name (one_at_most name (to_save (names_of (loaded files objects)) (names_of after)) apart only) front)
  where
    after_order : IsInOrder after
    after_order = subst IsInOrder (sym put) (IsInOrder-with_object (loaded files objects) name bytes (loaded_in_order files objects order))

    apart : IsApart (to_save (names_of (loaded files objects)) (names_of after))
    apart = apart_to_save (names_of (loaded files objects)) (names_of after) (apart_rising (names_of after) after_order)

    only : (m : List ℕ) → list_any (bytes_eq m) (to_save (names_of (loaded files objects)) (names_of after)) ≡ true → m ≡ name
    only m listed =
        new_name (loaded files objects) name bytes m
        ((λ i. not (sym (list_any-names (loaded files objects) m) i) && is_some (object_at (sym put i) m))
        ∙ ap (λ b. not (list_any (bytes_eq m) (names_of (loaded files objects))) && b) (sym (list_any-names after m))
        ∙ sym (list_any-to_save (names_of (loaded files objects)) (names_of after) m) ∙ listed)

    alike : IsAlike files objects after (with_object objects name bytes)
    alike = subst (λ (o : Objects). IsAlike files objects o (with_object objects name bytes)) (sym put) (alike_put files objects (loaded files objects) objects name bytes is (alike_before files objects order))

    by_case : (new ≡ objects) ⊎ (new ≡ with_copy after objects name) → (new ≡ objects) ⊎ (new ≡ with_object objects name bytes)
    by_case (inl same) = inl same
    by_case (inr copied) = inr (copied ∙ copied_alike files objects after (with_object objects name bytes) objects name bytes is alike refl)

-- ---- two puts: a data file, and a commit

-- which of the two is a data file
first_is_data : (first second m : List ℕ) → is_commit second ≡ true → (m ≡ first) ⊎ (m ≡ second) → is_data m ≡ true → m ≡ first
first_is_data first second m commit (inl e) data_file = e
first_is_data first second m commit (inr e) data_file = absurd (not_both (sym data_file ∙ ap is_data e ∙ ap (λ b. not b && not (is_checkpoint second)) commit))

-- which is a commit
second_is_commit : (first second m : List ℕ) → is_data first ≡ true → (m ≡ first) ⊎ (m ≡ second) → is_commit m ≡ true → m ≡ second
second_is_commit first second m data_file (inl e) commit =
    absurd (not_both (sym data_file ∙ ap (λ b. not b && not (is_checkpoint first)) (sym (ap is_commit e) ∙ commit)))
second_is_commit first second m data_file (inr e) commit = e

-- none is a checkpoint
none_is_checkpoint : (first second m : List ℕ) → is_data first ≡ true → is_commit second ≡ true → (m ≡ first) ⊎ (m ≡ second) → is_checkpoint m ≡ true → ⊥
none_is_checkpoint first second m data_file commit (inl e) checkpoint =
    not_both (sym (and_parts (not (is_commit first)) (not (is_checkpoint first)) data_file).1 ∙ ap not (sym (ap is_checkpoint e) ∙ checkpoint))
none_is_checkpoint first second m data_file commit (inr e) checkpoint = not_both (sym checkpoint ∙ ap is_checkpoint e ∙ commit_only second commit)

-- what stands and isn't new stood
stood : (listed : Bool) (old new : Option (List ℕ)) → listed ≡ true → is_some new ≡ true → (listed && (not (is_some old) && is_some new)) ≡ false → is_some old ≡ true
stood true (Some bytes) new is stands none = refl
stood true None new is stands none = sym none ∙ stands
stood false old new is stands none = cc

module _ (files : List (List ℕ)) (objects after : Objects) (first file second commit : List ℕ) (order : IsInOrder objects) (first_loaded : is_loaded files first ≡ true) (second_loaded : is_loaded files second ≡ true)
    (data_file : is_data first ≡ true) (of_commit : is_commit second ≡ true) (put : after ≡ with_object (with_object (loaded files objects) first file) second commit) where
  alike_two : IsAlike files objects after (with_object (with_object objects first file) second commit)
  alike_two =
      subst (λ (o : Objects). IsAlike files objects o (with_object (with_object objects first file) second commit)) (sym put)
      (alike_put files objects (with_object (loaded files objects) first file) (with_object objects first file) second commit second_loaded
      (alike_put files objects (loaded files objects) objects first file first_loaded (alike_before files objects order)))

  -- the names that aren't loaded
  abbrev lacking : List (List ℕ)
  lacking = not_loaded (names_of (loaded files objects)) (names_of after)

  apart : IsApart lacking
  apart =
      apart_filter (λ n. not (list_any (bytes_eq n) (names_of (loaded files objects)))) (names_of after)
      (apart_rising (names_of after) (subst IsInOrder (sym put) (IsInOrder-with_object _ second commit (IsInOrder-with_object _ first file (loaded_in_order files objects order)))))

  one_of_two : (m : List ℕ) → list_any (bytes_eq m) lacking ≡ true → (m ≡ first) ⊎ (m ≡ second)
  one_of_two m listed =
      new_of_two (loaded files objects) first file second commit m
      (ap (λ (o : Objects). not (is_some (object_at (loaded files objects) m)) && is_some (object_at o m)) (sym put) ∙ sym (listed_new (loaded files objects) after m) ∙ listed)

  -- what passes a test, and is listed
  passed : (test : List ℕ → Bool) (m : List ℕ) → list_any (bytes_eq m) (filter test lacking) ≡ true → (test m ≡ true) × (list_any (bytes_eq m) lacking ≡ true)
  passed test m listed = and_parts (test m) (list_any (bytes_eq m) lacking) (sym (list_any-filter test lacking m) ∙ listed)

  datas : (filter is_data lacking ≡ []) ⊎ (filter is_data lacking ≡ first ∷ [])
  datas = one_at_most first (filter is_data lacking) (apart_filter is_data lacking apart) (λ m listed. let so = passed is_data m listed in first_is_data first second m of_commit (one_of_two m so.1) so.0)

  commits : (filter is_commit lacking ≡ []) ⊎ (filter is_commit lacking ≡ second ∷ [])
  commits = one_at_most second (filter is_commit lacking) (apart_filter is_commit lacking apart) (λ m listed. let so = passed is_commit m listed in second_is_commit first second m data_file (one_of_two m so.1) so.0)

  checkpoints : filter is_checkpoint lacking ≡ []
  checkpoints = none_listed (filter is_checkpoint lacking) (λ m listed. let so = passed is_checkpoint m listed in none_is_checkpoint first second m data_file of_commit (one_of_two m so.1) so.0)

  -- the data file stands behind both
  file_found : object_at (with_object (with_object objects first file) second commit) first ≡ Some (unwrap_or (object_at objects first) file)
  file_found = object_at-with_object_kept (with_object objects first file) second commit first (unwrap_or (object_at objects first) file) (object_at-with_object_same objects first file)

  first_copied : with_copy after objects first ≡ with_object objects first file
  first_copied =
      copied_alike files objects after (with_object (with_object objects first file) second commit) objects first file first_loaded alike_two (file_found ∙ sym (object_at-with_object_same objects first file))

  second_copied : with_copy after (with_object objects first file) second ≡ with_object (with_object objects first file) second commit
  second_copied = copied_alike files objects after (with_object (with_object objects first file) second commit) (with_object objects first file) second commit second_loaded alike_two refl

  -- a data file that isn't new stood
  file_stood : filter is_data lacking ≡ [] → with_object objects first file ≡ objects
  file_stood none =
      with_object_stands objects first file
      (sym (ap is_some (loaded_at files objects first first_loaded))
      ∙ stood (is_data first) (object_at (loaded files objects) first) (object_at after first) data_file
      (ap is_some (ap (λ (o : Objects). object_at o first) alike_two.is ∙ loaded_at files (with_object (with_object objects first file) second commit) first first_loaded ∙ file_found))
      (ap (λ b. is_data first && b) (sym (listed_new (loaded files objects) after first)) ∙ sym (list_any-filter is_data lacking first) ∙ ap (list_any (bytes_eq first)) none))

  -- behind two puts
  pub two_saved : (new : Objects) → HasSavedFront after (to_save (names_of (loaded files objects)) (names_of after)) objects new
      → (new ≡ objects) ⊎ ((new ≡ with_object objects first file) ⊎ (new ≡ with_object (with_object objects first file) second commit))
  two_saved new front =
      by_case (front_of_two after objects new (filter is_data lacking) (filter is_commit lacking) (filter is_checkpoint lacking) first second datas commits checkpoints front)
    where
      by_case : IsFrontOfTwo after objects new (filter is_data lacking) first second → (new ≡ objects) ⊎ ((new ≡ with_object objects first file) ⊎ (new ≡ with_object (with_object objects first file) second commit))
      by_case (inl same) = inl same
      by_case (inr (inl copied)) = inr (inl (copied ∙ first_copied))
      by_case (inr (inr (inl alone))) = inr (inr (alone.1 ∙ ap (λ (o : Objects). with_copy after o second) (sym (file_stood alone.0)) ∙ second_copied))
      by_case (inr (inr (inr both))) = inr (inr (both ∙ ap (λ (o : Objects). with_copy after o second) first_copied ∙ second_copied))
