-- What a folder holds once objects of a store are copied into it.
use Rattle.std.proofs.Common.{◌≡◌, ◌++◌, ◌∷◌, [], ℕ, Bool, true, false, cond, List, Option, None, Some, refl, sym, ◌∙◌, ap}
use Rattle.std.specs.Prelude.{◌&&◌, ◌||◌, not, is_some, unwrap_or, filter, bytes_eq}
use Rattle.std.specs.List.{list_any}
use Rattle.std.proofs.lemmas.List.Elements.{All-head, All-tail}
use Rattle.std.proofs.lemmas.List.Folds.{list_any-append}
use Rattle.std.proofs.lemmas.Slice.Eq.{bytes_eq-Decides}
use Rattle.store_core.specs.Objects.{Objects, IsInOrder, object_at, names_of, with_object, HasObjectsOf}
use Rattle.store_core.specs.ObjectLaws.{object_at-with_object_same, object_at-with_object_other, IsInOrder-with_object, same_objects}
use Rattle.table_folder.specs.Kinds.{is_data, is_commit, is_checkpoint}
use Rattle.table_folder.specs.Orders.{IsInOrder-none}
use Rattle.table_folder.specs.Copies.{AreAbsent, not_loaded, to_save, saved_at, with_found, with_copy, with_copies}

-- what stood, or else what is copied there
abbrev pub first_of : Option (List ℕ) → Option (List ℕ) → Option (List ℕ)
first_of None stored = stored
first_of (Some bytes) stored = Some bytes

-- what stands stays, whatever else is looked for
pub first_of-None : (found : Option (List ℕ)) → found ≡ first_of found None
first_of-None None = refl
first_of-None (Some bytes) = refl

-- the same of a choice that has nothing to give
first_of-nothing : (b : Bool) (found : Option (List ℕ)) → found ≡ first_of found (cond b None None)
first_of-nothing true found = first_of-None found
first_of-nothing false found = first_of-None found

-- an object put is found under its name, unless another one stood there
first_of-Some : (found : Option (List ℕ)) (bytes : List ℕ) → Some (unwrap_or found bytes) ≡ first_of found (Some bytes)
first_of-Some None bytes = refl
first_of-Some (Some kept) bytes = refl

-- one copy after another
pub first_of-twice : (a b : Bool) (held stored : Option (List ℕ)) → first_of (first_of held (cond a stored None)) (cond b stored None) ≡ first_of held (cond (a || b) stored None)
first_of-twice a b (Some bytes) stored = refl
first_of-twice true true None None = refl
first_of-twice true true None (Some bytes) = refl
first_of-twice true false None None = refl
first_of-twice true false None (Some bytes) = refl
first_of-twice false b None stored = refl

-- what is found after an object is put
pub found_after_put : (held : Objects) (name bytes other : List ℕ) (same : Bool) → bytes_eq other name ≡ same → object_at (with_object held name bytes) other ≡ first_of (object_at held other) (cond same (Some bytes) None)
found_after_put held name bytes other true e =
    let is : other ≡ name = (bytes_eq-Decides other name).0 e in
    ap (object_at (with_object held name bytes)) is ∙ object_at-with_object_same held name bytes ∙ first_of-Some (object_at held name) bytes
    ∙ ap (λ (n : List ℕ). first_of (object_at held n) (Some bytes)) (sym is)
found_after_put held name bytes other false e =
    object_at-with_object_other held name bytes other (λ is. absurd (apart (sym e ∙ (bytes_eq-Decides other name).1 is)))
    ∙ first_of-None (object_at held other)
  where
    apart : false ≡ true → ⊥
    apart e = cc

-- what is found after a copy
found_after_copy : (stored held : Objects) (name other : List ℕ) (found : Option (List ℕ)) → object_at stored name ≡ found → object_at (with_found held name found) other ≡ first_of (object_at held other) (cond (bytes_eq other name) found None)
found_after_copy stored held name other None e = first_of-nothing (bytes_eq other name) (object_at held other)
found_after_copy stored held name other (Some bytes) e = found_after_put held name bytes other (bytes_eq other name) refl

-- where the names are the same, so are the store's objects
same_stored : (stored : Objects) (name other : List ℕ) (same : Bool) → bytes_eq other name ≡ same → cond same (object_at stored name) None ≡ cond same (object_at stored other) None
same_stored stored name other true e = ap (object_at stored) (sym ((bytes_eq-Decides other name).0 e))
same_stored stored name other false e = refl

object_at-with_copy : (stored held : Objects) (name other : List ℕ) → object_at (with_copy stored held name) other ≡ first_of (object_at held other) (cond (bytes_eq other name) (object_at stored other) None)
object_at-with_copy stored held name other =
    found_after_copy stored held name other (object_at stored name) refl
    ∙ ap (first_of (object_at held other)) (same_stored stored name other (bytes_eq other name) refl)

-- what is found after copies: what stood, or else the store's object where its name is one of these
pub object_at-with_copies : (stored held : Objects) (names : List (List ℕ)) (other : List ℕ) → object_at (with_copies stored held names) other ≡ first_of (object_at held other) (cond (list_any (bytes_eq other) names) (object_at stored other) None)
object_at-with_copies stored held [] other = first_of-None (object_at held other)
object_at-with_copies stored held (n ∷ ns) other =
    object_at-with_copies stored (with_copy stored held n) ns other
    ∙ ap (λ (found : Option (List ℕ)). first_of found (cond (list_any (bytes_eq other) ns) (object_at stored other) None)) (object_at-with_copy stored held n other)
    ∙ first_of-twice (bytes_eq other n) (list_any (bytes_eq other) ns) (object_at held other) (object_at stored other)

-- copies keep the names in order
IsInOrder-with_found : (held : Objects) (name : List ℕ) (found : Option (List ℕ)) → IsInOrder held → IsInOrder (with_found held name found)
IsInOrder-with_found held name None h = h
IsInOrder-with_found held name (Some bytes) h = IsInOrder-with_object held name bytes h

pub IsInOrder-with_copies : (stored held : Objects) (names : List (List ℕ)) → IsInOrder held → IsInOrder (with_copies stored held names)
IsInOrder-with_copies stored held [] h = h
IsInOrder-with_copies stored held (n ∷ ns) h = IsInOrder-with_copies stored (with_copy stored held n) ns (IsInOrder-with_found held n (object_at stored n) h)

-- a name is listed just where an object stands under it
pub list_any-names : (stored : Objects) (name : List ℕ) → list_any (bytes_eq name) (names_of stored) ≡ is_some (object_at stored name)
list_any-names [] name = refl
list_any-names (e ∷ es) name =
    elim (bytes_eq name e.0) as (λ b. b || list_any (bytes_eq name) (names_of es) ≡ is_some (cond b (Some e.1) (object_at es name))) [
      | true ↦ refl
      | false ↦ list_any-names es name
    ]

-- what is found where something stands, and only there
found_where_stands : (found : Option (List ℕ)) → cond (is_some found) found None ≡ found
found_where_stands None = refl
found_where_stands (Some bytes) = refl

-- all objects of a store copied to where nothing stands are that store's
pub all_copied : (stored : Objects) → IsInOrder stored → with_copies stored [] (names_of stored) ≡ stored
all_copied stored h =
    same_objects (with_copies stored [] (names_of stored)) stored (IsInOrder-with_copies stored [] (names_of stored) IsInOrder-none) h
    (λ name. object_at-with_copies stored [] (names_of stored) name
    ∙ ap (λ b. cond b (object_at stored name) None) (list_any-names stored name)
    ∙ found_where_stands (object_at stored name))

-- a filter keeps a name just where it passes the test
pub list_any-filter : (test : List ℕ → Bool) (names : List (List ℕ)) (name : List ℕ) → list_any (bytes_eq name) (filter test names) ≡ (test name && list_any (bytes_eq name) names)
list_any-filter test [] name = ends (test name)
  where
    ends : (b : Bool) → false ≡ (b && false)
    ends true = refl
    ends false = refl
list_any-filter test (n ∷ ns) name = step (test n) (bytes_eq name n) (list_any-filter test ns name) refl refl
  where
    step : (passes same : Bool) → list_any (bytes_eq name) (filter test ns) ≡ (test name && list_any (bytes_eq name) ns) → test n ≡ passes → bytes_eq name n ≡ same → list_any (bytes_eq name) (cond passes (n ∷ filter test ns) (filter test ns)) ≡ (test name && (same || list_any (bytes_eq name) ns))
    step true true later e f =
        ap (λ b. b || list_any (bytes_eq name) (filter test ns)) f
        ∙ ap (λ b. b && true) (sym e ∙ ap test (sym ((bytes_eq-Decides name n).0 f)))
    step true false later e f = ap (λ b. b || list_any (bytes_eq name) (filter test ns)) f ∙ later
    step false true later e f =
        later
        ∙ ap (λ b. b && list_any (bytes_eq name) ns) (ap test ((bytes_eq-Decides name n).0 f) ∙ e)
        ∙ ap (λ b. b && true) (sym e ∙ ap test (sym ((bytes_eq-Decides name n).0 f)))
    step false false later e f = later

-- a name of a list is one of the data files', the commits' or the checkpoints'
one_of_three : (commit checkpoint listed : Bool) → (((not commit && not checkpoint) && listed) || (commit && listed)) || (checkpoint && listed) ≡ listed
one_of_three true true true = refl
one_of_three true true false = refl
one_of_three true false true = refl
one_of_three true false false = refl
one_of_three false true true = refl
one_of_three false true false = refl
one_of_three false false true = refl
one_of_three false false false = refl

-- a name is saved just where it wasn't loaded and is stored
pub list_any-to_save : (loaded stored : List (List ℕ)) (name : List ℕ) → list_any (bytes_eq name) (to_save loaded stored) ≡ (not (list_any (bytes_eq name) loaded) && list_any (bytes_eq name) stored)
list_any-to_save loaded stored name =
    list_any-append (bytes_eq name) (filter is_data (not_loaded loaded stored) ++ filter is_commit (not_loaded loaded stored)) (filter is_checkpoint (not_loaded loaded stored))
    ∙ ap (λ b. b || list_any (bytes_eq name) (filter is_checkpoint (not_loaded loaded stored))) (list_any-append (bytes_eq name) (filter is_data (not_loaded loaded stored)) (filter is_commit (not_loaded loaded stored)))
    ∙ (λ i. (list_any-filter is_data (not_loaded loaded stored) name i || list_any-filter is_commit (not_loaded loaded stored) name i) || list_any-filter is_checkpoint (not_loaded loaded stored) name i)
    ∙ one_of_three (is_commit name) (is_checkpoint name) (list_any (bytes_eq name) (not_loaded loaded stored))
    ∙ list_any-filter (λ n. not (list_any (bytes_eq n) loaded)) stored name

-- names that are absent aren't found
pub absent_listed : (held : Objects) (names : List (List ℕ)) (name : List ℕ) → AreAbsent held names → list_any (bytes_eq name) names ≡ true → object_at held name ≡ None
absent_listed held [] name all listed = cc
absent_listed held (n ∷ ns) name all listed =
    by_case (bytes_eq name n) refl (λ e. absent_listed held ns name (All-tail (λ (m : List ℕ). object_at held m ≡ None) n ns all) (sym (ap (λ b. b || list_any (bytes_eq name) ns) e) ∙ listed))
  where
    by_case : (same : Bool) → bytes_eq name n ≡ same → (bytes_eq name n ≡ false → object_at held name ≡ None) → object_at held name ≡ None
    by_case true e later = ap (object_at held) ((bytes_eq-Decides name n).0 e) ∙ All-head (λ (m : List ℕ). object_at held m ≡ None) n ns all
    by_case false e later = later e

-- once absent names are saved, under each of them stands what the store has, and the others are as they were
pub whole_saved : (held stored : Objects) (names : List (List ℕ)) (name : List ℕ) → AreAbsent held names → object_at (with_copies stored held names) name ≡ saved_at stored names held name
whole_saved held stored names name absent =
    object_at-with_copies stored held names name ∙ by_case (list_any (bytes_eq name) names) refl
  where
    by_case : (b : Bool) → list_any (bytes_eq name) names ≡ b → first_of (object_at held name) (cond b (object_at stored name) None) ≡ cond b (object_at stored name) (object_at held name)
    by_case true e = ap (λ found. first_of found (object_at stored name)) (absent_listed held names name absent e)
    by_case false e = sym (first_of-None (object_at held name))

-- what the folder has stays, whatever is copied into it
pub kept_by_copies : (stored held : Objects) (names : List (List ℕ)) (name bytes : List ℕ) → object_at held name ≡ Some bytes → object_at (with_copies stored held names) name ≡ Some bytes
kept_by_copies stored held names name bytes e =
    object_at-with_copies stored held names name
    ∙ ap (λ (found : Option (List ℕ)). first_of found (cond (list_any (bytes_eq name) names) (object_at stored name) None)) e

-- what stands once a store that has all that was there is saved over it, is what stands in that store
either : (held stored : Option (List ℕ)) → ((bytes : List ℕ) → held ≡ Some bytes → stored ≡ Some bytes) → first_of held (cond (not (is_some held) && is_some stored) stored None) ≡ stored
either None None has = refl
either None (Some bytes) has = refl
either (Some bytes) stored has = sym (has bytes refl)

-- once the store's new objects are saved, the folder holds all of the store, where the store has all that the folder had
pub all_saved : (held stored : Objects) → IsInOrder held → IsInOrder stored → HasObjectsOf held stored → with_copies stored held (to_save (names_of held) (names_of stored)) ≡ stored
all_saved held stored order stored_order has =
    same_objects (with_copies stored held (to_save (names_of held) (names_of stored))) stored (IsInOrder-with_copies stored held (to_save (names_of held) (names_of stored)) order) stored_order
    (λ name. object_at-with_copies stored held (to_save (names_of held) (names_of stored)) name
    ∙ ap (λ b. first_of (object_at held name) (cond b (object_at stored name) None))
    (list_any-to_save (names_of held) (names_of stored) name
    ∙ (λ i. not (list_any-names held name i) && list_any-names stored name i))
    ∙ either (object_at held name) (object_at stored name) (has name))
