-- What stands once a line's puts over the files that are loaded are added to all objects.
use Rattle.std.proofs.Common.{◌≡◌, ℕ, Bool, true, false, cond, List, Option, None, Some, refl, sym, ◌∙◌, ap}
use Rattle.std.specs.Prelude.{◌&&◌, not, is_some, bytes_eq}
use Rattle.store_core.specs.Objects.{Objects, IsInOrder, object_at, names_of, with_object, HasObjectsOf}
use Rattle.store_core.specs.ObjectLaws.{object_at-with_object_kept, object_at-with_object_other, IsInOrder-with_object, same_objects}
use Rattle.table_folder.specs.Copies.{to_save}
use Rattle.table_folder.specs.Loads.{is_loaded, loaded}
use Rattle.table_folder.proofs.Callers.{IsInOrder-with_copies, first_of, found_after_put, list_any-names, list_any-to_save, object_at-with_copies}
use Rattle.job_laws.specs.Saved.{with_added}
use Rattle.job_laws.proofs.Loaded.{loaded_at, loaded_in_order, loaded_not}

-- names of which one is loaded and the other isn't are two
pub two_names : (files : List (List ℕ)) (name other : List ℕ) → is_loaded files name ≡ true → is_loaded files other ≡ false → other ≡ name → ⊥
two_names files name other is not_so same = apart (sym not_so ∙ ap (is_loaded files) same ∙ is)
  where
    apart : false ≡ true → ⊥
    apart e = cc

-- a put under a name that is loaded
pub loaded_put : (files : List (List ℕ)) (objects : Objects) (name bytes : List ℕ) → IsInOrder objects → is_loaded files name ≡ true → loaded files (with_object objects name bytes) ≡ with_object (loaded files objects) name bytes
loaded_put files objects name bytes order is =
    same_objects (loaded files (with_object objects name bytes)) (with_object (loaded files objects) name bytes)
    (loaded_in_order files (with_object objects name bytes) (IsInOrder-with_object objects name bytes order))
    (IsInOrder-with_object (loaded files objects) name bytes (loaded_in_order files objects order))
    (λ other. by_case other (is_loaded files other) refl)
  where
    by_case : (other : List ℕ) (b : Bool) → is_loaded files other ≡ b → object_at (loaded files (with_object objects name bytes)) other ≡ object_at (with_object (loaded files objects) name bytes) other
    by_case other true e =
        loaded_at files (with_object objects name bytes) other e
        ∙ found_after_put objects name bytes other (bytes_eq other name) refl
        ∙ ap (λ (found : Option (List ℕ)). first_of found (cond (bytes_eq other name) (Some bytes) None)) (sym (loaded_at files objects other e))
        ∙ sym (found_after_put (loaded files objects) name bytes other (bytes_eq other name) refl)
    by_case other false e =
        loaded_not files (with_object objects name bytes) other e
        ∙ sym (loaded_not files objects other e)
        ∙ sym (object_at-with_object_other (loaded files objects) name bytes other (two_names files name other is e))

-- What stands behind some puts over all objects, and what stands behind them over the files that are loaded: the same, as
-- far as it is loaded, and nothing was put that isn't.
pub record IsAlike (files : List (List ℕ)) (objects small whole : Objects) : Type 0 where
  pub is : small ≡ loaded files whole
  pub order : IsInOrder whole
  pub all : HasObjectsOf objects whole
  pub no_other : (name : List ℕ) → is_loaded files name ≡ false → object_at objects name ≡ None → object_at whole name ≡ None

-- before any put
pub alike_before : (files : List (List ℕ)) (objects : Objects) → IsInOrder objects → IsAlike files objects (loaded files objects) objects
alike_before files objects order = record { is = refl; order = order; all = λ name bytes e. e; no_other = λ name e none. none }

-- behind one put more, under a name that is loaded
pub alike_put : (files : List (List ℕ)) (objects small whole : Objects) (name bytes : List ℕ) → is_loaded files name ≡ true → IsAlike files objects small whole → IsAlike files objects (with_object small name bytes) (with_object whole name bytes)
alike_put files objects small whole name bytes is alike = record {
  is = ap (λ (o : Objects). with_object o name bytes) alike.is ∙ sym (loaded_put files whole name bytes alike.order is);
  order = IsInOrder-with_object whole name bytes alike.order;
  all = λ other kept e. object_at-with_object_kept whole name bytes other kept (alike.all other kept e);
  no_other = λ other e none. object_at-with_object_other whole name bytes other (two_names files name other is e) ∙ alike.no_other other e none;
}

-- what stands where nothing stood, and what was loaded tells so
lacking : (kept small whole : Option (List ℕ)) → kept ≡ None → small ≡ whole → cond (not (is_some kept) && is_some small) small None ≡ whole
lacking None None whole none same = same
lacking None (Some bytes) whole none same = same
lacking (Some bytes) small whole none same = cc

-- what stands under a name once what was put is added
added_at : (files : List (List ℕ)) (objects whole : Objects) (name : List ℕ) (found : Option (List ℕ)) (b : Bool) → HasObjectsOf objects whole
    → ((other : List ℕ) → is_loaded files other ≡ false → object_at objects other ≡ None → object_at whole other ≡ None) → object_at objects name ≡ found → is_loaded files name ≡ b
    → first_of found (cond (not (is_some (object_at (loaded files objects) name)) && is_some (object_at (loaded files whole) name)) (object_at (loaded files whole) name) None) ≡ object_at whole name
added_at files objects whole name (Some bytes) b all no_other e is = sym (all name bytes e)
added_at files objects whole name None true all no_other e is = lacking _ _ _ (loaded_at files objects name is ∙ e) (loaded_at files whole name is)
added_at files objects whole name None false all no_other e is =
    lacking _ _ _ (loaded_not files objects name is) (loaded_not files whole name is ∙ sym (no_other name is e))

-- once what was put over the files that are loaded is added to all objects, what it leaves over all objects stands
pub added : (files : List (List ℕ)) (objects whole : Objects) → IsInOrder objects → IsInOrder whole → HasObjectsOf objects whole
    → ((other : List ℕ) → is_loaded files other ≡ false → object_at objects other ≡ None → object_at whole other ≡ None) → with_added (loaded files objects) (loaded files whole) objects ≡ whole
added files objects whole order whole_order all no_other =
    same_objects (with_added (loaded files objects) (loaded files whole) objects) whole
    (IsInOrder-with_copies (loaded files whole) objects (to_save (names_of (loaded files objects)) (names_of (loaded files whole))) order) whole_order
    (λ name. object_at-with_copies (loaded files whole) objects (to_save (names_of (loaded files objects)) (names_of (loaded files whole))) name
    ∙ ap (λ b. first_of (object_at objects name) (cond b (object_at (loaded files whole) name) None))
    (list_any-to_save (names_of (loaded files objects)) (names_of (loaded files whole)) name
    ∙ (λ i. not (list_any-names (loaded files objects) name i) && list_any-names (loaded files whole) name i))
    ∙ added_at files objects whole name (object_at objects name) (is_loaded files name) all no_other refl refl)

-- the same of what is alike
pub added_alike : (files : List (List ℕ)) (objects small whole : Objects) → IsInOrder objects → IsAlike files objects small whole → with_added (loaded files objects) small objects ≡ whole
added_alike files objects small whole order alike =
    ap (λ (o : Objects). with_added (loaded files objects) o objects) alike.is ∙ added files objects whole order alike.order alike.all alike.no_other
