-- Which of a folder's files are loaded: what is found of them, their names and their order.
use Rattle.std.proofs.Common.{◌≡◌, ◌∷◌, [], ℕ, Bool, true, false, cond, List, Option, None, Some, refl, sym, ◌∙◌, ap, subst}
use Rattle.std.specs.Prelude.{◌&&◌, ◌||◌, is_some, if◌then◌else◌, filter, bytes_eq}
use Rattle.std.specs.List.Sorted.{IsStrictlySortedBy}
use Rattle.std.proofs.lemmas.List.Kept.{IsStrictlySortedBy-filter}
use Rattle.std.proofs.lemmas.Slice.Eq.{bytes_eq-Decides}
use Rattle.store_core.specs.Objects.{Objects, IsInOrder, name_order, object_at, names_of}
use Rattle.store_core.specs.ObjectLaws.{same_objects}
use Rattle.table_folder.specs.Copies.{with_copies}
use Rattle.table_folder.specs.Loads.{is_loaded, is_of_log, loaded}
use Rattle.table_folder.specs.Orders.{IsInOrder-none}
use Rattle.table_folder.proofs.CopyLemmas.{IsInOrder-with_copies, list_any-filter, list_any-names, object_at-with_copies}

-- the objects whose names pass a test
abbrev passing : (List ℕ → Bool) → Objects → Objects
passing test objects = filter (λ object. test object.0) objects

-- nothing is found, whichever way a test goes
none_either : (b : Bool) → None ≡ cond {A = Option (List ℕ)} b None None
none_either true = refl
none_either false = refl

-- what is found of the objects that pass
found_passing : (test : List ℕ → Bool) (objects : Objects) (name : List ℕ) → object_at (passing test objects) name ≡ cond (test name) (object_at objects name) None
found_passing test [] name = none_either (test name)
found_passing test (e ∷ es) name = step (test e.0) (bytes_eq name e.0) refl refl (found_passing test es name)
  where
    step : (passes same : Bool) → test e.0 ≡ passes → bytes_eq name e.0 ≡ same → object_at (passing test es) name ≡ cond (test name) (object_at es name) None
        → object_at (cond passes (e ∷ passing test es) (passing test es)) name ≡ cond (test name) (cond same (Some e.1) (object_at es name)) None
    step true true p s later =
        ap (λ b. cond b (Some e.1) (object_at (passing test es) name)) s
        ∙ ap (λ b. cond b (Some e.1) None) (sym (ap test ((bytes_eq-Decides name e.0).0 s) ∙ p))
    step true false p s later = ap (λ b. cond b (Some e.1) (object_at (passing test es) name)) s ∙ later
    step false true p s later =
        let fails : test name ≡ false = ap test ((bytes_eq-Decides name e.0).0 s) ∙ p in
        later ∙ ap (λ b. cond b (object_at es name) None) fails ∙ sym (ap (λ b. cond b (Some e.1) None) fails)
    step false false p s later = later

-- the names of the objects that pass
names_passing : (test : List ℕ → Bool) (objects : Objects) → names_of (passing test objects) ≡ filter test (names_of objects)
names_passing test [] = refl
names_passing test (e ∷ es) = step (test e.0) (names_passing test es)
  where
    step : (passes : Bool) → names_of (passing test es) ≡ filter test (names_of es) → names_of (cond passes (e ∷ passing test es) (passing test es)) ≡ cond passes (e.0 ∷ filter test (names_of es)) (filter test (names_of es))
    step true later = ap (λ rest. e.0 ∷ rest) later
    step false later = later

-- a file is found where it is loaded
pub object_at-loaded : (files : List (List ℕ)) (objects : Objects) (name : List ℕ) → object_at (loaded files objects) name ≡ (if is_loaded files name then object_at objects name else None)
object_at-loaded files objects name = found_passing (is_loaded files) objects name

-- the names that are loaded
pub names_of-loaded : (files : List (List ℕ)) (objects : Objects) → names_of (loaded files objects) ≡ filter (is_loaded files) (names_of objects)
names_of-loaded files objects = names_passing (is_loaded files) objects

-- the files that are loaded are in order
pub IsInOrder-loaded : (files : List (List ℕ)) (objects : Objects) → IsInOrder objects → IsInOrder (loaded files objects)
IsInOrder-loaded files objects h =
    subst (IsStrictlySortedBy name_order) (sym (names_of-loaded files objects))
    (IsStrictlySortedBy-filter name_order (is_loaded files) (names_of objects) h)

-- what is found of a log's names that stand
log_found : (of_log : Bool) (found : Option (List ℕ)) → cond (of_log && is_some found) found None ≡ cond (of_log || false) found None
log_found true None = refl
log_found true (Some bytes) = refl
log_found false found = refl

-- the log's files copied to where nothing stands
pub log_copied : (objects : Objects) → IsInOrder objects → with_copies objects [] (filter is_of_log (names_of objects)) ≡ loaded [] objects
log_copied objects h =
    same_objects (with_copies objects [] (filter is_of_log (names_of objects))) (loaded [] objects)
    (IsInOrder-with_copies objects [] (filter is_of_log (names_of objects)) IsInOrder-none) (IsInOrder-loaded [] objects h)
    (λ name. object_at-with_copies objects [] (filter is_of_log (names_of objects)) name
    ∙ ap (λ b. cond b (object_at objects name) None)
    (list_any-filter is_of_log (names_of objects) name ∙ ap (λ b. is_of_log name && b) (list_any-names objects name))
    ∙ log_found (is_of_log name) (object_at objects name)
    ∙ sym (object_at-loaded [] objects name))
