-- What stands under a name among the objects that are loaded, and that all of the log is loaded.
use Rattle.std.proofs.Common.{◌≡◌, ◌∙◌, ◌++◌, ℕ, Bool, true, false, codes, List, [], ◌∷◌, Option, Some, None, cond, refl, sym, ap}
use Rattle.std.specs.Prelude.{◌||◌, bytes_eq, filter}
use Rattle.std.specs.List.{cons_option, filter_map, list_any}
use Rattle.std.proofs.lemmas.List.Kept.{IsStrictlySortedBy-filter}
use Rattle.std.proofs.lemmas.Slice.Eq.{bytes_eq-Decides}
use Rattle.store_core.specs.Objects.{IsInOrder, Objects, name_order, names_of, object_at}
use Rattle.store_core.specs.Names.{commit_name, twenty_digits}
use Rattle.delta_checkpoint.specs.Names.{IsCheckpointName}
use Rattle.table_folder.specs.Loads.{is_loaded, is_of_log, loaded}

-- ---- what stands under a name

-- nothing is found either way
nothing_either : (found : Option (List ℕ)) (b : Bool) → found ≡ None → found ≡ cond b found None
nothing_either found true none = refl
nothing_either found false none = none

-- the object stands where its name is loaded, and nowhere else
pub found_loaded : (files : List (List ℕ)) (objects : Objects) (name : List ℕ) → object_at (loaded files objects) name ≡ cond (is_loaded files name) (object_at objects name) None
found_loaded files [] name = nothing_either None (is_loaded files name) refl
found_loaded files (e ∷ es) name = step (is_loaded files e.0) (bytes_eq name e.0) refl refl (found_loaded files es name)
  where
    step : (kept same : Bool) → is_loaded files e.0 ≡ kept → bytes_eq name e.0 ≡ same → object_at (loaded files es) name ≡ cond (is_loaded files name) (object_at es name) None
        → object_at (cond kept (e ∷ loaded files es) (loaded files es)) name ≡ cond (is_loaded files name) (cond same (Some e.1) (object_at es name)) None
    step true true k s later =
        let own : is_loaded files name ≡ true = ap (is_loaded files) ((bytes_eq-Decides name e.0).0 s) ∙ k in
        ap (λ b. cond b (Some e.1) (object_at (loaded files es) name)) s ∙ ap (λ b. cond b (Some e.1) None) (sym own)
    step true false k s later = ap (λ b. cond b (Some e.1) (object_at (loaded files es) name)) s ∙ later
    step false true k s later =
        let own : is_loaded files name ≡ false = ap (is_loaded files) ((bytes_eq-Decides name e.0).0 s) ∙ k in
        later ∙ ap (λ b. cond b (object_at es name) None) own ∙ ap (λ b. cond b (Some e.1) None) (sym own)
    step false false k s later = later

-- an object whose name is loaded stands as it did
pub loaded_at : (files : List (List ℕ)) (objects : Objects) (name : List ℕ) → is_loaded files name ≡ true → object_at (loaded files objects) name ≡ object_at objects name
loaded_at files objects name is = found_loaded files objects name ∙ ap (λ b. cond b (object_at objects name) None) is

-- no other object does
pub loaded_not : (files : List (List ℕ)) (objects : Objects) (name : List ℕ) → is_loaded files name ≡ false → object_at (loaded files objects) name ≡ None
loaded_not files objects name is = found_loaded files objects name ∙ ap (λ b. cond b (object_at objects name) None) is

-- what stands among the loaded objects stands among all
pub stands_of_loaded : (files : List (List ℕ)) (objects : Objects) (name bytes : List ℕ) → object_at (loaded files objects) name ≡ Some bytes → object_at objects name ≡ Some bytes
stands_of_loaded files objects name bytes stands = by_case (is_loaded files name) (sym (found_loaded files objects name) ∙ stands)
  where
    by_case : (b : Bool) → cond b (object_at objects name) None ≡ Some bytes → object_at objects name ≡ Some bytes
    by_case true is = is
    by_case false is = absurd cc

-- ---- names and their order

-- the names that are loaded
pub loaded_names : (files : List (List ℕ)) (objects : Objects) → names_of (loaded files objects) ≡ filter (is_loaded files) (names_of objects)
loaded_names files [] = refl
loaded_names files (e ∷ es) = step (is_loaded files e.0) (loaded_names files es)
  where
    step : (kept : Bool) → names_of (loaded files es) ≡ filter (is_loaded files) (names_of es)
        → names_of (cond kept (e ∷ loaded files es) (loaded files es)) ≡ cond kept (e.0 ∷ filter (is_loaded files) (names_of es)) (filter (is_loaded files) (names_of es))
    step true later = ap (λ names. e.0 ∷ names) later
    step false later = later

-- they are in order
pub loaded_in_order : (files : List (List ℕ)) (objects : Objects) → IsInOrder objects → IsInOrder (loaded files objects)
loaded_in_order files objects order = rw loaded_names (IsStrictlySortedBy-filter name_order (is_loaded files) (names_of objects) order)

-- what is gathered from names is the same without those that give nothing
pub filtered : {B : Type 0} (f : List ℕ → Option B) (files : List (List ℕ)) (names : List (List ℕ)) → ((name : List ℕ) → is_loaded files name ≡ false → f name ≡ None) → filter_map f (filter (is_loaded files) names) ≡ filter_map f names
filtered f files [] nothing = refl
filtered {B} f files (n ∷ ns) nothing = step (is_loaded files n) refl (filtered f files ns nothing)
  where
    step : (kept : Bool) → is_loaded files n ≡ kept → filter_map f (filter (is_loaded files) ns) ≡ filter_map f ns
        → filter_map f (cond kept (n ∷ filter (is_loaded files) ns) (filter (is_loaded files) ns)) ≡ cons_option (f n) (filter_map f ns)
    step true is later = ap (cons_option (f n)) later
    step false is later = later ∙ ap (λ (found : Option B). cons_option found (filter_map f ns)) (sym (nothing n is))

-- ---- the log

-- what begins with the log's folder is of the log
of_log : (rest : List ℕ) → is_of_log (codes "_delta_log/" ++ rest) ≡ true
unfolding is_of_log
of_log rest = refl

-- and is loaded
pub log_loaded : (files : List (List ℕ)) (rest : List ℕ) → is_loaded files (codes "_delta_log/" ++ rest) ≡ true
log_loaded files rest = ap (λ b. b || list_any (bytes_eq (codes "_delta_log/" ++ rest)) files) (of_log rest)

-- each commit is loaded
pub commit_loaded : (files : List (List ℕ)) (version : ℕ) → is_loaded files (commit_name version) ≡ true
unfolding commit_name
commit_loaded files version = log_loaded files (twenty_digits version ++ codes ".json")

-- each checkpoint is loaded
pub checkpoint_loaded : (files : List (List ℕ)) (version : ℕ) (name : List ℕ) → IsCheckpointName version name → is_loaded files name ≡ true
checkpoint_loaded files version name named = ap (is_loaded files) named.is ∙ log_loaded files (twenty_digits version ++ (codes ".checkpoint." ++ (named.id ++ codes ".json")))
