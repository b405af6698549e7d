-- What a folder holds once what was put beside it is saved: all of it, or a front.
use Rattle.std.proofs.Common.{◌≡◌, ◌∷◌, ◌++◌, inr, ℕ, Bool, true, false, cond, List, [], Option, None, Some, Err, take, refl, sym, ap, subst, ◌∙◌}
use Rattle.std.specs.Prelude.{◌||◌, IsSome, is_some, not, filter, bytes_eq, string_bytes}
use Rattle.std.specs.List.{list_any}
use Rattle.std.specs.List.Sorted.{IsStrictlySortedBy}
use Rattle.std.proofs.lemmas.Cmp.{nat_list_eq_equiv}
use Rattle.std.proofs.lemmas.List.Kept.{IsStrictlySortedBy-filter}
use Rattle.std.proofs.lemmas.Map.Views.{list_any-from_Contains}
use Rattle.std.proofs.lemmas.Slice.Eq.{bytes_eq-Decides}
use Rattle.store_core.specs.Objects.{Objects, IsInOrder, name_order, names_of, object_at}
use Rattle.store_core.specs.ObjectLaws.{same_objects}
use Rattle.delta_actions.specs.Names.{data_file_name}
use Rattle.table_folder.specs.Copies.{HasSavedFront, not_loaded, to_save, with_copies}
use Rattle.table_folder.specs.Faults.{SaveFailsAmong}
use Rattle.table_folder.specs.Kinds.{is_checkpoint, is_commit, is_data}
use Rattle.table_folder.specs.Loads.{is_loaded, is_of_log, loaded}
use Rattle.table_folder.specs.declared.fault.SaveFault.{SaveFault}
use Rattle.table_folder.specs.declared.fault.SaveFault.TheVariants as saves
use Rattle.table_folder.proofs.Callers.{IsInOrder-loaded, IsInOrder-with_copies, first_of, list_any-names, list_any-to_save, object_at-loaded, object_at-with_copies}
use Rattle.folder_session.specs.Beside.{AreApart, with_beside}
use Rattle.lake_script.specs.Growth.{MayPut}
use Rattle.script_lines.specs.Lines.{Statement, append, close, checkpoint, create, task}
use Rattle.job_laws.specs.Looking.{LooksWithin}
use Rattle.job_laws.proofs.Callers.{saved as line_saved}
use Rattle.lake_command.specs.Failures.{NamesPut}
use Rattle.lake_command.specs.Folders.{IsPutter, LineMayLeave}
use Rattle.lake_command.specs.declared.failure.Failure.TheVariants.{Saving}

-- ---- all of it

-- what is found where something stands, and only there
where_stands : (found : Option (List ℕ)) → cond (is_some found) found None ≡ found
where_stands None = refl
where_stands (Some bytes) = refl

-- what is found of objects and of those beside them
beside_at : (old added : Objects) (name : List ℕ) → object_at (with_beside old added) name ≡ first_of (object_at old name) (object_at added name)
beside_at old added name =
    object_at-with_copies added old (names_of added) name
    ∙ ap (first_of (object_at old name)) (ap (λ (b : Bool). cond b (object_at added name) None) (list_any-names added name) ∙ where_stands (object_at added name))

-- each of those is to be saved
each_to_save : (added : Objects) (name : List ℕ) → list_any (bytes_eq name) (to_save [] (names_of added)) ≡ is_some (object_at added name)
each_to_save added name = list_any-to_save [] (names_of added) name ∙ list_any-names added name

-- once they are saved, the folder holds what it had, with those beside it
pub saved_beside : (old added : Objects) → IsInOrder old → with_copies added old (to_save [] (names_of added)) ≡ with_beside old added
saved_beside old added order =
    same_objects (with_copies added old (to_save [] (names_of added))) (with_beside old added)
    (IsInOrder-with_copies added old (to_save [] (names_of added)) order) (IsInOrder-with_copies added old (names_of added) order)
    (λ name. object_at-with_copies added old (to_save [] (names_of added)) name
    ∙ ap (λ (b : Bool). first_of (object_at old name) (cond b (object_at added name) None)) (each_to_save added name ∙ sym (list_any-names added name))
    ∙ sym (object_at-with_copies added old (names_of added) name))

-- ---- a front of it

-- the objects whose names pass a test
abbrev passing : (List ℕ → Bool) → Objects → Objects
passing test objects = filter (λ object. test object.0) objects

-- nothing is found, whichever way a test goes
none_either : (b : Bool) → None ≡ cond {A = Option (List ℕ)} b None None
none_either true = refl
none_either false = refl

-- what is found of the objects that pass
found_passing : (test : List ℕ → Bool) (objects : Objects) (name : List ℕ) → object_at (passing test objects) name ≡ cond (test name) (object_at objects name) None
found_passing test [] name = none_either (test name)
found_passing test (e ∷ es) name = step (test e.0) (bytes_eq name e.0) refl refl (found_passing test es name)
  where
    step : (passes same : Bool) → test e.0 ≡ passes → bytes_eq name e.0 ≡ same → object_at (passing test es) name ≡ cond (test name) (object_at es name) None
        → object_at (cond passes (e ∷ passing test es) (passing test es)) name ≡ cond (test name) (cond same (Some e.1) (object_at es name)) None
    step true true p s later =
        ap (λ b. cond b (Some e.1) (object_at (passing test es) name)) s
        ∙ ap (λ b. cond b (Some e.1) None) (sym (ap test ((bytes_eq-Decides name e.0).0 s) ∙ p))
    step true false p s later = ap (λ b. cond b (Some e.1) (object_at (passing test es) name)) s ∙ later
    step false true p s later =
        let fails : test name ≡ false = ap test ((bytes_eq-Decides name e.0).0 s) ∙ p in
        later ∙ ap (λ b. cond b (object_at es name) None) fails ∙ sym (ap (λ b. cond b (Some e.1) None) fails)
    step false false p s later = later

-- their names
names_passing : (test : List ℕ → Bool) (objects : Objects) → names_of (passing test objects) ≡ filter test (names_of objects)
names_passing test [] = refl
names_passing test (e ∷ es) = step (test e.0) (names_passing test es)
  where
    step : (passes : Bool) → names_of (passing test es) ≡ filter test (names_of es) → names_of (cond passes (e ∷ passing test es) (passing test es)) ≡ cond passes (e.0 ∷ filter test (names_of es)) (filter test (names_of es))
    step true later = ap (λ rest. e.0 ∷ rest) later
    step false later = later

-- they are in order
passing_in_order : (test : List ℕ → Bool) (objects : Objects) → IsInOrder objects → IsInOrder (passing test objects)
passing_in_order test objects order =
    subst (IsStrictlySortedBy name_order) (sym (names_passing test objects)) (IsStrictlySortedBy-filter name_order test (names_of objects) order)

-- a name under which none of the objects stands
abbrev is_new : Objects → List ℕ → Bool
is_new old name = not (list_any (bytes_eq name) (names_of old))

-- what is new there is what stands beside them
new_found : (held found : Option (List ℕ)) → (IsSome found → held ≡ None) → cond (not (is_some held)) (first_of held found) None ≡ found
new_found None found apart = refl
new_found (Some bytes) None apart = refl
new_found (Some bytes) (Some more) apart = let wrong : Some bytes ≡ None = apart refl in cc

new_beside : (old added : Objects) → IsInOrder old → IsInOrder added → AreApart old added → passing (is_new old) (with_beside old added) ≡ added
new_beside old added order rising apart =
    same_objects (passing (is_new old) (with_beside old added)) added
    (passing_in_order (is_new old) (with_beside old added) (IsInOrder-with_copies added old (names_of added) order)) rising
    (λ name. found_passing (is_new old) (with_beside old added) name
    ∙ (λ i. cond (not (list_any-names old name i)) (beside_at old added name i) None)
    ∙ new_found (object_at old name) (object_at added name) (apart name))

-- where none is loaded, each name is to be saved
none_loaded : (names : List (List ℕ)) → not_loaded [] names ≡ names
none_loaded [] = refl
none_loaded (name ∷ names) = ap (λ (rest : List (List ℕ)). name ∷ rest) (none_loaded names)

-- so the same names are to be saved of both together, where the objects were loaded
same_to_save : (old added : Objects) → IsInOrder old → IsInOrder added → AreApart old added → to_save (names_of old) (names_of (with_beside old added)) ≡ to_save [] (names_of added)
same_to_save old added order rising apart =
    ap (λ (names : List (List ℕ)). filter is_data names ++ filter is_commit names ++ filter is_checkpoint names)
    (sym (names_passing (is_new old) (with_beside old added)) ∙ ap names_of (new_beside old added order rising apart) ∙ sym (none_loaded (names_of added)))

-- and the same bytes under each
first_again : (held found : Option (List ℕ)) (b : Bool) → first_of held (cond b (first_of held found) None) ≡ first_of held (cond b found None)
first_again None found b = refl
first_again (Some bytes) found b = refl

same_copies : (old added : Objects) (names : List (List ℕ)) → IsInOrder old → with_copies (with_beside old added) old names ≡ with_copies added old names
same_copies old added names order =
    same_objects (with_copies (with_beside old added) old names) (with_copies added old names)
    (IsInOrder-with_copies (with_beside old added) old names order) (IsInOrder-with_copies added old names order)
    (λ name. object_at-with_copies (with_beside old added) old names name
    ∙ ap (λ (found : Option (List ℕ)). first_of (object_at old name) (cond (list_any (bytes_eq name) names) found None)) (beside_at old added name)
    ∙ first_again (object_at old name) (object_at added name) (list_any (bytes_eq name) names)
    ∙ sym (object_at-with_copies added old names name))

-- so a front of what stands beside the objects is one of both together
front_beside : (old added new : Objects) → IsInOrder old → IsInOrder added → AreApart old added → HasSavedFront added (to_save [] (names_of added)) old new
    → HasSavedFront (with_beside old added) (to_save (names_of old) (names_of (with_beside old added))) old new
front_beside old added new order rising apart front =
    subst (λ (names : List (List ℕ)). HasSavedFront (with_beside old added) names old new) (sym (same_to_save old added order rising apart))
    (front.0, (front.1.0, front.1.1 ∙ sym (same_copies old added (take front.0 (to_save [] (names_of added))) order)))

-- ---- what a line leaves of it

-- all objects are loaded by their own names, and one more
loaded_found : (of_log own : Bool) (found : Option (List ℕ)) → cond (of_log || (own || is_some found)) found None ≡ found
loaded_found true own found = refl
loaded_found false true found = refl
loaded_found false false None = refl
loaded_found false false (Some bytes) = refl

all_loaded : (own : List ℕ) (old : Objects) → IsInOrder old → loaded (own ∷ names_of old) old ≡ old
all_loaded own old order =
    same_objects (loaded (own ∷ names_of old) old) old (IsInOrder-loaded (own ∷ names_of old) old order) order
    (λ name. object_at-loaded (own ∷ names_of old) old name
    ∙ ap (λ (b : Bool). cond (is_of_log name || (bytes_eq name own || b)) (object_at old name) None) (list_any-names old name)
    ∙ loaded_found (is_of_log name) (bytes_eq name own) (object_at old name))

-- that one is loaded
own_loaded : (own : List ℕ) (old : Objects) (name : List ℕ) → name ≡ own → is_loaded (own ∷ names_of old) name ≡ true
own_loaded own old name is =
    ap (λ (b : Bool). is_of_log name || (b || list_any (bytes_eq name) (names_of old))) ((bytes_eq-Decides name own).1 is)
    ∙ either (is_of_log name)
  where
    either : (b : Bool) → (b || true) ≡ true
    either true = refl
    either false = refl

-- a front of what a line put beside all objects may have been put by it
front_left : (old added new : Objects) (statement : Statement) (own : List ℕ) → IsInOrder old → IsInOrder added → AreApart old added → LooksWithin old statement (own ∷ names_of old)
    → MayPut old statement (with_beside old added) → HasSavedFront added (to_save [] (names_of added)) old new → LineMayLeave old statement new
front_left old added new statement own order rising apart within put front =
    let all = sym (all_loaded own old order) in
    inr (line_saved old (with_beside old added) new statement (own ∷ names_of old) order within
    (subst (λ (o : Objects). MayPut o statement (with_beside old added)) all put)
    (subst (λ (o : Objects). HasSavedFront (with_beside old added) (to_save (names_of o) (names_of (with_beside old added))) old new) all (front_beside old added new order rising apart front)))

-- so it is for each line that puts something
pub line_left : (old added new : Objects) (statement : Statement) → IsPutter statement → IsInOrder old → IsInOrder added → AreApart old added → MayPut old statement (with_beside old added)
    → HasSavedFront added (to_save [] (names_of added)) old new → LineMayLeave old statement new
line_left old added new (create id at schema) putter order rising apart put front =
    front_left old added new (create id at schema) [] order rising apart (λ name none. absurd none) put front
line_left old added new (task (append application number at items)) putter order rising apart put front =
    let own = data_file_name application number in
    front_left old added new (task (append application number at items)) own order rising apart (λ name is. own_loaded own old name is) put front
line_left old added new (task (close application at)) putter order rising apart put front =
    front_left old added new (task (close application at)) [] order rising apart (λ name none. absurd none) put front
line_left old added new (task checkpoint) putter order rising apart put front =
    front_left old added new (task checkpoint) [] order rising apart (λ name none. absurd none) put front
line_left old added new _ putter order rising apart put front = absurd putter

-- an object that isn't saved is one that the line puts over the folder's objects, where nothing stood
pub named_beside : (fault : SaveFault) (old added : Objects) (statement : Statement) → AreApart old added → MayPut old statement (with_beside old added)
    → SaveFailsAmong {X = Unit {0}} (to_save [] (names_of added)) (Err fault) → NamesPut (Saving fault) statement old
named_beside (saves.NotSaved name reason) old added statement apart put among =
    let told = string_bytes name in
    let stands : IsSome (object_at added told) = sym (each_to_save added told) ∙ list_any-from_Contains nat_list_eq_equiv told (to_save [] (names_of added)) among in
    let absent : object_at old told ≡ None = apart told stands in
    record {
      after = with_beside old added;
      put = put;
      absent = absent;
      stands = ap is_some (beside_at old added told ∙ ap (λ (held : Option (List ℕ)). first_of held (object_at added told)) absent) ∙ stands;
    }
named_beside saves.Lost old added statement apart put among = tt
named_beside saves.Memory old added statement apart put among = tt
