-- What is found where objects stand beside those of a folder, and what a put there tells and leaves.
use Rattle.std.proofs.Common.{◌≡◌, ℕ, List, [], ◌∷◌, ◌++◌, Bool, true, false, cond, Option, Some, None, IsSome, Result, Ok, Err, IfErr, refl, sym, ap, subst, ◌∙◌, inl, inr, append_assoc, append-nil}
use Rattle.std.specs.Prelude.{IsErrOf, bytes_eq, is_some, option_map}
use Rattle.std.proofs.lemmas.Slice.Eq.{bytes_eq-Decides}
use Rattle.store_core.specs.Calls.{IsUntouched, put_told}
use Rattle.store_core.specs.Names.{commit_name}
use Rattle.store_core.specs.Objects.{Objects, IsInOrder, names_of, object_at, with_object}
use Rattle.store_core.specs.ObjectLaws.{IsInOrder-with_object, object_at-with_object_other, same_objects, with_object_stands}
use Rattle.store_core.specs.declared.store.Put.{Put}
use Rattle.store_core.specs.declared.store.Put.TheVariants.{Created, Exists}
use Rattle.session_core.specs.Stores.{State, Answers, AnswersPut, Talked}
use Rattle.session_core.specs.Talks.{Asked, Told, get_object, has_lost, is_lost, list_names, put_commit, put_file, told_memory, told_put, told_view, fault_reply, Talk}
use Rattle.session_core.specs.declared.asking.Reply.{Reply}
use Rattle.store_core.specs.declared.fault.StoreFault.{StoreFault}
use Rattle.store_core.specs.declared.fault.StoreFault.TheVariants.{Lost, Memory}
use Rattle.table_folder.specs.Traces.{FolderCall, MakeNone, MakesNone, Traced}
use Rattle.table_folder.proofs.Callers.{IsInOrder-with_copies, first_of, found_after_put, list_any-names, none_made_on, object_at-with_copies}
use Rattle.folder_session.specs.Beside.{AreApart, HearsCall, HearsAll, HearsPut, IsOpened, TellsFound, TellsPut, put_by, put_named, put_so, with_beside}

-- ---- what is found

-- what is found where something stands, and only there
found_where_stands : (found : Option (List ℕ)) → cond (is_some found) found None ≡ found
found_where_stands None = refl
found_where_stands (Some bytes) = refl

-- what stands in the folder, or else what stands beside it
pub object_at-with_beside : (objects added : Objects) (name : List ℕ) → object_at (with_beside objects added) name ≡ first_of (object_at objects name) (object_at added name)
object_at-with_beside objects added name =
    object_at-with_copies added objects (names_of added) name
    ∙ ap (λ (b : Bool). first_of (object_at objects name) (cond b (object_at added name) None)) (list_any-names added name)
    ∙ ap (first_of (object_at objects name)) (found_where_stands (object_at added name))

-- of what isn't in the folder
pub found_beside : (objects added : Objects) (name : List ℕ) → object_at objects name ≡ None → object_at (with_beside objects added) name ≡ object_at added name
found_beside objects added name none = object_at-with_beside objects added name ∙ ap (λ (found : Option (List ℕ)). first_of found (object_at added name)) none

-- of what is
pub found_inside : (objects added : Objects) (name bytes : List ℕ) → object_at objects name ≡ Some bytes → object_at (with_beside objects added) name ≡ Some bytes
found_inside objects added name bytes is = object_at-with_beside objects added name ∙ ap (λ (found : Option (List ℕ)). first_of found (object_at added name)) is

-- ---- what the folder was told to have

-- a file was found
pub was_found : {A : Type 0} (view : A → List ℕ) (found : Option A) (at : Option (List ℕ)) → option_map view found ≡ at → is_some found ≡ true → IsSome at
was_found view None at is some = absurd cc
was_found view (Some file) at is some = subst IsSome is refl

-- and none was
pub was_absent : {A : Type 0} (view : A → List ℕ) (found : Option A) (at : Option (List ℕ)) → option_map view found ≡ at → is_some found ≡ false → at ≡ None
was_absent view None at is none = sym is
was_absent view (Some file) at is none = absurd cc

-- ---- a put

first_of_three : (one two three : Option (List ℕ)) → first_of one (first_of two three) ≡ first_of (first_of one two) three
first_of_three None two three = refl
first_of_three (Some bytes) two three = refl

-- what is put beside the folder is put into what stands in both
pub with_beside-with_object : (objects added : Objects) (name bytes : List ℕ) → IsInOrder objects → with_beside objects (with_object added name bytes) ≡ with_object (with_beside objects added) name bytes
with_beside-with_object objects added name bytes order =
    same_objects (with_beside objects (with_object added name bytes)) (with_object (with_beside objects added) name bytes)
    (IsInOrder-with_copies (with_object added name bytes) objects (names_of (with_object added name bytes)) order)
    (IsInOrder-with_object (with_beside objects added) name bytes (IsInOrder-with_copies added objects (names_of added) order))
    (λ other. object_at-with_beside objects (with_object added name bytes) other
    ∙ ap (first_of (object_at objects other)) (found_after_put added name bytes other (bytes_eq other name) refl)
    ∙ first_of_three (object_at objects other) (object_at added other) (cond (bytes_eq other name) (Some bytes) None)
    ∙ ap (λ (found : Option (List ℕ)). first_of found (cond (bytes_eq other name) (Some bytes) None)) (sym (object_at-with_beside objects added other))
    ∙ sym (found_after_put (with_beside objects added) name bytes other (bytes_eq other name) refl))

-- a name that is put beside the folder isn't one of the folder's
pub apart_put : (objects added : Objects) (name bytes : List ℕ) → object_at objects name ≡ None → AreApart objects added → AreApart objects (with_object added name bytes)
apart_put objects added name bytes none apart other stands = by_name (bytes_eq other name) refl
  where
    false≢true : false ≡ true → ⊥
    false≢true e = cc

    by_name : (same : Bool) → bytes_eq other name ≡ same → object_at objects other ≡ None
    by_name true e = ap (object_at objects) ((bytes_eq-Decides other name).0 e) ∙ none
    by_name false e =
        apart other (subst IsSome (object_at-with_object_other added name bytes other (λ is. false≢true (sym e ∙ (bytes_eq-Decides other name).1 is))) stands)

-- what stands in both is as it was where what stands beside the folder is
pub beside_untouched : (objects old new : Objects) → new ≡ old → IsUntouched (with_beside objects old, []) (with_beside objects new, [])
beside_untouched objects old new same = (ap (λ (added : Objects). with_beside objects added) same, refl)

-- what a put tells and leaves whose name stands in the folder
pub put_inside : (objects old new : Objects) (name bytes : List ℕ) → IsSome (object_at objects name) → new ≡ old → AnswersPut (with_beside objects old, []) name bytes (told_put Exists) (with_beside objects new, [])
put_inside objects old new name bytes stands same = by_found (object_at objects name) refl stands
  where
    by_found : (found : Option (List ℕ)) → object_at objects name ≡ found → IsSome found → AnswersPut (with_beside objects old, []) name bytes (told_put Exists) (with_beside objects new, [])
    by_found None is some = absurd cc
    by_found (Some kept) is some =
        let found = found_inside objects old name kept is in (
          sym (ap put_told found),
          (ap (λ (added : Objects). with_beside objects added) same ∙ sym (with_object_stands (with_beside objects old) name bytes (ap is_some found)), refl),
        )

-- and one whose name doesn't
pub put_beside : (objects old new : Objects) (name bytes : List ℕ) (put : Put) → IsInOrder objects → object_at objects name ≡ None → put ≡ put_told (object_at old name) → new ≡ with_object old name bytes
    → AnswersPut (with_beside objects old, []) name bytes (told_put put) (with_beside objects new, [])
put_beside objects old new name bytes put order none told landed = (
  told ∙ ap put_told (sym (found_beside objects old name none)),
  (ap (λ (added : Objects). with_beside objects added) landed ∙ with_beside-with_object objects old name bytes order, refl),
)

-- ---- a talk

-- a talk goes on at its end
pub answered_more : (old mid new : State) (talk : Talk) (asked : Asked) (told : Told) → Talked Answers old talk mid → Answers mid asked told new → Talked Answers old (talk ++ (asked, told) ∷ []) new
answered_more old mid new [] asked told is one = (new, subst (λ (s : State). Answers s asked told new) is one, refl)
answered_more old mid new (call ∷ talk) asked told is one = (is.0, is.1, answered_more is.0 mid new talk asked told is.2 one)

-- what the puts of a talk with one call more created
pub put_more : (added : Objects) (talk : Talk) (asked : Asked) (told : Told) → put_by added (talk ++ (asked, told) ∷ []) ≡ put_so (put_by added talk) asked told
put_more added [] asked told = refl
put_more added (call ∷ talk) asked told = put_more (put_so added call.0 call.1) talk asked told

-- a talk with one call more tells of no lost call, where that one wasn't lost
pub unlost_more : (talk : Talk) (asked : Asked) (told : Told) → has_lost talk ≡ false → is_lost told ≡ false → has_lost (talk ++ (asked, told) ∷ []) ≡ false
unlost_more [] asked told unlost other = rw other refl
unlost_more (call ∷ talk) asked told unlost other = by_first (is_lost call.1) refl (λ rest. unlost_more talk asked told rest other)
  where
    by_first : (first : Bool) → is_lost call.1 ≡ first → (has_lost talk ≡ false → has_lost (talk ++ (asked, told) ∷ []) ≡ false) → has_lost ((call ∷ talk) ++ (asked, told) ∷ []) ≡ false
    by_first true is more = let wrong : true ≡ false = rw is at unlost in cc
    by_first false is more = rw is (more (rw is at unlost))

-- what a put beside the folder created, by what it was told
pub put_created : (added new : Objects) (name bytes : List ℕ) (put : Put) → put ≡ put_told (object_at added name) → new ≡ with_object added name bytes → new ≡ put_named added name bytes (told_put put)
put_created added new name bytes Created told landed = landed
put_created added new name bytes Exists told landed = by_found (object_at added name) refl
  where
    by_found : (found : Option (List ℕ)) → object_at added name ≡ found → new ≡ added
    by_found None is = let wrong : Exists ≡ Created = told ∙ ap put_told is in absurd cc
    by_found (Some kept) is = landed ∙ with_object_stands added name bytes (ap is_some is)

-- ---- what is heard of the folder

-- which calls were made for a talk with one call more
pub heard_more : (names : List (List ℕ)) (added : Objects) (talk : Talk) (asked : Asked) (told : Told) (calls more : List FolderCall) → HearsAll names added talk calls → HearsCall names (put_by added talk) asked told more
    → HearsAll names added (talk ++ (asked, told) ∷ []) (calls ++ more)
heard_more names added [] asked told calls more none one = (more, [], one, refl, (λ i. none i ++ more) ∙ sym (append-nil more))
heard_more names added (call ∷ talk) asked told calls more is one =
    (is.0, is.1 ++ more, is.2, heard_more names (put_so added call.0 call.1) talk asked told is.1 more is.3 one, ap (λ (c : List FolderCall). c ++ more) is.4 ∙ append_assoc is.0 is.1 more)

-- one call was made
pub traced_once : {F : Type 0} → (makes : F → FolderCall → F → Type 0) (old new : F) (call : FolderCall) → makes old call new → Traced makes old (call ∷ []) new
traced_once makes old new call is = (new, is, refl)

-- what a call told that found something, or nothing
pub found_told : {A : Type 0} (view : A → List ℕ) (found : Option A) → is_some found ≡ true → (bytes : List ℕ) × (option_map view found ≡ Some bytes)
found_told view None is = absurd cc
found_told view (Some file) is = (view file, refl)

pub none_told : {A : Type 0} (view : A → List ℕ) (found : Option A) → is_some found ≡ false → option_map view found ≡ None
none_told view None is = refl
none_told view (Some file) is = absurd cc

-- the calls of a session's call make no file
opened_makes_none : (names : List (List ℕ)) (name : List ℕ) (found : Option (List ℕ)) (call : FolderCall) → IsOpened names name found call → MakesNone call
opened_makes_none names name found call (inl is) = subst MakesNone (sym is.1) tt
opened_makes_none names name found call (inr is) = subst MakesNone (sym is.1) tt

put_makes_none : (added : Objects) (name : List ℕ) (told : Told) (calls : List FolderCall) → HearsPut added name told calls → MakeNone calls
put_makes_none added name told calls (inl is) = subst MakeNone (sym is.3) (tt, (tt, tt))
put_makes_none added name told calls (inr is) = subst MakeNone (sym is.1) (tt, tt)

pub hears_makes_none : (names : List (List ℕ)) (added : Objects) (asked : Asked) (told : Told) (calls : List FolderCall) → HearsCall names added asked told calls → MakeNone calls
hears_makes_none names added list_names told calls is = subst MakeNone (sym is.1) tt
hears_makes_none names added (get_object name) told calls is = subst MakeNone (sym is.4) (opened_makes_none names name is.0 is.1 is.2, tt)
hears_makes_none names added (put_file name bytes) told calls is = put_makes_none added name told calls is
hears_makes_none names added (put_commit version bytes) told calls (inl is) = put_makes_none added (commit_name version) told calls is
hears_makes_none names added (put_commit version bytes) told calls (inr is) = subst MakeNone (sym is.1) tt

pub heard_makes_none : (names : List (List ℕ)) (added : Objects) (talk : Talk) (calls : List FolderCall) → HearsAll names added talk calls → MakeNone calls
heard_makes_none names added [] calls is = subst MakeNone (sym is) tt
heard_makes_none names added (call ∷ talk) calls is =
    subst MakeNone (sym is.4) (none_made_on is.0 is.1 (hears_makes_none names added call.0 call.1 is.0 is.2) (heard_makes_none names (put_so added call.0 call.1) talk is.1 is.3))

-- what is so holds of a fault
pub for_fault : {X E : Type 0} (Q : Type 0) (result : Result X E) → Q → IfErr result (λ fault. Q)
for_fault Q (Ok x) is = tt
for_fault Q (Err fault) is = is

-- a call that told nothing was made, and makes no file
pub looked_once : {F : Type 0} → (makes : F → FolderCall → F → Type 0) (old new : F) (call : FolderCall) → makes old call new → MakesNone call → (calls : List FolderCall) × Traced makes old calls new × MakeNone calls
looked_once makes old new call is none = (call ∷ [], traced_once makes old new call is, (none, tt))

-- a store in memory that fails has no memory
pub memory_alone : {X : Type 0} (fault : StoreFault) (reply : Reply) → reply ≡ fault_reply fault → (IsErrOf {T = X} (Err fault) Lost → ⊥) → told_view reply ≡ told_memory
memory_alone Lost reply is never = absurd (never refl)
memory_alone Memory reply is never = ap told_view is

pub memory_tells_put : (added : Objects) (name : List ℕ) (told : Told) → told ≡ told_memory → TellsPut added name told
memory_tells_put added name told is = subst (TellsPut added name) (sym is) tt

pub memory_tells_found : (added : Objects) (name : List ℕ) (told : Told) → told ≡ told_memory → TellsFound added name None told
memory_tells_found added name told is = subst (TellsFound added name None) (sym is) tt
