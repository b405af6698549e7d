-- Which names are saved, and what the folder holds after a front of them.
use Rattle.std.proofs.Common.{◌≡◌, ◌<◌, ◌+◌, ◌++◌, ◌∷◌, [], ℕ, true, cond, List, String, length, take, get_or, refl, sym, ◌∙◌, ap, map, inl, inr, Option, None, Some, subst, Result, Ok, Err, IsErrAnd}
use Rattle.std.specs.Prelude.{Contains, not, filter, bytes_eq, string_bytes, is_some, IsSome, IsErrOf, OnOk}
use Rattle.std.specs.Global.{Global}
use Rattle.std.specs.List.{list_any}
use Rattle.std.proofs.lemmas.Bool.{and_parts}
use Rattle.std.proofs.lemmas.List.{take-map}
use Rattle.std.proofs.lemmas.List.Elements.{All-nil, All-push}
use Rattle.std.proofs.lemmas.List.Sums.{fold-append}
use Rattle.store_core.specs.Calls.{HasRisen, put_told}
use Rattle.store_core.specs.Objects.{Objects, IsInOrder, object_at, names_of, with_object}
use Rattle.store_core.specs.ObjectLaws.{with_object_stands}
use Rattle.store_core.specs.declared.store.Put.{Put}
use Rattle.store_core.specs.declared.store.Put.TheVariants.{Exists}
use Rattle.table_folder.specs.Calls.{IsFailed, MayHaveMade}
use Rattle.table_folder.specs.Copies.{AreAbsent, HasSavedFront, MayHaveSaved, new_names, not_loaded, to_save, with_found, with_copy, with_copies}
use Rattle.table_folder.specs.Faults.{CountsLost, CountsSave, FailsWhereStood, IsNotSaved, SaveFailsAmong, SaveFailsAt}
use Rattle.table_folder.specs.Kinds.{is_data, is_commit, is_checkpoint}
use Rattle.table_folder.specs.Saving.{SavesInto, SavesOver}
use Rattle.table_folder.specs.declared.fault.FolderFault.{FolderFault}
use Rattle.table_folder.specs.declared.fault.FolderFault.TheVariants as folders
use Rattle.table_folder.specs.declared.fault.SaveFault.{SaveFault}
use Rattle.table_folder.specs.declared.fault.SaveFault.TheVariants.{NotSaved, Lost, Memory}
use Rattle.table_folder.proofs.ApartLemmas.{IsApart, apart_before, apart_rising, apart_to_save, listed_at}
use Rattle.table_folder.proofs.CopyLemmas.{first_of, first_of-None, kept_by_copies, list_any-names, list_any-to_save, object_at-with_copies}
use Rattle.table_folder.proofs.NameLemmas.{below_map, name_at, names_more}

-- one copy more
pub copies_more : (stored held : Objects) (names : List (String Global)) (i : ℕ) (name : String Global) → i < length names → name ≡ get_or names i name → with_copies stored held (map string_bytes (take (i + 1) names)) ≡ with_copy stored (with_copies stored held (map string_bytes (take i names))) (string_bytes name)
copies_more stored held names i name h e =
    ap (with_copies stored held) (names_more names i name h e)
    ∙ fold-append (with_copy stored) held (map string_bytes (take i names)) (string_bytes name ∷ [])

-- the names that weren't loaded, in the order of saving, are those to save
pub saves : (loaded stored names lacking ordered : List (List ℕ)) → names ≡ stored → lacking ≡ filter (λ name. not (list_any (bytes_eq name) loaded)) names
    → ordered ≡ filter is_data lacking ++ filter is_commit lacking ++ filter is_checkpoint lacking → ordered ≡ to_save loaded stored
saves loaded stored names lacking ordered n l o =
    o ∙ ap (λ (ls : List (List ℕ)). filter is_data ls ++ filter is_commit ls ++ filter is_checkpoint ls)
    (l ∙ ap (not_loaded loaded) n)

-- a name to save stands in the store
pub is_stored : (loaded : List (List ℕ)) (stored : Objects) (names : List (String Global)) (i : ℕ) (name : String Global) → i < length names → name ≡ get_or names i name → map string_bytes names ≡ to_save loaded (names_of stored) → IsSome (object_at stored (string_bytes name))
is_stored loaded stored names i name h e all =
    sym (list_any-names stored (string_bytes name))
    ∙ (and_parts (not (list_any (bytes_eq (string_bytes name)) loaded)) (list_any (bytes_eq (string_bytes name)) (names_of stored))
    (sym (list_any-to_save loaded (names_of stored) (string_bytes name)) ∙ ap (list_any (bytes_eq (string_bytes name))) (sym all)
    ∙ listed_at (map string_bytes names) i (string_bytes name) (below_map names i h) (name_at names i name h e))).1

-- what is found of a name to save before its turn is what was there at first
pub found_before : (loaded : List (List ℕ)) (stored held : Objects) (names : List (String Global)) (i : ℕ) (name : String Global) → IsInOrder stored → i < length names → name ≡ get_or names i name → map string_bytes names ≡ to_save loaded (names_of stored)
    → object_at (with_copies stored held (map string_bytes (take i names))) (string_bytes name) ≡ object_at held (string_bytes name)
found_before loaded stored held names i name order h e all =
    object_at-with_copies stored held (map string_bytes (take i names)) (string_bytes name)
    ∙ ap (λ b. first_of (object_at held (string_bytes name)) (cond b (object_at stored (string_bytes name)) None))
    (ap (list_any (bytes_eq (string_bytes name))) (sym (take-map string_bytes i names))
    ∙ apart_before (map string_bytes names) i (string_bytes name) (subst IsApart (sym all) (apart_to_save loaded (names_of stored) (apart_rising (names_of stored) order))) (below_map names i h) (name_at names i name h e))
    ∙ sym (first_of-None (object_at held (string_bytes name)))

-- one more name was absent
pub absent_more : (held : Objects) (names : List (String Global)) (i : ℕ) (name : String Global) → i < length names → name ≡ get_or names i name → AreAbsent held (map string_bytes (take i names)) → object_at held (string_bytes name) ≡ None → AreAbsent held (map string_bytes (take (i + 1) names))
absent_more held names i name h e all one =
    subst (AreAbsent held) (sym (names_more names i name h e))
    (All-push (λ (n : List ℕ). object_at held n ≡ None) (map string_bytes (take i names)) (string_bytes name) all one)

-- what is copied after a front of the names is a front of what is to be saved
pub front_saved : (held stored new : Objects) (names : List (String Global)) (saved : List (List ℕ)) (i : ℕ) → map string_bytes names ≡ saved → AreAbsent held (map string_bytes (take i names)) → new ≡ with_copies stored held (map string_bytes (take i names)) → HasSavedFront stored saved held new
front_saved held stored new names saved i all absent e =
    let same : map string_bytes (take i names) ≡ take i saved = sym (take-map string_bytes i names) ∙ ap (take i) all in
    (i, (subst (AreAbsent held) same absent, e ∙ ap (with_copies stored held) same))

-- the same where the last copy was made or not
pub front_after : (held stored old new : Objects) (names : List (String Global)) (saved : List (List ℕ)) (i : ℕ) (name : String Global) → i < length names → name ≡ get_or names i name → map string_bytes names ≡ saved → AreAbsent held (map string_bytes (take i names)) → old ≡ with_copies stored held (map string_bytes (take i names))
    → object_at old (string_bytes name) ≡ object_at held (string_bytes name) → MayHaveSaved stored (string_bytes name) old new → HasSavedFront stored saved held new
front_after held stored old new names saved i name h is all absent e before (inl made) =
    front_saved held stored new names saved (i + 1) all (absent_more held names i name h is absent (sym before ∙ made.0))
    (made.1 ∙ ap (λ (o : Objects). with_copy stored o (string_bytes name)) e ∙ sym (copies_more stored held names i name h is))
front_after held stored old new names saved i name h is all absent e before (inr same) = front_saved held stored new names saved i all absent (same ∙ e)

-- a front that was saved leaves what stood
pub kept_by_front : (stored : Objects) (names : List (List ℕ)) (old new : Objects) (name bytes : List ℕ) → HasSavedFront stored names old new → object_at old name ≡ Some bytes → object_at new name ≡ Some bytes
kept_by_front stored names old new name bytes front e =
    ap (λ (o : Objects). object_at o name) front.1.1 ∙ kept_by_copies stored old (take front.0 names) name bytes e

-- a put that found what stood changed nothing
pub unchanged_if_found : (put : Put) (held new : Objects) (name bytes : List ℕ) → put ≡ put_told (object_at held name) → put ≡ Exists → new ≡ with_object held name bytes → new ≡ held
unchanged_if_found put held new name bytes told is made = made ∙ with_object_stands held name bytes (stood (object_at held name) (sym is ∙ told))
  where
    stood : (found : Option (List ℕ)) → Exists ≡ put_told found → is_some found ≡ true
    stood None e = cc
    stood (Some kept) e = refl

-- what a create that ends with a fault may have made
pub may_have_made : (fault : FolderFault) (held new : Objects) (name bytes : List ℕ) → (IsFailed {X = Put} (Err fault) → MayHaveMade name bytes held new) → (IsErrOf {T = Put} (Err fault) folders.Memory → new ≡ held) → MayHaveMade name bytes held new
may_have_made (folders.Failed told reason) held new name bytes failed memory = failed tt
may_have_made folders.Memory held new name bytes failed memory = inr (memory refl)

-- a put that may have been made copied the object to where its name was absent, or changed nothing
pub may_have_saved : (stored held new : Objects) (name bytes : List ℕ) → object_at stored name ≡ Some bytes → MayHaveMade name bytes held new → MayHaveSaved stored name held new
may_have_saved stored held new name bytes e (inr same) = inr same
may_have_saved stored held new name bytes e (inl made) = by_case (object_at held name) refl
  where
    by_case : (found : Option (List ℕ)) → object_at held name ≡ found → MayHaveSaved stored name held new
    by_case None f = inl (f, made ∙ ap (with_found held name) (sym e))
    by_case (Some kept) f = inr (made ∙ with_object_stands held name bytes (ap is_some f))

-- what a `?` hands on is the fault that it met
pub is_err : {X : Type 0} (r : Result X SaveFault) (fault : SaveFault) → IsErrAnd r (λ e. e ≡ fault) → r ≡ Err fault
is_err (Ok x) fault h = absurd h
is_err (Err told) fault h = ap Err h

-- what is found where the fault tells is what was there at first
pub stood_before : (now held : Objects) (name : List ℕ) (fault : SaveFault) → SaveFailsAt {X = Unit {0}} name (Err fault) → object_at now name ≡ object_at held name → FailsWhereStood {X = Unit {0}} now (Err fault) → FailsWhereStood {X = Unit {0}} held (Err fault)
stood_before now held name (NotSaved n reason) e same stood = ap is_some (ap (object_at held) e ∙ sym same ∙ sym (ap (object_at now) e)) ∙ stood
stood_before now held name Lost e same stood = tt
stood_before now held name Memory e same stood = tt

pub counts_before : (steady later : Type 0) (now held : Objects) (name : List ℕ) (fault : SaveFault) (first old new : ℕ) → (steady → later) → old ≡ first → SaveFailsAt {X = Unit {0}} name (Err fault) → (steady → object_at now name ≡ object_at held name)
    → CountsSave {X = Unit {0}} later now (Err fault) old new → CountsSave {X = Unit {0}} steady held (Err fault) first new
counts_before steady later now held name (NotSaved n reason) first old new so from e same (inl risen) = inl (subst (λ (o : ℕ). HasRisen o new) from risen)
counts_before steady later now held name (NotSaved n reason) first old new so from e same (inr stood) =
    inr (stood.0 ∙ from, stood.1, λ s. stood_before now held name (NotSaved n reason) e (same s) (stood.2 (so s)))
counts_before steady later now held name Lost first old new so from e same counted = counted ∙ from
counts_before steady later now held name Memory first old new so from e same counted = counted ∙ from

-- ---- where it fails

-- nothing is told of what is done
nothing_done : (P : Type 0) (result : Result (Unit {0}) SaveFault) (fault : SaveFault) → result ≡ Err fault → OnOk result P
nothing_done P result fault is = subst (λ (r : Result (Unit {0}) SaveFault). OnOk r P) (sym is) tt

-- what it leaves
pub unsaved_into : (loaded : List (String Global)) (is_reliable : Type 0) (stored old new : Objects) (result : Result (Unit {0}) SaveFault) (fault : SaveFault) → result ≡ Err fault → HasSavedFront stored (new_names loaded stored) old new
    → (is_reliable → FailsWhereStood {X = Unit {0}} old (Err fault)) → SavesInto loaded is_reliable stored old new result
unsaved_into loaded is_reliable stored old new result fault is front stood = record {
  front = front;
  saved = nothing_done _ result fault is;
  fresh = nothing_done _ result fault is;
  whole = nothing_done _ result fault is;
  kept = λ name bytes e. kept_by_front stored (new_names loaded stored) old new name bytes front e;
  same = λ own has. nothing_done _ result fault is;
  never_fails = λ reliable. subst (λ (r : Result (Unit {0}) SaveFault). FailsWhereStood old r) (sym is) (stood reliable);
}

-- the front may be empty
pub empty_front : (stored : Objects) (names : List (List ℕ)) (held : Objects) → HasSavedFront stored names held held
empty_front stored names held = (0, (All-nil (λ (name : List ℕ). object_at held name ≡ None), refl))

-- it tells one of the names to save
pub unsaved_named : (names : List (List ℕ)) (name : List ℕ) (result : Result (Unit {0}) SaveFault) (fault : SaveFault) → result ≡ Err fault → Contains names name → SaveFailsAt {X = Unit {0}} name (Err fault) → SaveFailsAmong names result
unsaved_named names name result fault is one at = subst (λ (r : Result (Unit {0}) SaveFault). SaveFailsAmong names r) (sym is) (by_fault fault at)
  where
    by_fault : (f : SaveFault) → SaveFailsAt {X = Unit {0}} name (Err f) → SaveFailsAmong {X = Unit {0}} names (Err f)
    by_fault (NotSaved told reason) at = subst (Contains names) (sym at) one
    by_fault Lost at = tt
    by_fault Memory at = tt

-- where no object was tried, none is told as not saved
pub untried_stood : (X : Type 0) (held : Objects) (fault : SaveFault) → (IsNotSaved {X = X} (Err fault) → ⊥) → FailsWhereStood {X = Unit {0}} held (Err fault)
untried_stood X held (NotSaved name reason) none = absurd (none tt)
untried_stood X held Lost none = tt
untried_stood X held Memory none = tt

pub untried_over : (X : Type 0) (names : List (List ℕ)) (is_steady : Type 0) (old : Objects) (result : Result (Unit {0}) SaveFault) (fault : SaveFault) (count losses later : ℕ) → result ≡ Err fault → (IsNotSaved {X = X} (Err fault) → ⊥)
    → CountsLost {X = X} (Err fault) losses later → SavesOver names is_steady old result count count losses later
untried_over X names is_steady old result fault count losses later is none lost =
    subst (λ (r : Result (Unit {0}) SaveFault). SavesOver names is_steady old r count count losses later) (sym is) (by_fault fault none lost)
  where
    by_fault : (f : SaveFault) → (IsNotSaved {X = X} (Err f) → ⊥) → CountsLost {X = X} (Err f) losses later → SavesOver names is_steady old (Err f) count count losses later
    by_fault (NotSaved name reason) none lost = absurd (none tt)
    by_fault Lost none lost = record { named = tt; faults = refl; lost = lost }
    by_fault Memory none lost = record { named = tt; faults = refl; lost = lost }
