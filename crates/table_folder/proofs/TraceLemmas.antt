-- Traces that go on, and what saving and loading make of one name more.
use Rattle.std.proofs.Common.{◌≡◌, ◌<◌, ◌+◌, ◌++◌, ◌∷◌, [], ℕ, List, String, Option, Some, None, Result, Ok, Err, IsErrAnd, refl, sym, ap, subst, ◌∙◌, inl, inr, map, length, take, get_or, append_assoc, append-nil}
use Rattle.std.specs.Prelude.{OnOk, string_bytes}
use Rattle.std.specs.Global.{Global}
use Rattle.std.proofs.lemmas.List.{take-map}
use Rattle.std.proofs.lemmas.Option.{slice_get_read}
use Rattle.store_core.specs.Memory.{Stored}
use Rattle.store_core.specs.Objects.{Objects, object_at}
use Rattle.table_folder.specs.Copies.{with_found}
use Rattle.table_folder.specs.Traces.{FolderCall, Loads, MakeNone, ReadsAll, ReadsUpToOneFile, ReadsInto, SavesOne, Saves, Traced, creates, lists, made_all, made_of, reads, told_objects}
use Rattle.table_folder.specs.declared.fault.LoadFault.{LoadFault}
use Rattle.table_folder.specs.declared.fault.SaveFault.{SaveFault}
use Rattle.table_folder.proofs.NameLemmas.{below_map, name_at, names_more}

-- a trace goes on with another
pub traced_on : {F : Type 0} → (makes : F → FolderCall → F → Type 0) (old mid new : F) (calls more : List FolderCall) → Traced makes old calls mid → Traced makes mid more new → Traced makes old (calls ++ more) new
traced_on {F} makes old mid new [] more is on = subst (λ (f : F). Traced makes f more new) is on
traced_on {F} makes old mid new (call ∷ calls) more is on = (is.0, is.1, traced_on makes is.0 mid new calls more is.2 on)

-- calls that make no file go on with such
pub none_made_on : (calls more : List FolderCall) → MakeNone calls → MakeNone more → MakeNone (calls ++ more)
none_made_on [] more is on = on
none_made_on (call ∷ calls) more is on = (is.0, none_made_on calls more is.1 on)

made_all_more : (objects : Objects) (names : List (List ℕ)) (name : List ℕ) → made_all objects (names ++ name ∷ []) ≡ made_all objects names ++ made_of name (object_at objects name)
made_all_more objects [] name = append-nil (made_of name (object_at objects name))
made_all_more objects (first ∷ names) name =
    ap (λ (calls : List FolderCall). made_of first (object_at objects first) ++ calls) (made_all_more objects names name)
    ∙ sym (append_assoc (made_of first (object_at objects first)) (made_all objects names) (made_of name (object_at objects name)))

-- one object more was made
pub traced_more : {F : Type 0} → (makes : F → FolderCall → F → Type 0) (old mid new : F) (objects now : Objects) (names : List (String Global)) (i : ℕ) (name : String Global) (key : List ℕ)
    → now ≡ objects → key ≡ string_bytes name → i < length names → name ≡ get_or names i name
    → Traced makes old (made_all objects (map string_bytes (take i names))) mid → (calls : List FolderCall) × Traced makes mid calls new × SavesOne now key (Ok tt) calls
    → Traced makes old (made_all objects (map string_bytes (take (i + 1) names))) new
traced_more {F} makes old mid new objects now names i name key same is_key h e front one =
    let made : one.0 ≡ made_of (string_bytes name) (object_at objects (string_bytes name)) = one.2 ∙ (λ j. made_of (is_key j) (object_at (same j) (is_key j))) in
    let all = ap (made_all objects) (names_more names i name h e) ∙ made_all_more objects (map string_bytes (take i names)) (string_bytes name) in
    subst (λ (calls : List FolderCall). Traced makes old calls new) (ap (λ (last : List FolderCall). made_all objects (map string_bytes (take i names)) ++ last) made ∙ sym all)
    (traced_on makes old mid new (made_all objects (map string_bytes (take i names))) one.0 front one.1)

-- a file that wasn't made where a call failed
pub unsaved_failed : (P : SaveFault → Type 0) (objects : Objects) (name bytes : List ℕ) (result : Result (Unit {0}) SaveFault) → object_at objects name ≡ Some bytes → IsErrAnd result P
    → SavesOne objects name result (creates name bytes None ∷ [])
unsaved_failed P objects name bytes (Ok done) is h = absurd h
unsaved_failed P objects name bytes (Err fault) is h = inr (bytes, None, is, tt, refl)

-- those in front of a name were made, and that one wasn't
pub unsaved_behind : {F : Type 0} → (makes : F → FolderCall → F → Type 0) (old mid new : F) (objects now : Objects) (names : List (String Global)) (all : List (List ℕ)) (i : ℕ) (name : String Global) (key : List ℕ) (fault : SaveFault) (result : Result (Unit {0}) SaveFault)
    → now ≡ objects → key ≡ string_bytes name → i < length names → name ≡ get_or names i name → map string_bytes names ≡ all → result ≡ Err fault
    → Traced makes old (made_all objects (map string_bytes (take i names))) mid → (calls : List FolderCall) × Traced makes mid calls new × SavesOne now key (Err fault) calls
    → (calls : List FolderCall) × Traced makes old calls new × Saves objects all result calls
unsaved_behind {F} makes old mid new objects now names all i name key fault result same is_key h e is_all is_err front one =
    let last : SavesOne objects (string_bytes name) (Err fault) one.0 = subst (λ (o : Objects). SavesOne o (string_bytes name) (Err fault) one.0) same (subst (λ (n : List ℕ). SavesOne now n (Err fault) one.0) is_key one.2) in
    let at = slice_get_read (map string_bytes names) (length (map string_bytes names)) i (string_bytes name) refl (below_map names i h) (name_at names i name h e) in
    let traced = traced_on makes old mid new (made_all objects (map string_bytes (take i names))) one.0 front one.1 in
    let saves : Saves objects (map string_bytes names) (Err fault) (made_all objects (map string_bytes (take i names)) ++ one.0) =
    inr (i, string_bytes name, one.0, at, last, ap (λ (ns : List (List ℕ)). made_all objects ns ++ one.0) (sym (take-map string_bytes i names))) in (
      made_all objects (map string_bytes (take i names)) ++ one.0,
      traced,
      subst (λ (r : Result (Unit {0}) SaveFault). Saves objects all r (made_all objects (map string_bytes (take i names)) ++ one.0)) (sym is_err)
          (subst (λ (ns : List (List ℕ)). Saves objects ns (Err fault) (made_all objects (map string_bytes (take i names)) ++ one.0)) is_all saves),
    )

-- ---- loading

-- what would be so of an answer, where there is none
pub on_fault : {X E : Type 0} (P : E → Type 0) (Q : Type 0) (result : Result X E) → IsErrAnd result P → OnOk result Q
on_fault P Q (Ok x) is = absurd is
on_fault P Q (Err fault) is = tt

-- one file more was read
reads_more : (names : List (List ℕ)) (name : List ℕ) (found : Option (List ℕ)) (calls : List FolderCall) → ReadsAll names calls → ReadsAll (names ++ name ∷ []) (calls ++ reads name (Some found) ∷ [])
reads_more [] name found calls is = (found, [], refl, ap (λ (c : List FolderCall). c ++ reads name (Some found) ∷ []) is)
reads_more (first ∷ names) name found calls is =
    (is.0, is.1 ++ reads name (Some found) ∷ [], reads_more names name found is.1 is.2, ap (λ (c : List FolderCall). c ++ reads name (Some found) ∷ []) is.3)

-- and what was told of it is there
told_more : (objects : Objects) (calls : List FolderCall) (name : List ℕ) (found : Option (List ℕ)) → told_objects objects (calls ++ reads name (Some found) ∷ []) ≡ with_found (told_objects objects calls) name found
told_more objects [] name found = refl
told_more objects (reads other (Some told) ∷ calls) name found = told_more (with_found objects other told) calls name found
told_more objects (call ∷ calls) name found = told_more objects calls name found

-- the files of these names were read on top of these objects
abbrev pub HasRead : {F : Type 0} → (makes : F → FolderCall → F → Type 0) (old : F) → (names : List (List ℕ)) → (objects before : Objects) → F → Type 0
HasRead makes old names objects before new = (calls : List FolderCall) × Traced makes old calls new × ReadsAll names calls × (before ≡ told_objects objects calls)

pub read_more : {F : Type 0} → (makes : F → FolderCall → F → Type 0) (old mid new : F) (objects before after : Objects) (names : List (String Global)) (i : ℕ) (name : String Global) (key : List ℕ)
    → key ≡ string_bytes name → i < length names → name ≡ get_or names i name
    → HasRead makes old (map string_bytes (take i names)) objects before mid
    → (told : Option (Option (List ℕ))) × makes mid (reads key told) new × ((found : Option (List ℕ)) × (told ≡ Some found) × (after ≡ with_found before key found))
    → HasRead makes old (map string_bytes (take (i + 1) names)) objects after new
read_more {F} makes old mid new objects before after names i name key is_key h e front one =
    let found : Option (List ℕ) = one.2.0 in
    let call : FolderCall = reads (string_bytes name) (Some found) in
    let made : makes mid call new =
    subst (λ (k : List ℕ). makes mid (reads k (Some found)) new) is_key (subst (λ (told : Option (Option (List ℕ))). makes mid (reads key told) new) one.2.1 one.1) in (
      front.0 ++ call ∷ [],
      traced_on makes old mid new front.0 (call ∷ []) front.1 (new, made, refl),
      subst (λ (ns : List (List ℕ)). ReadsAll ns (front.0 ++ call ∷ [])) (sym (names_more names i name h e)) (reads_more (map string_bytes (take i names)) (string_bytes name) found front.0 front.2),
      one.2.2 ∙ (λ j. with_found (front.3 j) (is_key j) found) ∙ sym (told_more objects front.0 (string_bytes name) found),
    )

-- those in front of a name were read, and of that one something was told, or nothing
pub unread_behind : {F : Type 0} → (makes : F → FolderCall → F → Type 0) (old mid new : F) (objects before after : Objects) (names : List (String Global)) (i : ℕ) (name : String Global) (key : List ℕ) (told : Option (Option (List ℕ))) (P : LoadFault → Type 0) (result : Result (Unit {0}) LoadFault)
    → IsErrAnd result P → key ≡ string_bytes name → i < length names → name ≡ get_or names i name
    → HasRead makes old (map string_bytes (take i names)) objects before mid → makes mid (reads key told) new
    → (calls : List FolderCall) × Traced makes old calls new × ReadsInto (map string_bytes names) objects after result calls
unread_behind {F} makes old mid new objects before after names i name key told P (Ok done) is is_key h e front made = absurd is
unread_behind {F} makes old mid new objects before after names i name key told P (Err fault) is is_key h e front made =
    let call : FolderCall = reads (string_bytes name) told in
    let at = slice_get_read (map string_bytes names) (length (map string_bytes names)) i (string_bytes name) refl (below_map names i h) (name_at names i name h e) in (
      front.0 ++ call ∷ [],
      traced_on makes old mid new front.0 (call ∷ []) front.1 (new, subst (λ (k : List ℕ). makes mid (reads k told) new) is_key made, refl),
      (i, string_bytes name, told, front.0, at, subst (λ (ns : List (List ℕ)). ReadsAll ns front.0) (sym (take-map string_bytes i names)) front.2, refl),
    )

-- a load that ended at its listing, behind it, or in a read
pub not_listed : (wanted : List (List ℕ) → List (List ℕ)) (P : LoadFault → Type 0) (result : Result Stored LoadFault) → IsErrAnd result P → Loads wanted result (lists None ∷ [])
not_listed wanted P (Ok store) is = absurd is
not_listed wanted P (Err fault) is = inl refl

pub only_listed : (wanted : List (List ℕ) → List (List ℕ)) (P : LoadFault → Type 0) (result : Result Stored LoadFault) (names : List (List ℕ)) → IsErrAnd result P → Loads wanted result (lists (Some names) ∷ [])
only_listed wanted P (Ok store) names is = absurd is
only_listed wanted P (Err fault) names is = inr (names, [], inl refl, refl)

pub front_loaded : (wanted : List (List ℕ) → List (List ℕ)) (P : LoadFault → Type 0) (result : Result Stored LoadFault) (names : List (List ℕ)) (calls : List FolderCall) → IsErrAnd result P → ReadsUpToOneFile (wanted names) calls
    → Loads wanted result (lists (Some names) ∷ calls)
front_loaded wanted P (Ok store) names calls is front = absurd is
front_loaded wanted P (Err fault) names calls is front = inr (names, calls, inr front, refl)
