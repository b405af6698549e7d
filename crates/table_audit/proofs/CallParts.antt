-- Calls of a reader that go on, and what they read.
use Rattle.std.proofs.Common.{◌≡◌, ◌+◌, ◌<◌, ◌++◌, ◌∷◌, [], ℕ, zero, suc, Bool, true, false, List, String, Global, Option, None, Some, Result, Ok, Err, IfOk, filter, is_some, length, get_or, map, take, string_bytes, append-nil, append_assoc, refl, sym, ap, subst, ◌∙◌, arith, inl, inr}
use Rattle.std.specs.Option.{IfNone}
use Rattle.std.proofs.lemmas.List.{map_more}
use Rattle.std.proofs.lemmas.List.Elements.{filter-append}
use Rattle.delta_actions.specs.Action.{Action}
use Rattle.delta_actions.specs.Commit.{IsCommit}
use Rattle.store_core.specs.Names.{commit_name, commit_version}
use Rattle.table_store.specs.Commits.{without_commit_info}
use Rattle.table_store.specs.Groups.{added}
use Rattle.table_audit.specs.Audits.{ReadFiles, ReadFront, ReadInTurn, ReadLast, ReadLog, ReadToEnd, ReadVersion, ReadVersions, is_commit_name, names_of_files}
use Rattle.table_audit.specs.Calls.{ReaderCall, ReaderTraced, reads}

-- ---- traces

-- a trace goes on with another
pub traced_on : {R : Type 0} → (makes : R → ReaderCall → R → Type 0) (old mid new : R) (calls more : List ReaderCall) → ReaderTraced makes old calls mid → ReaderTraced makes mid more new → ReaderTraced makes old (calls ++ more) new
traced_on {R} makes old mid new [] more is on = subst (λ (r : R). ReaderTraced makes r more new) is on
traced_on {R} makes old mid new (call ∷ calls) more is on = (is.0, is.1, traced_on makes is.0 mid new calls more is.2 on)

-- one call was made
pub traced_once : {R : Type 0} → (makes : R → ReaderCall → R → Type 0) (old new : R) (call : ReaderCall) → makes old call new → ReaderTraced makes old (call ∷ []) new
traced_once makes old new call is = (new, is, refl)

-- ---- names that were read in turn

pub turn_on : (names more : List (List ℕ)) (calls others : List ReaderCall) → ReadInTurn names calls → ReadInTurn more others → ReadInTurn (names ++ more) (calls ++ others)
turn_on [] more calls others is on = subst (ReadInTurn more) (ap (λ (cs : List ReaderCall). cs ++ others) (sym is)) on
turn_on (name ∷ names) more calls others is on = (is.0, is.1 ++ others, ap (λ (cs : List ReaderCall). cs ++ others) is.2, turn_on names more is.1 others is.3 on)

pub turn_once : (name : List ℕ) (told : Option (Option (List ℕ))) → ReadInTurn (name ∷ []) (reads name told ∷ [])
turn_once name told = (told, [], refl, refl)

-- a test of one name
one_passes : (p : List ℕ → Bool) (name : List ℕ) → p name ≡ true → filter p (name ∷ []) ≡ name ∷ []
one_passes p name passes = rw passes refl

one_fails : (p : List ℕ → Bool) (name : List ℕ) → p name ≡ false → filter p (name ∷ []) ≡ []
one_fails p name fails = rw fails refl

-- a commit was read, and what is no commit wasn't
pub commit_read : {R : Type 0} → (makes : R → ReaderCall → R → Type 0) (old new : R) (name : List ℕ) (told : Option (Option (List ℕ))) → is_some (commit_version name) ≡ true → makes old (reads name told) new
    → (calls : List ReaderCall) × ReaderTraced makes old calls new × ReadInTurn (filter is_commit_name (name ∷ [])) calls
commit_read makes old new name told commit is =
    (reads name told ∷ [], traced_once makes old new (reads name told) is, subst (λ (names : List (List ℕ)). ReadInTurn names (reads name told ∷ [])) (sym (one_passes is_commit_name name commit)) (turn_once name told))

pub none_read : {R : Type 0} → (makes : R → ReaderCall → R → Type 0) (old : R) (name : List ℕ) → is_some (commit_version name) ≡ false
    → (calls : List ReaderCall) × ReaderTraced makes old calls old × ReadInTurn (filter is_commit_name (name ∷ [])) calls
none_read makes old name none = ([], refl, subst (λ (names : List (List ℕ)). ReadInTurn names []) (sym (one_fails is_commit_name name none)) refl)

-- the commits of one name more
pub commits_more : {R : Type 0} → (makes : R → ReaderCall → R → Type 0) (old mid new : R) (names : List (String Global)) (i : ℕ) (x : String Global) (name : List ℕ) → i < length names → x ≡ get_or names i x → name ≡ string_bytes x
    → (calls : List ReaderCall) × ReaderTraced makes old calls mid × ReadInTurn (filter is_commit_name (map string_bytes (take i names))) calls
    → (calls : List ReaderCall) × ReaderTraced makes mid calls new × ReadInTurn (filter is_commit_name (name ∷ [])) calls
    → (calls : List ReaderCall) × ReaderTraced makes old calls new × ReadInTurn (filter is_commit_name (map string_bytes (take (i + 1) names))) calls
commits_more makes old mid new names i x name more at is_name front one =
    let seen : map string_bytes (take (i + 1) names) ≡ map string_bytes (take i names) ++ name ∷ [] =
    map_more string_bytes names i x more ∙ ap (λ (last : List ℕ). map string_bytes (take i names) ++ last ∷ []) (ap string_bytes (sym at) ∙ sym is_name) in
    let both : filter is_commit_name (map string_bytes (take (i + 1) names)) ≡ filter is_commit_name (map string_bytes (take i names)) ++ filter is_commit_name (name ∷ []) =
    ap (filter is_commit_name) seen ∙ filter-append is_commit_name (map string_bytes (take i names)) (name ∷ []) in (
      front.0 ++ one.0,
      traced_on makes old mid new front.0 one.0 front.1 one.1,
      subst (λ (ns : List (List ℕ)). ReadInTurn ns (front.0 ++ one.0)) (sym both) (turn_on (filter is_commit_name (map string_bytes (take i names))) (filter is_commit_name (name ∷ [])) front.0 one.0 front.2 one.2),
    )

-- ---- files

-- what holds in any case
pub if_none : {X E : Type 0} (P : Type 0) (result : Result (Option X) E) → P → IfOk result (λ o. IfNone o P)
if_none P (Ok None) is = is
if_none P (Ok (Some x)) is = tt
if_none P (Err e) is = tt

-- no file was read
pub front_none : (names : List (List ℕ)) → ReadFront names []
front_none names = (0, refl)

-- of a commit's files
pub files_front : (bytes : List ℕ) (actions : List Action) (calls : List ReaderCall) → IsCommit bytes actions → ReadFront (names_of_files (added (without_commit_info actions))) calls → ReadFiles bytes calls
files_front bytes actions [] is front = tt
files_front bytes actions (call ∷ calls) is front = (actions, is, front)

-- ---- versions

-- a commit was read, whose bytes were told, and files behind it
pub version_read : (version : ℕ) (name bytes : List ℕ) (files : List ReaderCall) → name ≡ commit_name version → ReadFiles bytes files → ReadVersion version (reads name (Some (Some bytes)) ∷ files)
version_read version name bytes files is read = (bytes, files, ap (λ (n : List ℕ). reads n (Some (Some bytes)) ∷ files) is, read)

-- a commit was read, and nothing behind it
pub last_read : (version : ℕ) (name : List ℕ) (told : Option (Option (List ℕ))) → name ≡ commit_name version → ReadLast version (reads name told ∷ [])
last_read version name told is = inr (told, ap (λ (n : List ℕ). reads n told ∷ []) is)

-- one version more
pub versions_more : (from count at : ℕ) (calls one : List ReaderCall) → at ≡ from + count → ReadVersions from count calls → ReadVersion at one → ReadVersions from (suc count) (calls ++ one)
versions_more from zero at calls one is none first =
    let here : at ≡ from = omega (arith, is) in
    (one, [], subst (λ (v : ℕ). ReadVersion v one) here first, refl, ap (λ (cs : List ReaderCall). cs ++ one) none ∙ sym (append-nil one))
versions_more from (suc count) at calls one is all last =
    let here : at ≡ suc from + count = omega (arith, is) in
    (all.0, all.1 ++ one, all.2, versions_more (suc from) count at all.1 one here all.3 last, ap (λ (cs : List ReaderCall). cs ++ one) all.4 ∙ append_assoc all.0 all.1 one)

-- ---- the log

-- no commit was read
pub none_to_end : (from : ℕ) → ReadToEnd from []
none_to_end from = (0, [], [], refl, inl refl, refl)

pub log_to_end : (checkpoints : List (ℕ × List ℕ)) (from : ℕ) (calls : List ReaderCall) → ReadToEnd from calls → ReadLog checkpoints from calls
log_to_end [] from calls is = is
log_to_end (checkpoint ∷ checkpoints) from calls is = inl is

first_to_end : (from : ℕ) (first more : List ReaderCall) → ReadVersion from first → ReadToEnd (suc from) more → ReadToEnd from (first ++ more)
first_to_end from first more version end =
    let same : suc from + end.0 ≡ from + suc end.0 = omega arith in (
      suc end.0,
      first ++ end.1,
      end.2,
      (first, end.1, version, end.3, refl),
      subst (λ (v : ℕ). ReadLast v end.2) same end.4,
      ap (λ (cs : List ReaderCall). first ++ cs) end.5 ∙ sym (append_assoc first end.1 end.2),
    )

-- the first version, and then the log from the next one on
pub log_first : (checkpoints : List (ℕ × List ℕ)) (from : ℕ) (first more : List ReaderCall) → ReadVersion from first → ReadLog checkpoints (suc from) more → ReadLog checkpoints from (first ++ more)
log_first [] from first more version log = first_to_end from first more version log
log_first (checkpoint ∷ checkpoints) from first more version (inl log) = inl (first_to_end from first more version log)
log_first (checkpoint ∷ checkpoints) from first more version (inr log) =
    inr (
      suc log.0,
      first ++ log.1,
      log.2,
      log.3,
      (first, log.1, version, log.4, refl),
      omega (arith, log.5),
      log.6,
      ap (λ (cs : List ReaderCall). first ++ cs) log.7 ∙ sym (append_assoc first log.1 (reads checkpoint.1 log.2 ∷ log.3)),
    )

-- up to a checkpoint, which was read, and on
pub log_checkpoint : (checkpoint : ℕ × List ℕ) (checkpoints : List (ℕ × List ℕ)) (from count next : ℕ) (front more : List ReaderCall) (told : Option (Option (List ℕ)))
    → ReadVersions from count front → from + count ≡ suc checkpoint.0 → next ≡ suc checkpoint.0 → ReadLog checkpoints next more → ReadLog (checkpoint ∷ checkpoints) from (front ++ reads checkpoint.1 told ∷ more)
log_checkpoint checkpoint checkpoints from count next front more told versions at is log = inr (count, front, told, more, versions, at, subst (λ (v : ℕ). ReadLog checkpoints v more) is log, refl)

-- calls behind which the log is read on from a version, with these checkpoints, are those of a log from another on, with those
abbrev pub GoesOnTo : (ahead : List (ℕ × List ℕ)) (next : ℕ) (all : List (ℕ × List ℕ)) (from : ℕ) → List ReaderCall → Type 0
GoesOnTo ahead next all from calls = (more : List ReaderCall) → ReadLog ahead next more → ReadLog all from (calls ++ more)

-- it goes on with versions up to a checkpoint, which is read
pub goes_on_behind : (checkpoint : ℕ × List ℕ) (ahead all : List (ℕ × List ℕ)) (next from count at : ℕ) (calls front : List ReaderCall) (told : Option (Option (List ℕ)))
    → GoesOnTo (checkpoint ∷ ahead) next all from calls → ReadVersions next count front → next + count ≡ suc checkpoint.0 → at ≡ suc checkpoint.0
    → GoesOnTo ahead at all from (calls ++ (front ++ reads checkpoint.1 told ∷ []))
goes_on_behind checkpoint ahead all next from count at calls front told goes versions is behind more log =
    let whole = goes (front ++ reads checkpoint.1 told ∷ more) (log_checkpoint checkpoint ahead next count at front more told versions is behind log) in
    let parts : (calls ++ (front ++ reads checkpoint.1 told ∷ [])) ++ more ≡ calls ++ (front ++ reads checkpoint.1 told ∷ more) =
    append_assoc calls (front ++ reads checkpoint.1 told ∷ []) more ∙ ap (λ (cs : List ReaderCall). calls ++ cs) (append_assoc front (reads checkpoint.1 told ∷ []) more) in
    subst (ReadLog all from) (sym parts) whole

-- nothing is read any more
pub goes_to_end : (ahead all : List (ℕ × List ℕ)) (next from : ℕ) (calls : List ReaderCall) → GoesOnTo ahead next all from calls → ReadLog all from calls
goes_to_end ahead all next from calls goes = subst (ReadLog all from) (append-nil calls) (goes [] (log_to_end ahead next [] (none_to_end next)))
