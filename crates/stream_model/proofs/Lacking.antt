-- A session that listed a commit is never told, in a world, that one is lacked.
use Rattle.std.proofs.Common.{length, ◌≡◌, ◌∙◌, ◌+◌, ◌<◌, ◌≤◌, ℕ, zero, suc, List, [], ◌∷◌, ◌++◌, Option, Some, None, Contains, IsSome, append-nil, append_assoc, refl, sym, ap, subst, arith}
use Rattle.store_core.specs.Objects.{Objects, names_of, object_at}
use Rattle.store_core.specs.ObjectLaws.{listed_iff_stands}
use Rattle.store_core.specs.declared.store.Put.TheVariants.{Created, Exists}
use Rattle.store_core.specs.Names.{commit_name, greatest_version}
use Rattle.session_core.specs.Talks.{Asked, Bears, Talk, Told, get_object, list_names, put_commit, put_file, told_lost, told_memory, told_names, told_object, told_put}
use Rattle.table_log.specs.Counts.{count_in}
use Rattle.table_log.specs.LoadSessions.{HasGap}
use Rattle.table_log.proofs.CountNames.{newest_named}
use Rattle.table_model.specs.Table.{Entry}
use Rattle.table_store.specs.Holds.{Holds}
use Rattle.table_store.specs.Schema.{Schema}
use Rattle.table_store.specs.Sound.{IsSound}
use Rattle.log_laws.specs.Sound.{IsSoundStore}
use Rattle.session_laws.specs.Rows.{LacksCommit, ListsFirst, got_none, next_after_talk, next_version, none_listed, not_listed}
use Rattle.session_laws.proofs.Callers.{entry_at, get_next, within_table}
use Rattle.stream_model.specs.Headline.{ListsCommit}
use Rattle.session_core.specs.CallEffects.{told_by_call}

-- ---- what a session was told

-- by a sound store that bore what it was told before
abbrev pub WasTold : (front : Talk) → Asked → Told → Type 0
WasTold front asked told_lost = Unit {0}
WasTold front asked told_memory = Unit {0}
WasTold front asked told = (past : Objects) × IsSoundStore past × Bears past front × (told ≡ told_by_call past asked)

-- a commit is put as a version that one can have
abbrev pub HasVersion : Asked → Type 0
HasVersion (put_commit version bytes) = version ≤ greatest_version
HasVersion asked = Unit {0}

abbrev pub AllTold : (first talk : Talk) → Type 0
AllTold first [] = Unit {0}
AllTold first (call ∷ talk) = WasTold first call.0 call.1 × HasVersion call.0 × AllTold (first ++ call ∷ []) talk

pub was_told : (past : Objects) (front : Talk) → IsSoundStore past → Bears past front → (asked : Asked) → WasTold front asked (told_by_call past asked)
was_told past front sound borne list_names = (past, sound, borne, refl)
was_told past front sound borne (get_object name) = (past, sound, borne, refl)
was_told past front sound borne (put_file name bytes) = (past, sound, borne, refl)
was_told past front sound borne (put_commit version bytes) = (past, sound, borne, refl)

-- one call more
pub told_more : (first talk : Talk) (asked : Asked) (told : Told) → AllTold first talk → WasTold (first ++ talk) asked told → HasVersion asked → AllTold first (talk ++ (asked, told) ∷ [])
told_more first [] asked told all one has = (subst (λ (t : Talk). WasTold t asked told) (append-nil first) one, has, tt)
told_more first (call ∷ talk) asked told all one has = (all.0, all.1, told_more (first ++ call ∷ []) talk asked told all.2 (subst (λ (t : Talk). WasTold t asked told) (sym (append_assoc first (call ∷ []) talk)) one) has)

-- the calls in front
told_front : (first front more : Talk) → AllTold first (front ++ more) → AllTold first front
told_front first [] more all = tt
told_front first (call ∷ front) more all = (all.0, all.1, told_front (first ++ call ∷ []) front more all.2)

-- and one of them
told_at : (first front : Talk) (asked : Asked) (told : Told) (more : Talk) → AllTold first (front ++ (asked, told) ∷ more) → WasTold (first ++ front) asked told
told_at first [] asked told more all = subst (λ (t : Talk). WasTold t asked told) (sym (append-nil first)) all.0
told_at first (call ∷ front) asked told more all = subst (λ (t : Talk). WasTold t asked told) (append_assoc first (call ∷ []) front) (told_at (first ++ call ∷ []) front asked told more all.2)

-- ---- which commits stand

module _ (objects : Objects) (sound : IsSound objects) where
  -- each version below one that stands stands
  below_stands : (last : ℕ) → last ≤ greatest_version → IsSome (object_at objects (commit_name last)) → (version : ℕ) → version ≤ last → IsSome (object_at objects (commit_name version))
  below_stands last small stands version below = by_found (object_at objects (commit_name last)) refl stands
    where
      by_found : (found : Option (List ℕ)) → object_at objects (commit_name last) ≡ found → IsSome found → IsSome (object_at objects (commit_name version))
      by_found None is none = absurd cc
      by_found (Some bytes) is some =
          let within = within_table objects sound.schema sound.entries sound sound.holds last bytes small is in
          let one = entry_at objects sound.schema 0 version sound.entries sound.holds (omega (arith, within, below)) in
          let plain : version ≡ 0 + version = omega arith in
          let there : object_at objects (commit_name version) ≡ Some one.stands.0 = ap (λ (v : ℕ). object_at objects (commit_name v)) plain ∙ one.stands.1 in
          rw there refl

  -- so does each below the newest that is listed
  listed_stand : (names : List (List ℕ)) → ((name : List ℕ) → Contains names name → IsSome (object_at objects name)) → (version : ℕ) → version < count_in names → IsSome (object_at objects (commit_name version))
  listed_stand names stand version below = by_count (count_in names) refl below
    where
      by_count : (count : ℕ) → count_in names ≡ count → version < count → IsSome (object_at objects (commit_name version))
      by_count zero is none = absurd (omega (arith, none))
      by_count (suc last) is low = let newest = newest_named names last is in below_stands last newest.1 (stand (commit_name last) newest.0) version (omega (arith, low))

  -- and each below the one that comes next by a talk that is borne
  next_stand : (talk : Talk) (first : Talk) (next : ℕ) → ((version : ℕ) → version < next → IsSome (object_at objects (commit_name version))) → AllTold first talk → Bears objects talk → (version : ℕ) → version < next_after_talk next talk → IsSome (object_at objects (commit_name version))
  next_stand [] first next stand all borne = stand
  next_stand ((list_names, told_names names) ∷ talk) first next stand all borne = next_stand talk (first ++ (list_names, told_names names) ∷ []) (count_in names) (listed_stand names borne.0) all.2 borne.1
  next_stand ((list_names, told_object found) ∷ talk) first next stand all borne = next_stand talk (first ++ (list_names, told_object found) ∷ []) next stand all.2 borne.1
  next_stand ((list_names, told_put put) ∷ talk) first next stand all borne = next_stand talk (first ++ (list_names, told_put put) ∷ []) next stand all.2 borne.1
  next_stand ((list_names, told_lost) ∷ talk) first next stand all borne = next_stand talk (first ++ (list_names, told_lost) ∷ []) next stand all.2 borne.1
  next_stand ((list_names, told_memory) ∷ talk) first next stand all borne = next_stand talk (first ++ (list_names, told_memory) ∷ []) next stand all.2 borne.1
  next_stand ((get_object name, told) ∷ talk) first next stand all borne = next_stand talk (first ++ (get_object name, told) ∷ []) next stand all.2 borne.1
  next_stand ((put_file name bytes, told) ∷ talk) first next stand all borne = next_stand talk (first ++ (put_file name bytes, told) ∷ []) next stand all.2 borne.1
  next_stand ((put_commit at bytes, told_put Exists) ∷ talk) first next stand all borne =
      next_stand talk (first ++ (put_commit at bytes, told_put Exists) ∷ []) (suc at) (λ version below. below_stands at all.1 borne.0 version (omega (arith, below))) all.2 borne.1
  next_stand ((put_commit at bytes, told_put Created) ∷ talk) first next stand all borne = next_stand talk (first ++ (put_commit at bytes, told_put Created) ∷ []) next stand all.2 borne.1
  next_stand ((put_commit at bytes, told_names names) ∷ talk) first next stand all borne = next_stand talk (first ++ (put_commit at bytes, told_names names) ∷ []) next stand all.2 borne.1
  next_stand ((put_commit at bytes, told_object found) ∷ talk) first next stand all borne = next_stand talk (first ++ (put_commit at bytes, told_object found) ∷ []) next stand all.2 borne.1
  next_stand ((put_commit at bytes, told_lost) ∷ talk) first next stand all borne = next_stand talk (first ++ (put_commit at bytes, told_lost) ∷ []) next stand all.2 borne.1
  next_stand ((put_commit at bytes, told_memory) ∷ talk) first next stand all borne = next_stand talk (first ++ (put_commit at bytes, told_memory) ∷ []) next stand all.2 borne.1

  -- the version that comes next is one behind one that a commit can have
  next_fits : (talk : Talk) (first : Talk) (next : ℕ) → next ≤ suc greatest_version → AllTold first talk → next_after_talk next talk ≤ suc greatest_version
  next_fits [] first next fits all = fits
  next_fits ((list_names, told_names names) ∷ talk) first next fits all = next_fits talk (first ++ (list_names, told_names names) ∷ []) (count_in names) (by_count (count_in names) refl) all.2
    where
      by_count : (count : ℕ) → count_in names ≡ count → count ≤ suc greatest_version
      by_count zero is = omega arith
      by_count (suc last) is = let newest = newest_named names last is in omega (arith, newest.1)
  next_fits ((put_commit at bytes, told_put Exists) ∷ talk) first next fits all = next_fits talk (first ++ (put_commit at bytes, told_put Exists) ∷ []) (suc at) (omega (arith, all.1)) all.2
  next_fits ((list_names, told_object found) ∷ talk) first next fits all = next_fits talk (first ++ (list_names, told_object found) ∷ []) next fits all.2
  next_fits ((list_names, told_put put) ∷ talk) first next fits all = next_fits talk (first ++ (list_names, told_put put) ∷ []) next fits all.2
  next_fits ((list_names, told_lost) ∷ talk) first next fits all = next_fits talk (first ++ (list_names, told_lost) ∷ []) next fits all.2
  next_fits ((list_names, told_memory) ∷ talk) first next fits all = next_fits talk (first ++ (list_names, told_memory) ∷ []) next fits all.2
  next_fits ((get_object name, told) ∷ talk) first next fits all = next_fits talk (first ++ (get_object name, told) ∷ []) next fits all.2
  next_fits ((put_file name bytes, told) ∷ talk) first next fits all = next_fits talk (first ++ (put_file name bytes, told) ∷ []) next fits all.2
  next_fits ((put_commit at bytes, told_put Created) ∷ talk) first next fits all = next_fits talk (first ++ (put_commit at bytes, told_put Created) ∷ []) next fits all.2
  next_fits ((put_commit at bytes, told_names names) ∷ talk) first next fits all = next_fits talk (first ++ (put_commit at bytes, told_names names) ∷ []) next fits all.2
  next_fits ((put_commit at bytes, told_object found) ∷ talk) first next fits all = next_fits talk (first ++ (put_commit at bytes, told_object found) ∷ []) next fits all.2
  next_fits ((put_commit at bytes, told_lost) ∷ talk) first next fits all = next_fits talk (first ++ (put_commit at bytes, told_lost) ∷ []) next fits all.2
  next_fits ((put_commit at bytes, told_memory) ∷ talk) first next fits all = next_fits talk (first ++ (put_commit at bytes, told_memory) ∷ []) next fits all.2

  -- so no more versions come in front of it than the table has
  pub next_within : (schema : Schema) (entries : List Entry) → Holds objects schema entries → (talk : Talk) → AllTold [] talk → Bears objects talk → next_version talk ≤ length entries
  next_within schema entries holds talk all borne = by_next (next_version talk) refl
    where
      by_next : (next : ℕ) → next_version talk ≡ next → next ≤ length entries
      by_next zero is = omega arith
      by_next (suc last) is =
          let fits = next_fits talk [] 0 (omega arith) all in
          let stands = next_stand talk [] 0 (λ v none. absurd (omega (arith, none))) all borne last (omega (arith, is)) in
          by_found (object_at objects (commit_name last)) refl stands (omega (arith, fits, is))
        where
          by_found : (found : Option (List ℕ)) → object_at objects (commit_name last) ≡ found → IsSome found → last ≤ greatest_version → suc last ≤ length entries
          by_found None here none small = absurd cc
          by_found (Some bytes) here some small = let within = within_table objects schema entries sound holds last bytes small here in omega (arith, within)

  -- no version is missing among the names that it lists
  no_gap : (names : List (List ℕ)) → names ≡ names_of objects → HasGap names → ⊥
  no_gap names is gap = gap (λ version below.
      let stands = listed_stand names (λ name has. (listed_iff_stands objects name).0 (subst (λ (ns : List (List ℕ)). Contains ns name) is has)) version below in
      subst (λ (ns : List (List ℕ)). Contains ns (commit_name version)) (sym is) ((listed_iff_stands objects (commit_name version)).1 stands))

-- ---- no commit is lacked

abbrev listed_first : Talk → List (List ℕ)
listed_first ((list_names, told_names names) ∷ talk) = names
listed_first talk = []

same_names : (talk : Talk) (names others : List (List ℕ)) → ListsFirst talk names → ListsFirst talk others → names ≡ others
same_names talk names others one two = sym (ap listed_first one.1) ∙ ap listed_first two.1

-- behind a list that was made first the same version comes next, whichever came next before
listed_anew : (next : ℕ) (talk : Talk) (names : List (List ℕ)) → ListsFirst talk names → next_after_talk next talk ≡ next_version talk
listed_anew next talk names lists = ap (next_after_talk next) lists.1 ∙ sym (ap next_version lists.1)

-- Behind a list that had a commit none is lacked, whichever version came next before.
pub none_lacked : (next : ℕ) (talk : Talk) → AllTold [] talk → ListsCommit talk → (version : ℕ) → LacksCommit (next_after_talk next talk) talk version → ⊥
none_lacked next talk all listed version (none_listed names lists none first) = let same = same_names talk names listed.0 lists listed.1 in omega (arith, none, listed.2, ap count_in same)
none_lacked next talk all listed version (got_none below (front, last)) = by_past (told_at [] front (get_object (commit_name version)) (told_object None) [] own)
  where
    own : AllTold [] (front ++ (get_object (commit_name version), told_object None) ∷ [])
    own = subst (λ (t : Talk). AllTold [] t) last all

    low : version < next_version front
    low = subst (λ (n : ℕ). version < n) (listed_anew next talk listed.0 listed.1 ∙ (ap next_version last ∙ get_next 0 front (commit_name version) (told_object None))) below

    by_past : WasTold front (get_object (commit_name version)) (told_object None) → ⊥
    by_past (past, sound, borne, told) =
        let stands = next_stand past sound.table front [] 0 (λ v none. absurd (omega (arith, none))) (told_front [] front ((get_object (commit_name version), told_object None) ∷ []) own) borne version low in
        let nothing : object_at past (commit_name version) ≡ None = cc in
        let none : IsSome {T = List ℕ} None = subst IsSome nothing stands in
        absurd cc
none_lacked next talk all listed version (not_listed names lists below gap) = by_past (subst (λ (t : Talk). AllTold [] t) lists.1 all).0
  where
    by_past : WasTold [] list_names (told_names names) → ⊥
    by_past (past, sound, borne, told) = let same : names ≡ names_of past = cc in no_gap past sound.table names same gap
