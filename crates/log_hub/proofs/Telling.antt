-- What follows of a call that a seat made.
use Rattle.std.proofs.Common.{◌≡◌, ◌∙◌, ℕ, suc, ◌<◌, ◌≤◌, ◌==◌, Bool, true, false, List, [], ◌∷◌, ◌++◌, length, max, Option, None, Some, IsSome, Contains, is_some, slice_get, refl, sym, ap, subst, arith, inl, inr}
use Rattle.std.proofs.lemmas.Bool.{cases_lt}
use Rattle.std.proofs.lemmas.Bool.Decides.{nat_tests}
use Rattle.store_core.specs.Names.{commit_name, commit_version, greatest_version}
use Rattle.store_core.specs.ObjectLaws.{listed_iff_stands}
use Rattle.store_core.specs.Objects.{Objects, names_of, object_at}
use Rattle.store_core.specs.declared.store.Put.{Put}
use Rattle.store_core.specs.declared.store.Put.TheVariants.{Created, Exists}
use Rattle.store_core.proofs.Callers.{own_version}
use Rattle.session_core.specs.Talks.{Asked, Told, get_object, list_names, put_commit, put_file, told_lost, told_memory, told_names, told_object, told_put}
use Rattle.table_log.specs.Counts.{commit_count, count_in}
use Rattle.log_book.specs.Histories.{left_by_all}
use Rattle.log_book.proofs.Callers.{commits_stand}
use Rattle.log_hub.specs.Receipts.{ReadsBehind}
use Rattle.log_hub.specs.Seats.{Extends, TriesFile, floor_seen, is_next_version, log_after, log_in_store, log_seen, map_seen, map_with, names_seen, read_behind_log}
use Rattle.log_hub.specs.Lock.{IsFrontOf}
use Rattle.log_hub.specs.Sights.{Seen}
use Rattle.log_hub.proofs.HistoryParts.{front_itself}
use Rattle.log_hub.proofs.Seeing.{floor_extends, got_in_front, log_extends, map_extends, named_stands, names_extends, stand_at}
use Rattle.log_hub.proofs.StoreLogs.{log_has}

-- the store as it was when the call was made
abbrev at_call : (old : Seen) (asked : Asked) (told : Told) (new : Seen) → Extends old asked told new → Objects
at_call old asked told new e = left_by_all old.opening (old.front ++ e.between)

told_of_get : (old : Seen) (name : List ℕ) (found : Option (List ℕ)) (new : Seen) → (e : Extends old (get_object name) (told_object found) new) → found ≡ object_at (at_call old (get_object name) (told_object found) new e) name
told_of_get old name found new e = cc (e.told_so)

-- a get gives what was put or given before
pub get_gives : (old : Seen) (name : List ℕ) (found : Option (List ℕ)) (new : Seen) (bytes : List ℕ) → Extends old (get_object name) (told_object found) new → object_at (map_seen old) name ≡ Some bytes → found ≡ Some bytes
get_gives old name found new bytes e h = told_of_get old name found new e ∙ stand_at (left_by_all old.opening (old.front ++ e.between)) (map_seen old) name bytes e.stood.has.mapped h

-- what the log that was seen has stands
log_stands : (old : Seen) (asked : Asked) (told : Told) (new : Seen) (version : ℕ) (bytes : List ℕ) → (e : Extends old asked told new) → slice_get (log_seen old) version ≡ Some bytes → object_at (at_call old asked told new e) (commit_name version) ≡ Some bytes
log_stands old asked told new version bytes e h =
    log_has (left_by_all old.opening (old.front ++ e.between)) e.stood.sound version bytes (got_in_front (log_seen old) (log_in_store (left_by_all old.opening (old.front ++ e.between))) version bytes e.stood.has.begins h)

pub get_gives_commit : (old : Seen) (name : List ℕ) (version : ℕ) (found : Option (List ℕ)) (new : Seen) (bytes : List ℕ) → Extends old (get_object name) (told_object found) new → name ≡ commit_name version → slice_get (log_seen old) version ≡ Some bytes → found ≡ Some bytes
get_gives_commit old name version found new bytes e is h =
    told_of_get old name found new e ∙ (ap (object_at (left_by_all old.opening (old.front ++ e.between))) is ∙ log_stands old (get_object name) (told_object found) new version bytes e h)

-- and nothing only where nothing was told of the name
pub get_none : (old : Seen) (name : List ℕ) (found : Option (List ℕ)) (new : Seen) → Extends old (get_object name) (told_object found) new → found ≡ None → Contains (names_seen old) name → ⊥
get_none old name found new e none has =
    let stands : IsSome (object_at (left_by_all old.opening (old.front ++ e.between)) name) = named_stands (left_by_all old.opening (old.front ++ e.between)) (names_seen old) name e.stood.has.named has in
    let absent : object_at (left_by_all old.opening (old.front ++ e.between)) name ≡ None = sym (told_of_get old name found new e) ∙ none in
    let wrong : false ≡ true = sym (ap is_some absent) ∙ stands in
    absurd cc

-- the names that are listed include each that was seen
listed_there : (old : Seen) (names : List (List ℕ)) (new : Seen) (name : List ℕ) → (e : Extends old list_names (told_names names) new) → IsSome (object_at (left_by_all old.opening (old.front ++ e.between)) name) → Contains names name
listed_there old names new name e stands =
    let is : names ≡ names_of (left_by_all old.opening (old.front ++ e.between)) = cc (e.told_so) in
    subst (λ (l : List (List ℕ)). Contains l name) (sym is) ((listed_iff_stands (left_by_all old.opening (old.front ++ e.between)) name).1 stands)

pub lists_told : (old : Seen) (names : List (List ℕ)) (new : Seen) → Extends old list_names (told_names names) new → (name : List ℕ) → Contains (names_seen old) name → Contains names name
lists_told old names new e name h = listed_there old names new name e (named_stands (left_by_all old.opening (old.front ++ e.between)) (names_seen old) name e.stood.has.named h)

pub lists_map : (old : Seen) (names : List (List ℕ)) (new : Seen) → Extends old list_names (told_names names) new → (name bytes : List ℕ) → object_at (map_seen old) name ≡ Some bytes → Contains names name
lists_map old names new e name bytes h = listed_there old names new name e (ap is_some (stand_at (left_by_all old.opening (old.front ++ e.between)) (map_seen old) name bytes e.stood.has.mapped h))

pub lists_log : (old : Seen) (names : List (List ℕ)) (new : Seen) → Extends old list_names (told_names names) new → (version : ℕ) (bytes : List ℕ) → slice_get (log_seen old) version ≡ Some bytes → Contains names (commit_name version)
lists_log old names new e version bytes h = listed_there old names new (commit_name version) e (ap is_some (log_stands old list_names (told_names names) new version bytes e h))

pub lists_floor : (old : Seen) (names : List (List ℕ)) (new : Seen) → Extends old list_names (told_names names) new → floor_seen new ≡ count_in names
lists_floor old names new e = floor_extends old list_names (told_names names) new e

-- the names that are listed are those that it was told of then
pub lists_names : (old : Seen) (names : List (List ℕ)) (new : Seen) → Extends old list_names (told_names names) new → names_seen new ≡ names ++ names_seen old
lists_names old names new e = names_extends old list_names (told_names names) new e

-- what is got is among what it was given then
pub gets_more : (old : Seen) (name : List ℕ) (found : Option (List ℕ)) (new : Seen) → Extends old (get_object name) (told_object found) new → map_seen new ≡ map_with found name (map_seen old)
gets_more old name found new e = map_extends old (get_object name) (told_object found) new e

pub puts_file : (old : Seen) (name bytes : List ℕ) (put : Put) (new : Seen) → Extends old (put_file name bytes) (told_put put) new → TriesFile old name bytes put new
puts_file old name bytes Created new e = map_extends old (put_file name bytes) (told_put Created) new e
puts_file old name bytes Exists new e = names_extends old (put_file name bytes) (told_put Exists) new e

-- a log only grows by a call
log_grows_by : (log : List (List ℕ)) (asked : Asked) (told : Told) → IsFrontOf log (log_after log asked told)
log_grows_by log list_names told = front_itself log
log_grows_by log (put_file name bytes) told = front_itself log
log_grows_by log (put_commit version bytes) (told_put Created) = (bytes ∷ [], refl)
log_grows_by log (put_commit version bytes) (told_put Exists) = front_itself log
log_grows_by log (put_commit version bytes) (told_names names) = front_itself log
log_grows_by log (put_commit version bytes) (told_object found) = front_itself log
log_grows_by log (put_commit version bytes) told_lost = front_itself log
log_grows_by log (put_commit version bytes) told_memory = front_itself log
log_grows_by log (get_object name) (told_object found) = by_found (is_next_version (commit_version name) (length log)) found
  where
    by_found : (b : Bool) (found : Option (List ℕ)) → IsFrontOf log (read_behind_log b log found)
    by_found true None = front_itself log
    by_found true (Some bytes) = (bytes ∷ [], refl)
    by_found false found = front_itself log
log_grows_by log (get_object name) (told_names names) = front_itself log
log_grows_by log (get_object name) (told_put put) = front_itself log
log_grows_by log (get_object name) told_lost = front_itself log
log_grows_by log (get_object name) told_memory = front_itself log

pub log_behind : (old : Seen) (asked : Asked) (told : Told) (new : Seen) → Extends old asked told new → IsFrontOf (log_seen old) (log_seen new)
log_behind old asked told new e = subst (IsFrontOf (log_seen old)) (sym (log_extends old asked told new e)) (log_grows_by (log_seen old) asked told)

-- Nothing stands behind the log only where no more commits are known to stand; what stands there is its next commit.
pub reads_on : (old : Seen) (found : Option (List ℕ)) (new : Seen) → Extends old (get_object (commit_name (length (log_seen old)))) (told_object found) new → length (log_seen old) ≤ greatest_version → ReadsBehind old found new
reads_on old None new e fits =
    let there = left_by_all old.opening (old.front ++ e.between) in
    let none : object_at (left_by_all old.opening (old.front ++ e.between)) (commit_name (length (log_seen old))) ≡ None = sym (told_of_get old (commit_name (length (log_seen old))) None new e) in
    let enough : floor_seen old ≤ length (log_seen old) = elim (cases_lt (length (log_seen old)) (commit_count (left_by_all old.opening (old.front ++ e.between)))) [
      | inl low ↦ let wrong : false ≡ true = sym (ap is_some none) ∙ commits_stand (left_by_all old.opening (old.front ++ e.between)) e.stood.sound.table (length (log_seen old)) low in absurd cc
      | inr past ↦ omega (arith, e.stood.has.enough, past)
    ] in (
      enough,
      log_extends old (get_object (commit_name (length (log_seen old)))) (told_object None) new e ∙ unread (is_next_version (commit_version (commit_name (length (log_seen old)))) (length (log_seen old))),
    )
  where
    unread : (b : Bool) → read_behind_log b (log_seen old) None ≡ log_seen old
    unread true = refl
    unread false = refl
reads_on old (Some bytes) new e fits = log_extends old (get_object (commit_name (length (log_seen old)))) (told_object (Some bytes)) new e ∙ by_version (commit_version (commit_name (length (log_seen old)))) (own_version (length (log_seen old)) fits)
  where
    by_place : (b : Bool) → b ≡ true → read_behind_log b (log_seen old) (Some bytes) ≡ log_seen old ++ bytes ∷ []
    by_place true is = refl
    by_place false is = absurd cc

    by_version : (v : Option ℕ) → v ≡ Some (length (log_seen old)) → read_behind_log (is_next_version v (length (log_seen old))) (log_seen old) (Some bytes) ≡ log_seen old ++ bytes ∷ []
    by_version None is = absurd cc
    by_version (Some version) is =
        let same : version ≡ length (log_seen old) = cc in
        by_place (version == length (log_seen old)) (grind (arith, nat_tests))

-- a commit whose version stands: more commits stand than were seen
pub put_exists : (old : Seen) (commit : List ℕ) (new : Seen) → Extends old (put_commit (length (log_seen old)) commit) (told_put Exists) new → (log_seen new ≡ log_seen old) × (length (log_seen new) < floor_seen new)
put_exists old commit new e =
    let same : log_seen new ≡ log_seen old = log_extends old (put_commit (length (log_seen old)) commit) (told_put Exists) new e in
    let floor : floor_seen new ≡ max (floor_seen old) (suc (length (log_seen old))) = floor_extends old (put_commit (length (log_seen old)) commit) (told_put Exists) new e in
    let long : length (log_seen new) ≡ length (log_seen old) = ap (λ (l : List (List ℕ)). length l) same in
    (same, omega arith)

pub put_created : (old : Seen) (commit : List ℕ) (new : Seen) → Extends old (put_commit (length (log_seen old)) commit) (told_put Created) new → log_seen new ≡ log_seen old ++ commit ∷ []
put_created old commit new e = log_extends old (put_commit (length (log_seen old)) commit) (told_put Created) new e
