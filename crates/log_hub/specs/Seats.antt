-- What a seat has seen, by its own calls, and what that is worth.
use Rattle.std.specs.Prelude.{◌≡◌, ◌==◌, ◌≤◌, ℕ, zero, suc, Bool, true, false, List, [], ◌∷◌, ◌++◌, length, max, Option, None, Some, IsSome}
use Rattle.store_core.specs.Names.{commit_name, commit_version}
use Rattle.store_core.specs.Objects.{AreBytes, Objects, object_at}
use Rattle.store_core.specs.declared.store.Put.{Put}
use Rattle.store_core.specs.declared.store.Put.TheVariants.{Created, Exists}
use Rattle.session_core.specs.Talks.{Asked, Told, get_object, list_names, put_commit, put_file, told_names, told_object, told_put}
use Rattle.session_core.specs.CallEffects.{told_by_call}
use Rattle.table_log.specs.Counts.{commit_count, count_in}
use Rattle.table_store.specs.Sound.{IsAdmissible}
use Rattle.log_laws.specs.Sound.{IsSoundStore}
use Rattle.log_book.specs.Histories.{AreToldSo, History, calls_of_seat, left_by_all}
use Rattle.log_book.specs.Making.{MayPutBeside}
use Rattle.log_hub.specs.Lock.{IsFrontOf}
use Rattle.log_hub.specs.Sights.{Seen}

-- ---- the log

abbrev pub commit_in_front : Option (List ℕ) → List (List ℕ) → List (List ℕ)
commit_in_front None commits = []
commit_in_front (Some bytes) commits = bytes ∷ commits

-- the commits of so many versions from this one on, up to the first that doesn't stand
abbrev pub commits_from : (count version : ℕ) → Objects → List (List ℕ)
commits_from zero version objects = []
commits_from (suc count) version objects = commit_in_front (object_at objects (commit_name version)) (commits_from count (suc version) objects)

-- the commits of a store's versions 0, 1, .. up to the first that doesn't stand
abbrev pub log_in_store : Objects → List (List ℕ)
log_in_store objects = commits_from (commit_count objects) 0 objects

abbrev pub is_next_version : Option ℕ → (next : ℕ) → Bool
is_next_version None next = false
is_next_version (Some version) next = version == next

abbrev pub read_behind_log : (is_next : Bool) → List (List ℕ) → Option (List ℕ) → List (List ℕ)
read_behind_log true log (Some bytes) = log ++ bytes ∷ []
read_behind_log true log None = log
read_behind_log false log found = log

-- behind a call: a commit that was created, or read right behind the log, is its last
abbrev pub log_after : List (List ℕ) → Asked → Told → List (List ℕ)
log_after log (put_commit version bytes) (told_put Created) = log ++ bytes ∷ []
log_after log (get_object name) (told_object found) = read_behind_log (is_next_version (commit_version name) (length log)) log found
log_after log asked told = log

abbrev pub log_after_all : List (List ℕ) → History → List (List ℕ)
log_after_all log [] = log
log_after_all log (call ∷ history) = log_after_all (log_after log call.asked call.told) history

-- the log that a seat has seen: at first that of the opening store
abbrev pub log_seen : Seen → List (List ℕ)
log_seen s = log_after_all (log_in_store s.opening) s.mine

-- ---- how many commits it knows to stand: one more than the greatest version that it was told of, in a sound store the
-- number of its commits

abbrev pub floor_after : ℕ → Asked → Told → ℕ
floor_after floor list_names (told_names names) = count_in names
floor_after floor (put_commit version bytes) (told_put Exists) = max floor (suc version)
floor_after floor asked told = floor

abbrev pub floor_after_all : ℕ → History → ℕ
floor_after_all floor [] = floor
floor_after_all floor (call ∷ history) = floor_after_all (floor_after floor call.asked call.told) history

abbrev pub floor_seen : Seen → ℕ
floor_seen s = floor_after_all (length (log_in_store s.opening)) s.mine

-- ---- what it put or was given

abbrev pub map_with : Option (List ℕ) → (name : List ℕ) → Objects → Objects
map_with None name map = map
map_with (Some bytes) name map = (name, bytes) ∷ map

abbrev pub map_after : Objects → Asked → Told → Objects
map_after map (put_file name bytes) (told_put Created) = (name, bytes) ∷ map
map_after map (put_commit version bytes) (told_put Created) = (commit_name version, bytes) ∷ map
map_after map (get_object name) (told_object found) = map_with found name map
map_after map asked told = map

abbrev pub map_after_all : Objects → History → Objects
map_after_all map [] = map
map_after_all map (call ∷ history) = map_after_all (map_after map call.asked call.told) history

abbrev pub map_seen : Seen → Objects
map_seen s = map_after_all [] s.mine

-- ---- the names that it was told stand

abbrev pub names_after : List (List ℕ) → Asked → Told → List (List ℕ)
names_after names list_names (told_names listed) = listed ++ names
names_after names (put_file name bytes) (told_put Exists) = name ∷ names
names_after names (put_commit version bytes) (told_put Exists) = commit_name version ∷ names
names_after names asked told = names

abbrev pub names_after_all : List (List ℕ) → History → List (List ℕ)
names_after_all names [] = names
names_after_all names (call ∷ history) = names_after_all (names_after names call.asked call.told) history

abbrev pub names_seen : Seen → List (List ℕ)
names_seen s = names_after_all [] s.mine

-- ---- what all that is worth

-- each of these objects stands
abbrev pub HasEach : (objects those : Objects) → Type 0
HasEach objects [] = Unit {0}
HasEach objects (one ∷ those) = (object_at objects one.0 ≡ Some one.1) × HasEach objects those

-- an object stands under each of these names
abbrev pub HasEachName : Objects → (names : List (List ℕ)) → Type 0
HasEachName objects [] = Unit {0}
HasEachName objects (name ∷ names) = IsSome (object_at objects name) × HasEachName objects names

-- A store's log begins with this one, it has at least so many commits, and it has these objects and names.
pub record HasAll (objects : Objects) (log : List (List ℕ)) (floor : ℕ) (map : Objects) (names : List (List ℕ)) : Type 0 where
  pub begins : IsFrontOf log (log_in_store objects)
  pub enough : floor ≤ commit_count objects
  pub mapped : HasEach objects map
  pub named : HasEachName objects names

-- a store has what a seat has seen
abbrev pub HasSeen : Objects → Seen → Type 0
HasSeen objects s = HasAll objects (log_seen s) (floor_seen s) (map_seen s) (names_seen s)

-- What may stand when a seat makes a call: a sound store of bytes that has what the seat has seen.
pub record MayStand (objects : Objects) (s : Seen) : Type 0 where
  pub sound : IsSoundStore objects
  pub bytes : AreBytes objects
  pub has : HasSeen objects s

-- What is so of every seat: the front that it saw is one of a store of one thread, in which its calls are just its own,
-- and what that leaves is sound, of bytes, and has what the seat has seen.
pub record IsSeat (s : Seen) : Type 0 where
  pub told : AreToldSo s.opening s.front
  pub own : calls_of_seat s.number s.front ≡ s.mine
  pub left : MayStand (left_by_all s.opening s.front) s

-- What a seat may ask for: the commit of the version behind its log, admissible there in every store that may stand; and
-- beside the commits what may be put into every such store.
abbrev pub MayAskFor : Seen → Asked → Type 0
MayAskFor s list_names = Unit {0}
MayAskFor s (get_object name) = Unit {0}
MayAskFor s (put_file name bytes) = (objects : Objects) → MayStand objects s → MayPutBeside objects name bytes
MayAskFor s (put_commit version bytes) = (version ≡ length (log_seen s)) × ((objects : Objects) → MayStand objects s → IsAdmissible objects version bytes)

-- A seat has made a call: it is the last of its own and of the front that it has seen, and it was told what a store of one
-- thread tells there, which is sound, of bytes, and has what the seat had seen before. What lies between the front that it
-- had seen and its call are calls of others.
pub record Extends (old : Seen) (asked : Asked) (told : Told) (new : Seen) : Type 0 where
  pub number : new.number ≡ old.number
  pub made : new.made ≡ old.made
  pub opening : new.opening ≡ old.opening
  pub mine : new.mine ≡ old.mine ++ record { seat = old.number; asked = asked; told = told } ∷ []
  pub between : History
  pub front : new.front ≡ (old.front ++ between) ++ record { seat = old.number; asked = asked; told = told } ∷ []
  pub told_so : told ≡ told_by_call (left_by_all old.opening (old.front ++ between)) asked
  pub stood : MayStand (left_by_all old.opening (old.front ++ between)) old
  pub seat : IsSeat new

-- A file that was created is among what the seat put; where another stands there, its name is one that it was told stands.
abbrev pub TriesFile : (old : Seen) → (name bytes : List ℕ) → Put → (new : Seen) → Type 0
TriesFile old name bytes Created new = map_seen new ≡ (name, bytes) ∷ map_seen old
TriesFile old name bytes Exists new = names_seen new ≡ name ∷ names_seen old

-- a seat that has made no call
abbrev pub new_seat : Objects → (number made : ℕ) → Seen
new_seat opening number made = record { number = number; made = made; opening = opening; front = []; mine = [] }
