-- What may stand behind a call of a seat might stand before it: what the seat has seen only grows.
use Rattle.std.proofs.Common.{◌≡◌, ◌∙◌, ℕ, ◌≤◌, Bool, true, false, List, [], ◌∷◌, ◌++◌, length, Option, None, Some, refl, sym, ap, subst, arith, append_assoc, append-nil, length-append}
use Rattle.store_core.specs.Calls.{put_told}
use Rattle.store_core.specs.Names.{commit_name, commit_version}
use Rattle.store_core.specs.Objects.{Objects, names_of, object_at}
use Rattle.store_core.specs.declared.store.Put.{Put}
use Rattle.store_core.specs.declared.store.Put.TheVariants.{Created, Exists}
use Rattle.session_core.specs.CallEffects.{told_by_call}
use Rattle.session_core.specs.Talks.{Asked, IsBorne, Told, get_object, list_names, put_commit, put_file, told_lost, told_memory, told_names, told_object, told_put}
use Rattle.table_log.specs.Counts.{commit_count, count_in}
use Rattle.log_book.specs.Histories.{History, SeatCall, left_by_all}
use Rattle.log_hub.specs.Lock.{IsFrontOf}
use Rattle.log_hub.specs.Seats.{Extends, HasEach, HasEachName, HasSeen, floor_after, floor_after_all, floor_seen, is_next_version, log_after, log_after_all, log_in_store, log_seen, map_after, map_after_all, map_seen, names_after, names_after_all, names_seen, read_behind_log}
use Rattle.log_hub.specs.Sights.{Seen}
use Rattle.lake_workers.proofs.Bearing.{last_is_borne}

-- ---- fronts of lists

pub front_itself : {A : Type 0} (xs : List A) → IsFrontOf xs xs
front_itself xs = ([], sym (append-nil xs))

pub front_of_front : {A : Type 0} (xs ys zs : List A) → IsFrontOf xs ys → IsFrontOf ys zs → IsFrontOf xs zs
front_of_front xs ys zs p q = (p.0 ++ q.0, q.1 ∙ ap (λ w. w ++ q.0) p.1 ∙ append_assoc xs p.0 q.0)

pub front_short : {A : Type 0} (xs ys : List A) → IsFrontOf xs ys → length xs ≤ length ys
front_short xs ys front = omega (arith, ap length front.1, length-append xs front.0)

-- ---- one call more

log_after_all-last : (log : List (List ℕ)) (history : History) (call : SeatCall) → log_after_all log (history ++ call ∷ []) ≡ log_after (log_after_all log history) call.asked call.told
log_after_all-last log [] call = refl
log_after_all-last log (one ∷ history) call = log_after_all-last (log_after log one.asked one.told) history call

floor_after_all-last : (floor : ℕ) (history : History) (call : SeatCall) → floor_after_all floor (history ++ call ∷ []) ≡ floor_after (floor_after_all floor history) call.asked call.told
floor_after_all-last floor [] call = refl
floor_after_all-last floor (one ∷ history) call = floor_after_all-last (floor_after floor one.asked one.told) history call

map_after_all-last : (map : Objects) (history : History) (call : SeatCall) → map_after_all map (history ++ call ∷ []) ≡ map_after (map_after_all map history) call.asked call.told
map_after_all-last map [] call = refl
map_after_all-last map (one ∷ history) call = map_after_all-last (map_after map one.asked one.told) history call

names_after_all-last : (names : List (List ℕ)) (history : History) (call : SeatCall) → names_after_all names (history ++ call ∷ []) ≡ names_after (names_after_all names history) call.asked call.told
names_after_all-last names [] call = refl
names_after_all-last names (one ∷ history) call = names_after_all-last (names_after names one.asked one.told) history call

-- ---- the log that was seen, and how many commits are known to stand

log_grows : (log : List (List ℕ)) (asked : Asked) (told : Told) → IsFrontOf log (log_after log asked told)
log_grows log list_names told = front_itself log
log_grows log (put_file name bytes) told = front_itself log
log_grows log (put_commit version bytes) (told_put Created) = (bytes ∷ [], refl)
log_grows log (put_commit version bytes) (told_put Exists) = front_itself log
log_grows log (put_commit version bytes) (told_names names) = front_itself log
log_grows log (put_commit version bytes) (told_object found) = front_itself log
log_grows log (put_commit version bytes) told_lost = front_itself log
log_grows log (put_commit version bytes) told_memory = front_itself log
log_grows log (get_object name) (told_object found) = by_found (is_next_version (commit_version name) (length log)) found
  where
    by_found : (b : Bool) (found : Option (List ℕ)) → IsFrontOf log (read_behind_log b log found)
    by_found true None = front_itself log
    by_found true (Some bytes) = (bytes ∷ [], refl)
    by_found false found = front_itself log
log_grows log (get_object name) (told_names names) = front_itself log
log_grows log (get_object name) (told_put put) = front_itself log
log_grows log (get_object name) told_lost = front_itself log
log_grows log (get_object name) told_memory = front_itself log

count_listed : (objects : Objects) → count_in (names_of objects) ≡ commit_count objects
unfolding commit_count
count_listed objects = refl

-- it doesn't fall by a call, as a list tells of all commits that stand
floor_rises : (floor : ℕ) (there : Objects) (asked : Asked) → floor ≤ commit_count there → floor ≤ floor_after floor asked (told_by_call there asked)
floor_rises floor there list_names enough = omega (arith, enough, count_listed there)
floor_rises floor there (get_object name) enough = omega arith
floor_rises floor there (put_file name bytes) enough = omega arith
floor_rises floor there (put_commit version bytes) enough = by_put (put_told (object_at there (commit_name version)))
  where
    by_put : (put : Put) → floor ≤ floor_after floor (put_commit version bytes) (told_put put)
    by_put Created = omega arith
    by_put Exists = omega arith

-- ---- a call of a seat

-- What a seat has seen only grows: what it is at and the history that it has seen begin as before, so does the log, and a store that has
-- all of it has what was seen before.
pub record Grows (old new : Seen) : Type 0 where
  pub number : new.number ≡ old.number
  pub opening : new.opening ≡ old.opening
  pub front : IsFrontOf old.front new.front
  pub log : IsFrontOf (log_seen old) (log_seen new)
  pub has : (objects : Objects) → HasSeen objects new → HasSeen objects old

pub grows_itself : (s : Seen) → Grows s s
grows_itself s = record { number = refl; opening = refl; front = front_itself s.front; log = front_itself (log_seen s); has = λ objects has. has }

pub grows_on : (one two three : Seen) → Grows one two → Grows two three → Grows one three
grows_on one two three p q = record {
  number = q.number ∙ p.number;
  opening = q.opening ∙ p.opening;
  front = front_of_front one.front two.front three.front p.front q.front;
  log = front_of_front (log_seen one) (log_seen two) (log_seen three) p.log q.log;
  has = λ objects has. p.has objects (q.has objects has);
}

module _ (old : Seen) (asked : Asked) (told : Told) (new : Seen) (e : Extends old asked told new) where
  log_behind : IsFrontOf (log_seen old) (log_seen new)
  log_behind =
      let is : log_seen new ≡ log_after (log_seen old) asked told = ap (λ (o : Objects). log_after_all (log_in_store o) new.mine) e.opening ∙ (ap (log_after_all (log_in_store old.opening)) e.mine ∙ log_after_all-last (log_in_store old.opening) old.mine (record { seat = old.number; asked = asked; told = told })) in
      subst (IsFrontOf (log_seen old)) (sym is) (log_grows (log_seen old) asked told)

  floor_behind : floor_seen old ≤ floor_seen new
  floor_behind =
      let one : floor_after_all (length (log_in_store old.opening)) (old.mine ++ record { seat = old.number; asked = asked; told = told } ∷ []) ≡ floor_after (floor_seen old) asked told = floor_after_all-last (length (log_in_store old.opening)) old.mine (record { seat = old.number; asked = asked; told = told }) in
      let is : floor_seen new ≡ floor_after (floor_seen old) asked told = ap (λ (o : Objects). floor_after_all (length (log_in_store o)) new.mine) e.opening ∙ (ap (floor_after_all (length (log_in_store old.opening))) e.mine ∙ one) in
      let rises : floor_seen old ≤ floor_after (floor_seen old) asked told = subst (λ (t : Told). floor_seen old ≤ floor_after (floor_seen old) asked t) (sym e.told_so) (floor_rises (floor_seen old) (left_by_all old.opening (old.front ++ e.between)) asked e.stood.has.enough) in
      subst (λ (n : ℕ). floor_seen old ≤ n) (sym is) rises

  had_before : (objects : Objects) → HasSeen objects new → IsBorne objects asked told × HasEach objects (map_seen old) × HasEachName objects (names_seen old)
  had_before objects has =
      let map : map_seen new ≡ map_after (map_seen old) asked told = ap (map_after_all []) e.mine ∙ map_after_all-last [] old.mine (record { seat = old.number; asked = asked; told = told }) in
      let names : names_seen new ≡ names_after (names_seen old) asked told = ap (names_after_all []) e.mine ∙ names_after_all-last [] old.mine (record { seat = old.number; asked = asked; told = told }) in
      last_is_borne objects (map_seen old) (names_seen old) asked told (subst (HasEach objects) map has.mapped) (subst (HasEachName objects) names has.named)

  -- what has all that was seen behind it bears what was told
  pub extends_borne : (objects : Objects) → HasSeen objects new → IsBorne objects asked told
  extends_borne objects has = (had_before objects has).0

  pub extends_grows : Grows old new
  extends_grows = record {
    number = e.number;
    opening = e.opening;
    front = (e.between ++ record { seat = old.number; asked = asked; told = told } ∷ [], e.front ∙ append_assoc old.front e.between (record { seat = old.number; asked = asked; told = told } ∷ []));
    log = log_behind;
    has = λ objects has.
        let seen = had_before objects has in
        record {
          begins = front_of_front (log_seen old) (log_seen new) (log_in_store objects) log_behind has.begins;
          enough = (let rises = floor_behind in omega (arith, rises, has.enough));
          mapped = seen.1;
          named = seen.2;
        };
  }
