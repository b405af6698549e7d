-- What a seat has seen stands in every later store, and a call adds to it.
use Rattle.std.proofs.Common.{◌≡◌, ◌∙◌, ℕ, zero, suc, ◌<◌, ◌≤◌, ◌==◌, Bool, true, false, List, [], ◌∷◌, ◌++◌, length, cond, Option, None, Some, IsSome, Contains, is_some, slice_get, refl, sym, ap, subst, arith, append_assoc, length-append}
use Rattle.std.specs.Prelude.{bytes_eq, unwrap_or}
use Rattle.std.proofs.lemmas.Bool.Decides.{nat_tests}
use Rattle.std.proofs.lemmas.Slice.Eq.{bytes_eq-Decides}
use Rattle.store_core.specs.Calls.{put_told}
use Rattle.store_core.specs.Names.{commit_name, commit_version, greatest_version}
use Rattle.store_core.specs.ObjectLaws.{listed_iff_stands, object_at-with_object_kept, object_at-with_object_same}
use Rattle.store_core.specs.Objects.{AreBytes, HasObjectsOf, Objects, names_of, object_at, with_object}
use Rattle.store_core.proofs.Callers.{named}
use Rattle.session_core.specs.Talks.{Asked, Told, get_object, list_names, put_commit, put_file, told_put}
use Rattle.session_core.specs.CallEffects.{left_by_call, told_by_call}
use Rattle.table_log.specs.Counts.{commit_count, count_in}
use Rattle.table_log.proofs.Callers.{stands_below}
use Rattle.log_laws.specs.Sound.{IsSoundStore}
use Rattle.log_book.specs.Book.{BookView, IsBook, Makes}
use Rattle.log_book.specs.Histories.{History, SeatCall, calls_of_seat, left_by_all}
use Rattle.log_book.specs.Making.{MayMake}
use Rattle.log_book.proofs.Callers.{all_grow, book_of_bytes, left_by_all-append}
use Rattle.log_hub.specs.Lock.{IsFrontOf, IsSeenOf, PutsBack, TakesOut, seen_of_book}
use Rattle.log_hub.specs.Seats.{Extends, HasAll, HasEach, HasEachName, HasSeen, IsSeat, MayAskFor, MayStand, log_in_store, floor_after, floor_after_all, floor_seen, is_next_version, log_after, log_after_all, log_seen, map_after, map_after_all, map_seen, map_with, names_after, names_after_all, names_seen, read_behind_log}
use Rattle.log_hub.specs.Sights.{Seen, Sight}
use Rattle.log_hub.proofs.HistoryParts.{calls_of_seat-append, front_itself}
use Rattle.log_hub.proofs.StoreLogs.{log_at, log_front, log_long}

-- ---- one call more

log_after_all-last : (log : List (List ℕ)) (history : History) (call : SeatCall) → log_after_all log (history ++ call ∷ []) ≡ log_after (log_after_all log history) call.asked call.told
log_after_all-last log [] call = refl
log_after_all-last log (one ∷ history) call = log_after_all-last (log_after log one.asked one.told) history call

floor_after_all-last : (floor : ℕ) (history : History) (call : SeatCall) → floor_after_all floor (history ++ call ∷ []) ≡ floor_after (floor_after_all floor history) call.asked call.told
floor_after_all-last floor [] call = refl
floor_after_all-last floor (one ∷ history) call = floor_after_all-last (floor_after floor one.asked one.told) history call

map_after_all-last : (map : Objects) (history : History) (call : SeatCall) → map_after_all map (history ++ call ∷ []) ≡ map_after (map_after_all map history) call.asked call.told
map_after_all-last map [] call = refl
map_after_all-last map (one ∷ history) call = map_after_all-last (map_after map one.asked one.told) history call

names_after_all-last : (names : List (List ℕ)) (history : History) (call : SeatCall) → names_after_all names (history ++ call ∷ []) ≡ names_after (names_after_all names history) call.asked call.told
names_after_all-last names [] call = refl
names_after_all-last names (one ∷ history) call = names_after_all-last (names_after names one.asked one.told) history call

-- ---- fronts of lists

front_of_front : {A : Type 0} (xs ys zs : List A) → IsFrontOf xs ys → IsFrontOf ys zs → IsFrontOf xs zs
front_of_front xs ys zs p q = (p.0 ++ q.0, q.1 ∙ ap (λ w. w ++ q.0) p.1 ∙ append_assoc xs p.0 q.0)

pub front_short : {A : Type 0} (xs ys : List A) → IsFrontOf xs ys → length xs ≤ length ys
front_short xs ys b = omega (arith, ap length b.1 ∙ length-append xs b.0)

-- an item right behind a front
front_next : {A : Type 0} (xs ys : List A) (x : A) → IsFrontOf xs ys → slice_get ys (length xs) ≡ Some x → IsFrontOf (xs ++ x ∷ []) ys
front_next [] [] x b h = cc h
front_next [] (y ∷ ys) x b h = (ys, cc h)
front_next (z ∷ xs) [] x b h = cc (b.1)
front_next (z ∷ xs) (y ∷ ys) x b h = let r = front_next xs ys x (b.0, cc (b.1)) h in (r.0, cc (b.1, r.1))

pub got_in_front : {A : Type 0} (xs ys : List A) (k : ℕ) (x : A) → IsFrontOf xs ys → slice_get xs k ≡ Some x → slice_get ys k ≡ Some x
got_in_front [] ys k x b h = absurd cc
got_in_front (z ∷ xs) [] k x b h = absurd (cc (b.1))
got_in_front (z ∷ xs) (y ∷ ys) zero x b h = cc (b.1, h)
got_in_front (z ∷ xs) (y ∷ ys) (suc k) x b h = got_in_front xs ys k x (b.0, cc (b.1)) h

-- ---- what a store has, that a larger one has too

some_grows : (objects more : Objects) (name : List ℕ) → HasObjectsOf objects more → IsSome (object_at objects name) → IsSome (object_at more name)
some_grows objects more name grown stands = by_found (object_at objects name) refl stands
  where
    by_found : (found : Option (List ℕ)) → object_at objects name ≡ found → IsSome found → IsSome (object_at more name)
    by_found None is some = absurd cc
    by_found (Some bytes) is some = ap is_some (grown name bytes is)

names_grow : (objects more : Objects) (names : List (List ℕ)) → HasObjectsOf objects more → HasEachName objects names → HasEachName more names
names_grow objects more [] grown all = tt
names_grow objects more (name ∷ names) grown all = (some_grows objects more name grown all.0, names_grow objects more names grown all.1)

each_grows : (objects more those : Objects) → HasObjectsOf objects more → HasEach objects those → HasEach more those
each_grows objects more [] grown all = tt
each_grows objects more (one ∷ those) grown all = (grown one.0 one.1 all.0, each_grows objects more those grown all.1)

names_both : (objects : Objects) (names more : List (List ℕ)) → HasEachName objects names → HasEachName objects more → HasEachName objects (names ++ more)
names_both objects [] more p q = q
names_both objects (name ∷ names) more p q = (p.0, names_both objects names more p.1 q)

has_grows : (objects more : Objects) (log : List (List ℕ)) (floor : ℕ) (map : Objects) (names : List (List ℕ)) → IsSoundStore objects → IsSoundStore more → HasObjectsOf objects more
    → HasAll objects log floor map names → HasAll more log floor map names
has_grows objects more log floor map names sound later grown has =
    let ahead = log_front objects sound more grown in
    record {
      begins = front_of_front log (log_in_store objects) (log_in_store more) has.begins ahead;
      enough = (let le = front_short (log_in_store objects) (log_in_store more) ahead in omega (arith, has.enough, log_long objects sound, log_long more later));
      mapped = each_grows objects more map grown has.mapped;
      named = names_grow objects more names grown has.named;
    }

-- ---- what a call tells

each_named : (objects : Objects) (names : List (List ℕ)) → ((name : List ℕ) → Contains names name → IsSome (object_at objects name)) → HasEachName objects names
each_named objects [] all = tt
each_named objects (name ∷ names) all = (all name (0, omega arith, refl), each_named objects names (λ other has. all other (suc has.0, omega (arith, has.1), has.2)))

-- all names of a store stand
names_stand : (objects : Objects) → HasEachName objects (names_of objects)
names_stand objects = each_named objects (names_of objects) (λ name has. (listed_iff_stands objects name).0 has)

-- a name among those that stand
pub named_stands : (objects : Objects) (names : List (List ℕ)) (name : List ℕ) → HasEachName objects names → Contains names name → IsSome (object_at objects name)
named_stands objects [] name all has = absurd (omega (arith, has.1))
named_stands objects (first ∷ names) name all (zero, lt, is) = subst (λ (n : List ℕ). IsSome (object_at objects n)) is all.0
named_stands objects (first ∷ names) name all (suc k, lt, is) = named_stands objects names name all.1 (k, omega (arith, lt), is)

-- what is found among objects that stand
pub stand_at : (objects those : Objects) (name bytes : List ℕ) → HasEach objects those → object_at those name ≡ Some bytes → object_at objects name ≡ Some bytes
stand_at objects [] name bytes all h = absurd cc
stand_at objects (one ∷ those) name bytes all h = by_name (stand_at objects those name bytes all.1) (bytes_eq name one.0) refl h
  where
    by_name : (object_at those name ≡ Some bytes → object_at objects name ≡ Some bytes) → (b : Bool) → bytes_eq name one.0 ≡ b → cond b (Some one.1) (object_at those name) ≡ Some bytes → object_at objects name ≡ Some bytes
    by_name rest true is h = ap (object_at objects) ((bytes_eq-Decides name one.0).0 is) ∙ (all.0 ∙ h)
    by_name rest false is h = rest h

-- an absent name stands behind its put, and one that stands still does
put_stands : (objects : Objects) (name bytes : List ℕ) → object_at objects name ≡ None → object_at (with_object objects name bytes) name ≡ Some bytes
put_stands objects name bytes none = object_at-with_object_same objects name bytes ∙ ap (λ (o : Option (List ℕ)). Some (unwrap_or o bytes)) none

put_grows : (objects : Objects) (name bytes : List ℕ) → HasObjectsOf objects (with_object objects name bytes)
put_grows objects name bytes = λ other found is. object_at-with_object_kept objects name bytes other found is

count_listed : (objects : Objects) → count_in (names_of objects) ≡ commit_count objects
unfolding commit_count
count_listed objects = refl

-- ---- a call adds to what was seen

-- a commit is put at the version behind the log
abbrev PutsNext : List (List ℕ) → Asked → Type 0
PutsNext log (put_commit version bytes) = version ≡ length log
PutsNext log asked = Unit {0}

module _ (objects : Objects) (log : List (List ℕ)) (floor : ℕ) (map : Objects) (names : List (List ℕ)) (sound : IsSoundStore objects) (has : HasAll objects log floor map names) where
  get_adds : (name : List ℕ) (found : Option (List ℕ)) → object_at objects name ≡ found → HasAll objects (read_behind_log (is_next_version (commit_version name) (length log)) log found) floor (map_with found name map) names
  get_adds name None is = subst (λ (l : List (List ℕ)). HasAll objects l floor map names) (sym (unread (is_next_version (commit_version name) (length log)))) has
    where
      unread : (b : Bool) → read_behind_log b log None ≡ log
      unread true = refl
      unread false = refl
  get_adds name (Some bytes) is = by_version (commit_version name) refl
    where
      by_version : (v : Option ℕ) → commit_version name ≡ v → HasAll objects (read_behind_log (is_next_version v (length log)) log (Some bytes)) floor ((name, bytes) ∷ map) names
      by_version None own = record { begins = has.begins; enough = has.enough; mapped = (is, has.mapped); named = has.named }
      by_version (Some version) own = by_place (version == length log) refl
        where
          by_place : (b : Bool) → (version == length log) ≡ b → HasAll objects (read_behind_log b log (Some bytes)) floor ((name, bytes) ∷ map) names
          by_place false away = record { begins = has.begins; enough = has.enough; mapped = (is, has.mapped); named = has.named }
          by_place true e =
              let here : version ≡ length log = grind (arith, nat_tests) in
              let name_is = named name version own in
              record {
                begins = front_next log (log_in_store objects) bytes has.begins (ap (slice_get (log_in_store objects)) (sym here) ∙ log_at objects sound version bytes name_is.1 (ap (object_at objects) name_is.0 ∙ is));
                enough = has.enough;
                mapped = (is, has.mapped);
                named = has.named;
              }

  file_adds : (name bytes : List ℕ) → IsSoundStore (with_object objects name bytes) → (found : Option (List ℕ)) → object_at objects name ≡ found
      → HasAll (with_object objects name bytes) log floor (map_after map (put_file name bytes) (told_put (put_told found))) (names_after names (put_file name bytes) (told_put (put_told found)))
  file_adds name bytes later found is = by_found found is (has_grows objects (with_object objects name bytes) log floor map names sound later (put_grows objects name bytes) has)
    where
      by_found : (found : Option (List ℕ)) → object_at objects name ≡ found → HasAll (with_object objects name bytes) log floor map names
          → HasAll (with_object objects name bytes) log floor (map_after map (put_file name bytes) (told_put (put_told found))) (names_after names (put_file name bytes) (told_put (put_told found)))
      by_found None is now = record { begins = now.begins; enough = now.enough; mapped = (put_stands objects name bytes is, now.mapped); named = now.named }
      by_found (Some kept) is now = record { begins = now.begins; enough = now.enough; mapped = now.mapped; named = (ap is_some (put_grows objects name bytes name kept is), now.named) }

  commit_adds : (version : ℕ) (bytes : List ℕ) → IsSoundStore (with_object objects (commit_name version) bytes) → version ≤ greatest_version → version ≡ length log → (found : Option (List ℕ)) → object_at objects (commit_name version) ≡ found
      → HasAll (with_object objects (commit_name version) bytes) (log_after log (put_commit version bytes) (told_put (put_told found))) (floor_after floor (put_commit version bytes) (told_put (put_told found)))
      (map_after map (put_commit version bytes) (told_put (put_told found))) (names_after names (put_commit version bytes) (told_put (put_told found)))
  commit_adds version bytes later fits next found is = by_found found is (has_grows objects (with_object objects (commit_name version) bytes) log floor map names sound later (put_grows objects (commit_name version) bytes) has)
    where
      by_found : (found : Option (List ℕ)) → object_at objects (commit_name version) ≡ found → HasAll (with_object objects (commit_name version) bytes) log floor map names
          → HasAll (with_object objects (commit_name version) bytes) (log_after log (put_commit version bytes) (told_put (put_told found))) (floor_after floor (put_commit version bytes) (told_put (put_told found)))
          (map_after map (put_commit version bytes) (told_put (put_told found))) (names_after names (put_commit version bytes) (told_put (put_told found)))
      by_found None is now =
          let there = put_stands objects (commit_name version) bytes is in
          record {
            begins = front_next log (log_in_store (with_object objects (commit_name version) bytes)) bytes now.begins
                (ap (slice_get (log_in_store (with_object objects (commit_name version) bytes))) (sym next) ∙ log_at (with_object objects (commit_name version) bytes) later version bytes fits there);
            enough = now.enough;
            mapped = (there, now.mapped);
            named = now.named;
          }
      by_found (Some kept) is now =
          let there : IsSome (object_at (with_object objects (commit_name version) bytes) (commit_name version)) = ap is_some (put_grows objects (commit_name version) bytes (commit_name version) kept is) in
          let below : version < commit_count (with_object objects (commit_name version) bytes) = stands_below (with_object objects (commit_name version) bytes) version fits there in
          record { begins = now.begins; enough = (let enough = now.enough in omega arith); mapped = now.mapped; named = (there, now.named) }

  pub call_adds : (asked : Asked) → IsSoundStore (left_by_call objects asked) → PutsNext log asked → MayMake objects asked
      → HasAll (left_by_call objects asked) (log_after log asked (told_by_call objects asked)) (floor_after floor asked (told_by_call objects asked)) (map_after map asked (told_by_call objects asked)) (names_after names asked (told_by_call objects asked))
  call_adds list_names later next may = record { begins = has.begins; enough = omega (arith, count_listed objects); mapped = has.mapped; named = names_both objects (names_of objects) names (names_stand objects) has.named }
  call_adds (get_object name) later next may = get_adds name (object_at objects name) refl
  call_adds (put_file name bytes) later next may = file_adds name bytes later (object_at objects name) refl
  call_adds (put_commit version bytes) later next may = commit_adds version bytes later may.fits next (object_at objects (commit_name version)) refl

-- ---- a seat and the book

-- what the book has holds what a seat has seen that saw a front of its history
pub has_by : (s : Seen) (b : BookView) → IsSeat s → IsBook b → IsSeenOf b.opening b.history s → HasSeen b.objects s
has_by s b seat book of =
    let rest = of.front.0 in
    let now : left_by_all (left_by_all s.opening s.front) rest ≡ b.objects =
    sym (left_by_all-append s.opening s.front rest) ∙ (ap (left_by_all s.opening) (sym of.front.1) ∙ (ap (λ (o : Objects). left_by_all o b.history) of.opened ∙ book.replays.left)) in
    let grown : HasObjectsOf (left_by_all s.opening s.front) b.objects = subst (HasObjectsOf (left_by_all s.opening s.front)) now (all_grow (left_by_all s.opening s.front) rest) in
    has_grows (left_by_all s.opening s.front) b.objects (log_seen s) (floor_seen s) (map_seen s) (names_seen s) seat.left.sound book.sound grown seat.left.has

puts_next : (s : Seen) (asked : Asked) → MayAskFor s asked → PutsNext (log_seen s) asked
puts_next s list_names ask = tt
puts_next s (get_object name) ask = tt
puts_next s (put_file name bytes) ask = tt
puts_next s (put_commit version bytes) ask = ask.0

may_make : (s : Seen) (asked : Asked) (objects : Objects) → MayAskFor s asked → MayStand objects s → MayMake objects asked
may_make s list_names objects ask may = tt
may_make s (get_object name) objects ask may = tt
may_make s (put_file name bytes) objects ask may = ask objects may
may_make s (put_commit version bytes) objects ask may = ask.1 objects may

-- what the book has may stand when such a seat makes a call
stands_by : (s : Seen) (b : BookView) → IsSeat s → IsBook b → IsSeenOf b.opening b.history s → MayStand b.objects s
stands_by s b seat book of = record { sound = book.sound; bytes = book_of_bytes b book; has = has_by s b seat book of }

-- the book may make a call that a seat may ask for
pub may_answer : (s : Seen) (b : BookView) (asked : Asked) → IsSeat s → IsBook b → IsSeenOf b.opening b.history s → MayAskFor s asked → MayMake b.objects asked
may_answer s b asked seat book of ask = may_make s asked b.objects ask (stands_by s b seat book of)

own_call : (seat : ℕ) (call : SeatCall) → call.seat ≡ seat → calls_of_seat seat (call ∷ []) ≡ call ∷ []
own_call seat call is = let same : (call.seat == seat) ≡ true = grind (arith, nat_tests) in rw same refl

-- and it is the last call of what the seat has seen then
pub sees : (s : Seen) (b later : BookView) (asked : Asked) (told : Told) → IsSeat s → IsBook b → IsSeenOf b.opening b.history s → MayAskFor s asked → Makes b (record { seat = s.number; asked = asked; told = told }) later → IsBook later
    → Extends s asked told (seen_of_book s.number s.made later)
sees s b later asked told seat book of ask makes now =
    let call : SeatCall = record { seat = s.number; asked = asked; told = told } in
    let has = has_by s b seat book of in
    let stands = stands_by s b seat book of in
    let may = may_make s asked b.objects ask stands in
    let mine : calls_of_seat s.number later.history ≡ s.mine ++ call ∷ [] =
    ap (calls_of_seat s.number) makes.history ∙ (calls_of_seat-append s.number b.history (call ∷ []) ∙ (ap (λ (l : History). l ++ calls_of_seat s.number (call ∷ [])) of.mine ∙ ap (λ (l : History). s.mine ++ l) (own_call s.number call refl))) in
    let there : left_by_all s.opening (s.front ++ of.front.0) ≡ b.objects = ap (left_by_all s.opening) (sym of.front.1) ∙ (ap (λ (o : Objects). left_by_all o b.history) of.opened ∙ book.replays.left) in
    let opened : later.opening ≡ s.opening = makes.opening ∙ sym of.opened in
    let adds = call_adds b.objects (log_seen s) (floor_seen s) (map_seen s) (names_seen s) book.sound has asked (subst IsSoundStore makes.objects now.sound) (puts_next s asked ask) may in
    let told_adds : HasAll (left_by_call b.objects asked) (log_after (log_seen s) asked told) (floor_after (floor_seen s) asked told) (map_after (map_seen s) asked told) (names_after (names_seen s) asked told) =
    subst (λ (t : Told). HasAll (left_by_call b.objects asked) (log_after (log_seen s) asked t) (floor_after (floor_seen s) asked t) (map_after (map_seen s) asked t) (names_after (names_seen s) asked t)) (sym makes.told) adds in
    let of_mine : HasAll (left_by_call b.objects asked) (log_after_all (log_in_store s.opening) (s.mine ++ call ∷ [])) (floor_after_all (length (log_in_store s.opening)) (s.mine ++ call ∷ [])) (map_after_all [] (s.mine ++ call ∷ [])) (names_after_all [] (s.mine ++ call ∷ [])) =
    rw (log_after_all-last (log_in_store s.opening) s.mine call, floor_after_all-last (length (log_in_store s.opening)) s.mine call, map_after_all-last [] s.mine call, names_after_all-last [] s.mine call) told_adds in
    record {
      number = refl;
      made = refl;
      opening = opened;
      mine = mine;
      between = of.front.0;
      front = makes.history ∙ ap (λ (l : History). l ++ call ∷ []) of.front.1;
      told_so = makes.told ∙ ap (λ (o : Objects). told_by_call o asked) (sym there);
      stood = subst (λ (o : Objects). MayStand o s) (sym there) stands;
      seat = record {
        told = now.replays.told;
        own = refl;
        left = record {
          sound = subst IsSoundStore (sym now.replays.left) now.sound;
          bytes = subst AreBytes (sym now.replays.left) (book_of_bytes later now);
          has = subst (λ (y : Objects × Objects × History). HasAll y.0 (log_after_all (log_in_store y.1) y.2) (floor_after_all (length (log_in_store y.1)) y.2) (map_after_all [] y.2) (names_after_all [] y.2))
              (λ i. (sym (now.replays.left ∙ makes.objects) i, sym opened i, sym mine i)) of_mine;
        };
      };
    }

pub log_extends : (s : Seen) (asked : Asked) (told : Told) (new : Seen) → Extends s asked told new → log_seen new ≡ log_after (log_seen s) asked told
log_extends s asked told new e =
    let call : SeatCall = record { seat = s.number; asked = asked; told = told } in
    ap (λ (o : Objects). log_after_all (log_in_store o) new.mine) e.opening ∙ (ap (log_after_all (log_in_store s.opening)) e.mine ∙ log_after_all-last (log_in_store s.opening) s.mine call)

pub floor_extends : (s : Seen) (asked : Asked) (told : Told) (new : Seen) → Extends s asked told new → floor_seen new ≡ floor_after (floor_seen s) asked told
floor_extends s asked told new e =
    let call : SeatCall = record { seat = s.number; asked = asked; told = told } in
    ap (λ (o : Objects). floor_after_all (length (log_in_store o)) new.mine) e.opening ∙ (ap (floor_after_all (length (log_in_store s.opening))) e.mine ∙ floor_after_all-last (length (log_in_store s.opening)) s.mine call)

pub map_extends : (s : Seen) (asked : Asked) (told : Told) (new : Seen) → Extends s asked told new → map_seen new ≡ map_after (map_seen s) asked told
map_extends s asked told new e =
    let call : SeatCall = record { seat = s.number; asked = asked; told = told } in
    ap (map_after_all []) e.mine ∙ map_after_all-last [] s.mine call

pub names_extends : (s : Seen) (asked : Asked) (told : Told) (new : Seen) → Extends s asked told new → names_seen new ≡ names_after (names_seen s) asked told
names_extends s asked told new e =
    let call : SeatCall = record { seat = s.number; asked = asked; told = told } in
    ap (names_after_all []) e.mine ∙ names_after_all-last [] s.mine call

-- the log that was seen is no longer than the book's
no_longer : (s : Seen) (asked : Asked) (told : Told) (number made : ℕ) (b : BookView) → Extends s asked told (seen_of_book number made b) → IsBook b → length (log_after (log_seen s) asked told) ≤ commit_count b.objects
no_longer s asked told number made b e book =
    let has = has_by (seen_of_book number made b) b e.seat book (record { opened = refl; front = front_itself b.history; mine = refl }) in
    subst (λ (n : ℕ). length (log_after (log_seen s) asked told) ≤ n) (log_long b.objects book.sound)
    (subst (λ (l : List (List ℕ)). length l ≤ length (log_in_store b.objects)) (log_extends s asked told (seen_of_book number made b) e) (front_short (log_seen (seen_of_book number made b)) (log_in_store b.objects) has.begins))

-- what the pass of a seat knows that made a call, with the book that it took out, and put that back
pub record IsSettled (v u : Sight) (asked : Asked) (told : Told) (b : BookView) : Type 0 where
  pub sits : u.sits ≡ v.sits
  pub out : u.out ≡ None
  pub known : u.known ≡ v.known
  pub number : u.seen.number ≡ v.seen.number
  pub extends : Extends v.seen asked told u.seen
  pub log : log_seen u.seen ≡ log_after (log_seen v.seen) asked told
  pub short : length (log_after (log_seen v.seen) asked told) ≤ commit_count b.objects

pub settles : (v w u : Sight) (number : ℕ) (b later : BookView) (asked : Asked) (told : Told) → IsSeat v.seen → number ≡ v.seen.number → IsBook b → TakesOut v b w → MayAskFor v.seen asked
    → Makes b (record { seat = number; asked = asked; told = told }) later → IsBook later → PutsBack w later u → IsSettled v u asked told later
settles v w u number b later asked told seat is book taken ask makes now back =
    let same : w.seen.number ≡ v.seen.number = ap (λ (x : Sight). x.seen.number) taken.0 in
    let made : w.seen.made ≡ v.seen.made = ap (λ (x : Sight). x.seen.made) taken.0 in
    let e : Extends v.seen asked told (seen_of_book w.seen.number w.seen.made later) = subst (λ (n : ℕ × ℕ). Extends v.seen asked told (seen_of_book n.0 n.1 later)) (λ i. (sym same i, sym made i))
    (sees v.seen b later asked told seat book taken.1 ask (subst (λ (n : ℕ). Makes b (record { seat = n; asked = asked; told = told }) later) is makes) now) in
    let e' : Extends v.seen asked told u.seen = subst (Extends v.seen asked told) (sym (ap (λ (x : Sight). x.seen) back)) e in
    record {
      sits = ap (λ (x : Sight). x.sits) back ∙ ap (λ (x : Sight). x.sits) taken.0;
      out = ap (λ (x : Sight). x.out) back;
      known = ap (λ (x : Sight). x.known) back ∙ ap (λ (x : Sight). x.known) taken.0;
      number = ap (λ (x : Sight). x.seen.number) back ∙ same;
      extends = e';
      log = log_extends v.seen asked told u.seen e';
      short = no_longer v.seen asked told w.seen.number w.seen.made later e now;
    }
