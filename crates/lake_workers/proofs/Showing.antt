-- What a read is shown that is had through a seat: the store as it stood when its names were listed.
use Rattle.std.proofs.Common.{◌≡◌, ◌∙◌, ◌⊎◌, ℕ, List, [], ◌∷◌, ◌++◌, Option, None, Some, IsSome, inl, inr, refl, sym, ap, subst, append_assoc, append-nil}
use Rattle.store_core.specs.Objects.{HasObjectsOf, Objects, names_of, object_at}
use Rattle.store_core.specs.declared.store.Put.TheVariants.{Exists}
use Rattle.session_core.specs.Sessions.{AllAsked}
use Rattle.session_core.specs.Shown.{IsExact, Shows}
use Rattle.session_core.specs.Talks.{Asked, Bears, Talk, Told, get_object, list_names, put_commit, put_file, told_lost, told_memory, told_names, told_put}
use Rattle.log_book.specs.Histories.{left_by_all}
use Rattle.log_book.proofs.Callers.{all_grow, left_by_all-append}
use Rattle.log_hub.specs.Lock.{IsFrontOf}
use Rattle.log_hub.specs.Seats.{Extends, MayStand}
use Rattle.log_hub.specs.Sights.{Seen}
use Rattle.source_core.specs.SourceSessions.{AsksForOne, IsNewFile, SourceAsks, SourceJob}
use Rattle.session_laws.specs.Rows.{ListsFirst}
use Rattle.lake_workers.specs.Driving.{TalksThrough, WasShown, calls, finds, lacks, nothing, read_before}
use Rattle.lake_workers.proofs.NewFiles.{sound_files}
use Rattle.lake_workers.proofs.Standing.{Grows, extends_grows, front_of_front, grows_on}
use Rattle.lake_workers.proofs.Talking.{reads_grow, stood_by, talk_grows}

-- ---- parts of talks

-- the calls of a talk before the last one, and that one, were asked for
pub asked_parts : (asks : Talk → Asked → Type 0) (before talk : Talk) (asked : Asked) (told : Told) → AllAsked asks before (talk ++ (asked, told) ∷ []) → AllAsked asks before talk × asks (before ++ talk) asked
asked_parts asks before [] asked told all = (tt, subst (λ (t : Talk). asks t asked) (sym (append-nil before)) all.0)
asked_parts asks before (call ∷ talk) asked told all =
    let rest = asked_parts asks (before ++ call ∷ []) talk asked told all.1 in
    ((all.0, rest.0), subst (λ (t : Talk). asks t asked) (append_assoc before (call ∷ []) talk) rest.1)

pub shown_with : (objects : Objects) (talk : Talk) (asked : Asked) (told : Told) → Shows talk objects → IsExact objects asked told → Shows (talk ++ (asked, told) ∷ []) objects
shown_with objects [] asked told shown one = (one, tt)
shown_with objects (call ∷ talk) asked told shown one = (shown.0, shown_with objects talk asked told shown.1 one)

lists_with : (talk : Talk) (names : List (List ℕ)) (call : Asked × Told) → ListsFirst talk names → ListsFirst (talk ++ call ∷ []) names
lists_with talk names call lists = (lists.0 ++ call ∷ [], ap (λ (t : Talk). t ++ call ∷ []) lists.1)

-- the answer that was told first
abbrev pub told_first : Talk → Told
told_first [] = told_lost
told_first (call ∷ talk) = call.1

-- ---- one call more

-- what was seen later
later_shown : (talk : Talk) (old mid new : Seen) → IsFrontOf mid.front new.front → WasShown talk old mid → WasShown talk old new
later_shown talk old mid new more was =
    record { front = was.front; behind = was.behind; within = front_of_front was.front mid.front new.front was.within more; stood = was.stood; lists = was.lists; shown = was.shown }

more_shown : (talk : Talk) (old mid new : Seen) (asked : Asked) (told : Told) → IsFrontOf mid.front new.front → (was : WasShown talk old mid) → IsExact (left_by_all old.opening was.front) asked told → WasShown (talk ++ (asked, told) ∷ []) old new
more_shown talk old mid new asked told more was exact =
    let stood = left_by_all old.opening was.front in
    record {
      front = was.front;
      behind = was.behind;
      within = front_of_front was.front mid.front new.front was.within more;
      stood = was.stood;
      lists = lists_with talk (names_of (left_by_all old.opening was.front)) (asked, told) was.lists;
      shown = shown_with (left_by_all old.opening was.front) talk asked told was.shown exact;
    }

module _ (read : SourceJob) (before : Talk) (old : Seen) (earlier : (objects : Objects) → MayStand objects old → Bears objects before) where
  -- the names are listed: so it stands then
  listed_now : (here new : Seen) (talk : Talk) (told : Told) → Grows old here → talk ≡ [] → Extends here list_names told new → WasShown (talk ++ (list_names, told) ∷ []) old new
  listed_now here new talk told grows none e =
      let told_so : told ≡ told_names (names_of (left_by_all old.opening (here.front ++ e.between))) = e.told_so ∙ ap (λ (o : Objects). told_names (names_of (left_by_all o (here.front ++ e.between)))) grows.opening in
      let stood = subst (λ (o : Objects). MayStand (left_by_all o (here.front ++ e.between)) here) grows.opening e.stood in
      let only : (list_names, told_names (names_of (left_by_all old.opening (here.front ++ e.between)))) ∷ [] ≡ talk ++ (list_names, told) ∷ [] = λ i. sym none i ++ (list_names, sym told_so i) ∷ [] in
      subst (λ (t : Talk). WasShown t old new) only (record {
        front = here.front ++ e.between;
        behind = front_of_front old.front here.front (here.front ++ e.between) grows.front (e.between, refl);
        within = (record { seat = here.number; asked = list_names; told = told } ∷ [], e.front);
        stood = stood_by old here (left_by_all old.opening (here.front ++ e.between)) grows stood;
        lists = ([], refl);
        shown = (refl, tt);
      })

  -- an object is got, which stood then
  got_now : (here new : Seen) (talk : Talk) (name : List ℕ) (told : Told) → here.opening ≡ old.opening → WasShown talk old here → AsksForOne read before talk name → Extends here (get_object name) told new → WasShown (talk ++ (get_object name, told) ∷ []) old new
  got_now here new talk name told opened was asks e =
      more_shown talk old here new (get_object name) told (extends_grows here (get_object name) told new e).front was
      (subst (IsExact (left_by_all old.opening was.front) (get_object name)) (sym e.told_so) (same_still (object_at (left_by_all old.opening was.front) name) refl stood_then))
    where
      by_sought : IsSome (object_at (left_by_all old.opening was.front) name) ⊎ IsNewFile read.place.version (left_by_all old.opening was.front) name → IsSome (object_at (left_by_all old.opening was.front) name)
      by_sought (inl stands) = stands
      by_sought (inr new) = sound_files (left_by_all old.opening was.front) was.stood.sound.table read.place.version name new

      stood_then : IsSome (object_at (left_by_all old.opening was.front) name)
      stood_then = by_sought (asks.sought (left_by_all old.opening was.front) (earlier (left_by_all old.opening was.front) was.stood) was.shown)

      grown : HasObjectsOf (left_by_all old.opening was.front) (left_by_all here.opening (here.front ++ e.between))
      grown =
          let there : left_by_all here.opening (here.front ++ e.between) ≡ left_by_all (left_by_all old.opening was.front) (was.within.0 ++ e.between) =
          (λ i. left_by_all (opened i) (was.within.1 i ++ e.between)) ∙ (ap (left_by_all old.opening) (append_assoc was.front was.within.0 e.between) ∙ left_by_all-append old.opening was.front (was.within.0 ++ e.between)) in
          subst (HasObjectsOf (left_by_all old.opening was.front)) (sym there) (all_grow (left_by_all old.opening was.front) (was.within.0 ++ e.between))

      same_still : (found : Option (List ℕ)) → object_at (left_by_all old.opening was.front) name ≡ found → IsSome found → object_at (left_by_all here.opening (here.front ++ e.between)) name ≡ object_at (left_by_all old.opening was.front) name
      same_still None is some = absurd cc
      same_still (Some bytes) is some = grown name bytes is ∙ sym is

  -- nothing was told of a list or of a get
  short_now : (mid new : Seen) (talk : Talk) (asked : Asked) → IsFrontOf mid.front new.front → SourceAsks read before talk asked → (names : List (List ℕ)) → ListsFirst (talk ++ (asked, told_memory) ∷ []) names
      → ((others : List (List ℕ)) → ListsFirst talk others → WasShown talk old mid) → WasShown (talk ++ (asked, told_memory) ∷ []) old new
  short_now mid new talk list_names later none names lists was =
      let told : told_memory ≡ told_names names = ap told_first (ap (λ (t : Talk). t ++ (list_names, told_memory) ∷ []) (sym none) ∙ lists.1) in
      absurd cc
  short_now mid new talk (get_object name) later asks names lists was = more_shown talk old mid new (get_object name) told_memory later (was asks.names (asks.listed.gets, asks.listed.talked)) tt
  short_now mid new talk (put_file name bytes) later asks names lists was = absurd asks
  short_now mid new talk (put_commit version bytes) later asks names lists was = absurd asks

  -- Where names were listed, it is shown what stood then.
  pub was_shown : (new : Seen) (talk : Talk) → TalksThrough old talk new → AllAsked (SourceAsks read before) [] talk → (names : List (List ℕ)) → ListsFirst talk names → WasShown talk old new
  was_shown _ _ nothing asked names lists = let none = lists.1 in absurd cc
  was_shown _ _ (calls talk mid here new list_names told through reads reach e) asked names lists =
      listed_now here new talk told (grows_on old mid here (talk_grows old mid talk through) (reads_grow 0 mid here reads)) (asked_parts (SourceAsks read before) [] talk list_names told asked).1 e
  was_shown _ _ (calls talk mid here new (get_object name) told through reads reach e) asked names lists =
      let parts = asked_parts (SourceAsks read before) [] talk (get_object name) told asked in
      let on = reads_grow 0 mid here reads in
      let was = was_shown mid talk through parts.0 parts.1.names (parts.1.listed.gets, parts.1.listed.talked) in
      got_now here new talk name told (on.opening ∙ (talk_grows old mid talk through).opening) (later_shown talk old mid here on.front was) parts.1 e
  was_shown _ _ (calls talk mid here new (put_file name bytes) told through reads reach e) asked names lists = absurd (asked_parts (SourceAsks read before) [] talk (put_file name bytes) told asked).1
  was_shown _ _ (calls talk mid here new (put_commit version bytes) told through reads reach e) asked names lists = absurd (asked_parts (SourceAsks read before) [] talk (put_commit version bytes) told asked).1
  was_shown _ _ (finds talk mid here new version bytes commit through reads within e) asked names lists = absurd (asked_parts (SourceAsks read before) [] talk (put_commit version bytes) (told_put Exists) asked).1
  was_shown _ _ (lacks talk mid new call through reads) asked names lists =
      let parts = asked_parts (SourceAsks read before) [] talk call told_memory asked in
      short_now mid new talk call (reads_grow (read_before call) mid new reads).front parts.1 names lists (λ others first. was_shown mid talk through parts.0 others first)
