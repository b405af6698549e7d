-- What the talk of a read shows.
use Rattle.std.proofs.Common.{◌⊎◌, inl, inr, List, [], ◌∷◌, ◌++◌, IsSome, ℕ, refl}
use Rattle.store_core.specs.Objects.{Objects, HasObjectsOf, names_of, object_at}
use Rattle.session_core.specs.Sessions.{AllAsked}
use Rattle.session_core.specs.Shown.{AllReads, IsExact, Shows}
use Rattle.session_core.specs.Stores.{MayAnswerAmid, State, Talked}
use Rattle.session_core.specs.Talks.{Asked, list_names, get_object, put_file, put_commit, Told, Talk, Bears}
use Rattle.session_core.proofs.Callers.{talk_grows}
use Rattle.session_core.proofs.Showing.{shows_amid}
use Rattle.source_core.specs.SourceSessions.{AsksForOne, HasNewFiles, IsNewFile, SourceAsks, SourceJob}

-- A read only lists and gets.
pub all_reads : (job : SourceJob) (before front talk : Talk) → AllAsked (SourceAsks job before) front talk → AllReads talk
all_reads job before front [] asked = tt
all_reads job before front ((list_names, told) ∷ talk) asked = (tt, all_reads job before (front ++ (list_names, told) ∷ []) talk asked.1)
all_reads job before front ((get_object name, told) ∷ talk) asked = (tt, all_reads job before (front ++ (get_object name, told) ∷ []) talk asked.1)
all_reads job before front ((put_file name bytes, told) ∷ talk) asked = absurd asked.0
all_reads job before front ((put_commit version bytes, told) ∷ talk) asked = absurd asked.0

-- two talks that are shown are shown one behind the other
shows_both : (objects : Objects) (talk more : Talk) → Shows talk objects → Shows more objects → Shows (talk ++ more) objects
shows_both objects [] more is others = others
shows_both objects (call ∷ talk) more is others = (is.0, shows_both objects talk more is.1 others)

module _ (job : SourceJob) (before : Talk) (listed : Objects) (known : Bears listed before) (files : HasNewFiles job.place.version listed) where
  -- what is asked for stood when the names were listed
  stands_then : (front : Talk) (name : List ℕ) → AsksForOne job before front name → Shows front listed → IsSome (object_at listed name)
  stands_then front name asks shown = by_kind (asks.sought listed known shown)
    where
      by_kind : IsSome (object_at listed name) ⊎ IsNewFile job.place.version listed name → IsSome (object_at listed name)
      by_kind (inl some) = some
      by_kind (inr new) = files name new

  -- So what is told behind the list is shown of the store as it was listed.
  pub shown_then : (first : Asked × Told) (front gets : Talk) (old new : State) → AllAsked (SourceAsks job before) (first ∷ front) gets → Shows (first ∷ front) listed → HasObjectsOf listed old.0 → Talked MayAnswerAmid old gets new → Shows gets listed
  shown_then first front [] old new asked shown grown talked = tt
  shown_then first front ((list_names, told) ∷ gets) old new asked shown grown talked = let wrong = asked.0 in absurd cc
  shown_then first front ((put_file name bytes, told) ∷ gets) old new asked shown grown talked = absurd asked.0
  shown_then first front ((put_commit version bytes, told) ∷ gets) old new asked shown grown talked = absurd asked.0
  shown_then first front ((get_object name, told) ∷ gets) old new asked shown grown talked =
      let mid = talked.0 in
      let stands = stands_then (first ∷ front) name asked.0 shown in
      let one : IsExact listed (get_object name) told = (shows_amid listed old mid ((get_object name, told) ∷ []) (names_of listed) refl grown (stands, tt) (mid, talked.1, refl)).1.0 in
      let more = talk_grows old mid ((get_object name, told) ∷ []) (mid, talked.1, refl) in
      (one, shown_then first (front ++ (get_object name, told) ∷ []) gets mid new asked.1 (shows_both listed (first ∷ front) ((get_object name, told) ∷ []) shown (one, tt)) (λ n b is. more n b (grown n b is)) talked.2)
