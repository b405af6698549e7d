-- What talks show of stores.
use Rattle.std.proofs.Common.{◌≡◌, ℕ, List, [], ◌∷◌, ◌++◌, Bool, true, false, cond, Option, Some, None, IsSome, map, refl, sym, ap, subst, ◌∙◌}
use Rattle.std.specs.Prelude.{Contains, bytes_eq}
use Rattle.std.proofs.lemmas.Slice.Eq.{bytes_eq-Decides}
use Rattle.store_core.specs.Calls.{IsUntouched}
use Rattle.store_core.specs.Objects.{Objects, HasObjectsOf, names_of, object_at}
use Rattle.store_core.specs.ObjectLaws.{listed_iff_stands}
use Rattle.session_core.specs.Shown.{AllGets, AllReads, AllStand, IsExact, IsRead, Shows}
use Rattle.session_core.specs.Stores.{State, MayAnswer, MayAnswerAmid, Talked}
use Rattle.session_core.specs.Talks.{Asked, list_names, get_object, put_file, put_commit, Told, told_names, told_object, told_put, told_lost, told_memory, Talk, Bears, IsBorne}
use Rattle.session_core.proofs.Bearing.{talk_grows}

-- ---- what is exact is borne

found_borne : (objects : Objects) (name : List ℕ) (found : Option (List ℕ)) → found ≡ object_at objects name → IsBorne objects (get_object name) (told_object found)
found_borne objects name None is = tt
found_borne objects name (Some bytes) is = sym is

exact_borne : (objects : Objects) (asked : Asked) (told : Told) → IsExact objects asked told → IsBorne objects asked told
exact_borne objects list_names (told_names names) is = λ name listed. (listed_iff_stands objects name).0 (subst (λ (all : List (List ℕ)). Contains all name) is listed)
exact_borne objects list_names (told_object found) is = is
exact_borne objects list_names (told_put put) is = is
exact_borne objects list_names told_lost is = is
exact_borne objects list_names told_memory is = is
exact_borne objects (get_object name) (told_names names) is = is
exact_borne objects (get_object name) (told_object found) is = found_borne objects name found is
exact_borne objects (get_object name) (told_put put) is = is
exact_borne objects (get_object name) told_lost is = is
exact_borne objects (get_object name) told_memory is = is
exact_borne objects (put_file name bytes) told is = is
exact_borne objects (put_commit version bytes) told is = is

-- a store bears what is exact of it
pub shows_bears : (objects : Objects) (talk : Talk) → Shows talk objects → Bears objects talk
shows_bears objects [] is = tt
shows_bears objects (call ∷ talk) is = (exact_borne objects call.0 call.1 is.0, shows_bears objects talk is.1)

-- one call more
pub shows_more : (objects : Objects) (talk : Talk) (asked : Asked) (told : Told) → Shows (talk ++ (asked, told) ∷ []) objects → Shows talk objects × IsExact objects asked told
shows_more objects [] asked told is = (tt, is.0)
shows_more objects (call ∷ talk) asked told is =
    let more = shows_more objects talk asked told is.1 in
    ((is.0, more.0), more.1)

pub bears_more : (objects : Objects) (talk : Talk) (asked : Asked) (told : Told) → Bears objects (talk ++ (asked, told) ∷ []) → Bears objects talk × IsBorne objects asked told
bears_more objects [] asked told is = (tt, is.0)
bears_more objects (call ∷ talk) asked told is =
    let more = bears_more objects talk asked told is.1 in
    ((is.0, more.0), more.1)

-- ---- lists and gets

read_untouched : (old new : State) (asked : Asked) (told : Told) → IsRead asked → MayAnswer old asked told new → IsUntouched old new
read_untouched old new list_names (told_names names) read is = is.1
read_untouched old new list_names (told_object found) read is = absurd is
read_untouched old new list_names (told_put put) read is = absurd is
read_untouched old new list_names told_lost read is = is
read_untouched old new list_names told_memory read is = is
read_untouched old new (get_object name) (told_names names) read is = absurd is
read_untouched old new (get_object name) (told_object found) read is = is.1
read_untouched old new (get_object name) (told_put put) read is = absurd is
read_untouched old new (get_object name) told_lost read is = is
read_untouched old new (get_object name) told_memory read is = is
read_untouched old new (put_file name bytes) told read is = absurd read
read_untouched old new (put_commit version bytes) told read is = absurd read

read_exact : (old new : State) (asked : Asked) (told : Told) → IsRead asked → MayAnswer old asked told new → IsExact old.0 asked told
read_exact old new list_names (told_names names) read is = is.0
read_exact old new list_names (told_object found) read is = absurd is
read_exact old new list_names (told_put put) read is = absurd is
read_exact old new list_names told_lost read is = tt
read_exact old new list_names told_memory read is = tt
read_exact old new (get_object name) (told_names names) read is = absurd is
read_exact old new (get_object name) (told_object found) read is = is.0
read_exact old new (get_object name) (told_put put) read is = absurd is
read_exact old new (get_object name) told_lost read is = tt
read_exact old new (get_object name) told_memory read is = tt
read_exact old new (put_file name bytes) told read is = absurd read
read_exact old new (put_commit version bytes) told read is = absurd read

pub reads_untouched : (old new : State) (talk : Talk) → AllReads talk → Talked MayAnswer old talk new → IsUntouched old new
reads_untouched old new [] reads is = ((λ i. (is i).0), (λ i. (is i).1))
reads_untouched old new (call ∷ talk) reads is =
    let one = read_untouched old is.0 call.0 call.1 reads.0 is.1 in
    let more = reads_untouched is.0 new talk reads.1 is.2 in
    (more.0 ∙ one.0, more.1 ∙ one.1)

pub reads_shown : (old new : State) (talk : Talk) → AllReads talk → Talked MayAnswer old talk new → Shows talk old.0
reads_shown old new [] reads is = tt
reads_shown old new (call ∷ talk) reads is =
    let one = read_untouched old is.0 call.0 call.1 reads.0 is.1 in
    (read_exact old is.0 call.0 call.1 reads.0 is.1, subst (λ (o : Objects). Shows talk o) one.0 (reads_shown is.0 new talk reads.1 is.2))

-- gets are reads
pub gets_read : (talk : Talk) → AllGets talk → AllReads talk
gets_read [] gets = tt
gets_read ((list_names, told) ∷ talk) gets = absurd gets.0
gets_read ((get_object name, told) ∷ talk) gets = (tt, gets_read talk gets.1)
gets_read ((put_file name bytes, told) ∷ talk) gets = absurd gets.0
gets_read ((put_commit version bytes, told) ∷ talk) gets = absurd gets.0

-- the last call of a talk was answered from what the others left
pub talked_last : (answers : State → Asked → Told → State → Type 0) (old new : State) (talk : Talk) (asked : Asked) (told : Told) → Talked answers old (talk ++ (asked, told) ∷ []) new
    → (mid : State) × Talked answers old talk mid × answers mid asked told new
talked_last answers old new [] asked told is = (old, refl, subst (λ (s : State). answers old asked told s) (sym is.2) is.1)
talked_last answers old new (first ∷ talk) asked told is =
    let more = talked_last answers is.0 new talk asked told is.2 in
    (more.0, (is.0, is.1, more.1), more.2)

-- ---- a talk that tells of a whole store

-- each object of a store is got
abbrev pub all_got : (objects names : Objects) → Talk
all_got objects names = map (λ (e : List ℕ × List ℕ). (get_object e.0, told_object (object_at objects e.0))) names

got_shown : (objects some : Objects) → Shows (all_got objects some) objects
got_shown objects [] = tt
got_shown objects (e ∷ some) = (refl, got_shown objects some)

-- a store bears the talk in which each of its objects is got
pub got_borne : (objects : Objects) → Bears objects (all_got objects objects)
got_borne objects = shows_bears objects (all_got objects objects) (got_shown objects objects)

-- who bears it has them all
got_has : (objects more some : Objects) (name bytes : List ℕ) → object_at objects name ≡ Some bytes → IsSome (object_at some name) → Bears more (all_got objects some) → object_at more name ≡ Some bytes
got_has objects more [] name bytes is stands borne = cc
got_has objects more (e ∷ some) name bytes is stands borne = by_name (bytes_eq name e.0) refl (λ later. got_has objects more some name bytes is later borne.1)
  where
    by_name : (same : Bool) → bytes_eq name e.0 ≡ same → (IsSome (object_at some name) → object_at more name ≡ Some bytes) → object_at more name ≡ Some bytes
    by_name true eq others =
        let same : name ≡ e.0 = (bytes_eq-Decides name e.0).0 eq in
        let here : object_at objects e.0 ≡ Some bytes = ap (object_at objects) (sym same) ∙ is in
        let told : IsBorne more (get_object e.0) (told_object (Some bytes)) = subst (λ (found : Option (List ℕ)). IsBorne more (get_object e.0) (told_object found)) here borne.0 in
        ap (object_at more) same ∙ told
    by_name false eq others =
        let later : object_at (e ∷ some) name ≡ object_at some name = ap (λ (b : Bool). cond b (Some e.1) (object_at some name)) eq in
        others (rw later at stands)

pub got_grown : (objects more : Objects) → Bears more (all_got objects objects) → HasObjectsOf objects more
got_grown objects more borne name bytes is = got_has objects more objects name bytes is (rw is refl) borne

-- ---- a store that grows

-- what stood when the names were listed is got as it stood
got_amid : (listed : Objects) (old new : State) (name : List ℕ) (told : Told) → HasObjectsOf listed old.0 → IsSome (object_at listed name) → MayAnswerAmid old (get_object name) told new → IsExact listed (get_object name) told
got_amid listed old new name (told_names names) has stands is = absurd is.3
got_amid listed old new name (told_put put) has stands is = absurd is.3
got_amid listed old new name told_lost has stands is = tt
got_amid listed old new name told_memory has stands is = tt
got_amid listed old new name (told_object found) has stands is = by_listed (object_at listed name) refl stands
  where
    by_listed : (stood : Option (List ℕ)) → object_at listed name ≡ stood → IsSome stood → found ≡ object_at listed name
    by_listed None e some = cc
    by_listed (Some bytes) e some = is.3.0 ∙ (is.1 name bytes (has name bytes e) ∙ sym e)

gets_amid : (listed : Objects) (old new : State) (gets : Talk) → HasObjectsOf listed old.0 → AllStand gets listed → Talked MayAnswerAmid old gets new → Shows gets listed
gets_amid listed old new [] has stand is = tt
gets_amid listed old new ((list_names, told) ∷ gets) has stand is = absurd stand.0
gets_amid listed old new ((put_file name bytes, told) ∷ gets) has stand is = absurd stand.0
gets_amid listed old new ((put_commit version bytes, told) ∷ gets) has stand is = absurd stand.0
gets_amid listed old new ((get_object name, told) ∷ gets) has stand is =
    let grown = talk_grows old is.0 ((get_object name, told) ∷ []) (is.0, is.1, refl) in
    (got_amid listed old is.0 name told has stand.0 is.1, gets_amid listed is.0 new gets (λ other bytes stood. grown other bytes (has other bytes stood)) stand.1 is.2)

pub shows_amid : (listed : Objects) (old new : State) (gets : Talk) (names : List (List ℕ)) → names ≡ names_of listed → HasObjectsOf listed old.0 → AllStand gets listed → Talked MayAnswerAmid old gets new
    → Shows ((list_names, told_names names) ∷ gets) listed
shows_amid listed old new gets names is has stand talked = (is, gets_amid listed old new gets has stand talked)
