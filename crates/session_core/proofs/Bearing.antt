-- What a store bears, each store that it grows to bears; and what a store answered it bears.
use Rattle.std.proofs.Common.{◌≡◌, ℕ, List, [], ◌∷◌, ◌++◌, Option, Some, None, IsSome, refl, sym, ap, ◌∙◌, inl, inr}
use Rattle.std.specs.Prelude.{Contains, is_some}
use Rattle.store_core.specs.Calls.{HasLanded, IsUntouched, MayHaveLanded, StandsAfter}
use Rattle.store_core.specs.Objects.{Objects, HasObjectsOf, names_of, object_at, with_object}
use Rattle.store_core.specs.ObjectLaws.{object_at-with_object_kept, listed_iff_stands}
use Rattle.store_core.specs.declared.store.Put.{Put}
use Rattle.store_core.specs.declared.store.Put.TheVariants.{Created, Exists}
use Rattle.store_core.specs.Names.{commit_name}
use Rattle.session_core.specs.Stores.{State, MayAnswer, MayAnswerAmid, MayAnswerPut, Talked}
use Rattle.session_core.specs.Talks.{Asked, list_names, get_object, put_file, put_commit, Told, told_names, told_object, told_put, told_lost, told_memory, Talk, Bears, IsBorne}

-- what stands in the one stands in the other
stands_more : (objects more : Objects) (name : List ℕ) → HasObjectsOf objects more → IsSome (object_at objects name) → IsSome (object_at more name)
stands_more objects more name has stands = by_case (object_at objects name) refl stands
  where
    by_case : (found : Option (List ℕ)) → object_at objects name ≡ found → IsSome found → IsSome (object_at more name)
    by_case None is stood = absurd cc
    by_case (Some bytes) is some = rw (has name bytes is) refl

stands_after_more : (objects more : Objects) (name bytes : List ℕ) (put : Put) → HasObjectsOf objects more → StandsAfter put bytes (object_at objects name) → StandsAfter put bytes (object_at more name)
stands_after_more objects more name bytes Created has is = has name bytes is
stands_after_more objects more name bytes Exists has is = stands_more objects more name has is

pub borne_grows : (objects more : Objects) (asked : Asked) (told : Told) → HasObjectsOf objects more → IsBorne objects asked told → IsBorne more asked told
borne_grows objects more list_names (told_names names) has is = λ name listed. stands_more objects more name has (is name listed)
borne_grows objects more list_names (told_object found) has is = tt
borne_grows objects more list_names (told_put put) has is = tt
borne_grows objects more list_names told_lost has is = tt
borne_grows objects more list_names told_memory has is = tt
borne_grows objects more (get_object name) (told_names names) has is = tt
borne_grows objects more (get_object name) (told_object None) has is = tt
borne_grows objects more (get_object name) (told_object (Some bytes)) has is = has name bytes is
borne_grows objects more (get_object name) (told_put put) has is = tt
borne_grows objects more (get_object name) told_lost has is = tt
borne_grows objects more (get_object name) told_memory has is = tt
borne_grows objects more (put_file name bytes) (told_names names) has is = tt
borne_grows objects more (put_file name bytes) (told_object found) has is = tt
borne_grows objects more (put_file name bytes) (told_put put) has is = stands_after_more objects more name bytes put has is
borne_grows objects more (put_file name bytes) told_lost has is = tt
borne_grows objects more (put_file name bytes) told_memory has is = tt
borne_grows objects more (put_commit version bytes) (told_names names) has is = tt
borne_grows objects more (put_commit version bytes) (told_object found) has is = tt
borne_grows objects more (put_commit version bytes) (told_put put) has is = stands_after_more objects more (commit_name version) bytes put has is
borne_grows objects more (put_commit version bytes) told_lost has is = tt
borne_grows objects more (put_commit version bytes) told_memory has is = tt

pub bears_grows : (objects more : Objects) (talk : Talk) → HasObjectsOf objects more → Bears objects talk → Bears more talk
bears_grows objects more [] has is = tt
bears_grows objects more (call ∷ talk) has is = (borne_grows objects more call.0 call.1 has is.0, bears_grows objects more talk has is.1)

-- ---- a store grows over its calls

same_grows : (old new : Objects) → new ≡ old → HasObjectsOf old new
same_grows old new same name bytes is = ap (λ (o : Objects). object_at o name) same ∙ is

put_grows : (old new : Objects) (name bytes : List ℕ) → new ≡ with_object old name bytes → HasObjectsOf old new
put_grows old new name bytes put other kept is = ap (λ (o : Objects). object_at o other) put ∙ object_at-with_object_kept old name bytes other kept is

put_answer_grows : (old new : State) (name bytes : List ℕ) (told : Told) → MayAnswerPut old name bytes told new → HasObjectsOf old.0 new.0
put_answer_grows old new name bytes (told_names names) is = absurd is
put_answer_grows old new name bytes (told_object found) is = absurd is
put_answer_grows old new name bytes (told_put put) is = put_grows old.0 new.0 name bytes is.0.0
put_answer_grows old new name bytes told_lost (inl landed) = put_grows old.0 new.0 name bytes landed.0
put_answer_grows old new name bytes told_lost (inr (inl sent)) = same_grows old.0 new.0 sent.0
put_answer_grows old new name bytes told_lost (inr (inr kept)) = same_grows old.0 new.0 kept.0
put_answer_grows old new name bytes told_memory is = same_grows old.0 new.0 is.0

answer_grows : (old new : State) (asked : Asked) (told : Told) → MayAnswer old asked told new → HasObjectsOf old.0 new.0
answer_grows old new list_names (told_names names) is = same_grows old.0 new.0 is.1.0
answer_grows old new list_names (told_object found) is = absurd is
answer_grows old new list_names (told_put put) is = absurd is
answer_grows old new list_names told_lost is = same_grows old.0 new.0 is.0
answer_grows old new list_names told_memory is = same_grows old.0 new.0 is.0
answer_grows old new (get_object name) (told_names names) is = absurd is
answer_grows old new (get_object name) (told_object found) is = same_grows old.0 new.0 is.1.0
answer_grows old new (get_object name) (told_put put) is = absurd is
answer_grows old new (get_object name) told_lost is = same_grows old.0 new.0 is.0
answer_grows old new (get_object name) told_memory is = same_grows old.0 new.0 is.0
answer_grows old new (put_file name bytes) told is = put_answer_grows old new name bytes told is
answer_grows old new (put_commit version bytes) told is = put_answer_grows old new (commit_name version) bytes told is

-- ---- a store bears what it answered

found_borne : (objects : Objects) (name : List ℕ) (found : Option (List ℕ)) → found ≡ object_at objects name → IsBorne objects (get_object name) (told_object found)
found_borne objects name None is = tt
found_borne objects name (Some bytes) is = sym is

answer_borne : (old new : State) (asked : Asked) (told : Told) → MayAnswer old asked told new → IsBorne new.0 asked told
answer_borne old new list_names (told_names names) is = λ name listed.
    let names_are : names ≡ names_of new.0 = is.0 ∙ ap (λ (o : Objects). names_of o) (sym is.1.0) in
    (listed_iff_stands new.0 name).0 (rw names_are at listed)
answer_borne old new list_names (told_object found) is = tt
answer_borne old new list_names (told_put put) is = tt
answer_borne old new list_names told_lost is = tt
answer_borne old new list_names told_memory is = tt
answer_borne old new (get_object name) (told_names names) is = tt
answer_borne old new (get_object name) (told_object found) is = found_borne new.0 name found (is.0 ∙ ap (λ (o : Objects). object_at o name) (sym is.1.0))
answer_borne old new (get_object name) (told_put put) is = tt
answer_borne old new (get_object name) told_lost is = tt
answer_borne old new (get_object name) told_memory is = tt
answer_borne old new (put_file name bytes) (told_names names) is = tt
answer_borne old new (put_file name bytes) (told_object found) is = tt
answer_borne old new (put_file name bytes) (told_put put) is = is.1
answer_borne old new (put_file name bytes) told_lost is = tt
answer_borne old new (put_file name bytes) told_memory is = tt
answer_borne old new (put_commit version bytes) (told_names names) is = tt
answer_borne old new (put_commit version bytes) (told_object found) is = tt
answer_borne old new (put_commit version bytes) (told_put put) is = is.1
answer_borne old new (put_commit version bytes) told_lost is = tt
answer_borne old new (put_commit version bytes) told_memory is = tt

-- ---- over whole talks

grows_twice : (one two three : Objects) → HasObjectsOf one two → HasObjectsOf two three → HasObjectsOf one three
grows_twice one two three first second name bytes is = second name bytes (first name bytes is)

amid_grows : (old new : State) (asked : Asked) (told : Told) → MayAnswerAmid old asked told new → HasObjectsOf old.0 new.0
amid_grows old new asked told is = grows_twice old.0 is.0.0 new.0 is.1 (answer_grows is.0 new asked told is.3)

pub talk_grows : (old new : State) (talk : Talk) → Talked MayAnswerAmid old talk new → HasObjectsOf old.0 new.0
talk_grows old new [] is = same_grows old.0 new.0 (λ i. (is i).0)
talk_grows old new (call ∷ talk) is = grows_twice old.0 is.0.0 new.0 (amid_grows old is.0 call.0 call.1 is.1) (talk_grows is.0 new talk is.2)

pub talk_borne : (old new : State) (talk : Talk) → Talked MayAnswerAmid old talk new → Bears new.0 talk
talk_borne old new [] is = tt
talk_borne old new (call ∷ talk) is =
    (borne_grows is.0.0 new.0 call.0 call.1 (talk_grows is.0 new talk is.2) (answer_borne is.1.0 is.0 call.0 call.1 is.1.3), talk_borne is.0 new talk is.2)

pub talk_alone : (old new : State) (talk : Talk) → Talked MayAnswer old talk new → Talked MayAnswerAmid old talk new
talk_alone old new [] is = is
talk_alone old new (call ∷ talk) is = (is.0, (old, (λ name bytes stands. stands), (λ put sent. sent), is.1), talk_alone is.0 new talk is.2)

-- two talks that are borne, one behind the other
pub bears_both : (objects : Objects) (talk more : Talk) → Bears objects talk → Bears objects more → Bears objects (talk ++ more)
bears_both objects [] more is behind = behind
bears_both objects (call ∷ talk) more is behind = (is.0, bears_both objects talk more is.1 behind)
