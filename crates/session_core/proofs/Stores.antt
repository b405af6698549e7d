-- What a store of a single thread answers, any store may answer.
use Rattle.std.proofs.Common.{◌≡◌, ℕ, List, [], ◌∷◌, Bool, false, Option, Some, None, IsSome, refl, sym, ap, ◌∙◌}
use Rattle.std.specs.Prelude.{is_some, unwrap_or}
use Rattle.store_core.specs.Calls.{HasLanded, IsUntouched, StandsAfter, put_told}
use Rattle.store_core.specs.Objects.{Objects, object_at, with_object}
use Rattle.store_core.specs.ObjectLaws.{object_at-with_object_same}
use Rattle.store_core.specs.declared.store.Put.{Put}
use Rattle.store_core.specs.declared.store.Put.TheVariants.{Created, Exists}
use Rattle.store_core.specs.Names.{commit_name}
use Rattle.session_core.specs.Stores.{State, Answers, AnswersPut, MayAnswer, MayAnswerPut, Talked}
use Rattle.session_core.specs.Talks.{Asked, list_names, get_object, put_file, put_commit, Told, told_names, told_object, told_put, told_lost, told_memory, Talk, has_lost, is_lost}

module _ (found : Option (List ℕ)) where
  absent_before : (put : Put) → put ≡ put_told found → put ≡ Created → found ≡ None
  absent_before put told created = by_case found (sym told ∙ created)
    where
      by_case : (f : Option (List ℕ)) → put_told f ≡ Created → f ≡ None
      by_case None is = refl
      by_case (Some bytes) is = absurd cc

  stands_behind : (put : Put) (bytes : List ℕ) → put ≡ put_told found → StandsAfter put bytes (Some (unwrap_or found bytes))
  stands_behind Created bytes told = ap (λ (f : Option (List ℕ)). Some (unwrap_or f bytes)) (absent_before Created told refl)
  stands_behind Exists bytes told = refl

put_may : (old new : State) (name bytes : List ℕ) (told : Told) → AnswersPut old name bytes told new → MayAnswerPut old name bytes told new
put_may old new name bytes (told_names names) is = absurd is
put_may old new name bytes (told_object found) is = absurd is
put_may old new name bytes (told_put put) is =
    let found : object_at new.0 name ≡ Some (unwrap_or (object_at old.0 name) bytes) = ap (λ (o : Objects). object_at o name) is.1.0 ∙ object_at-with_object_same old.0 name bytes in
    (is.1, rw found (stands_behind (object_at old.0 name) put bytes is.0), absent_before (object_at old.0 name) put is.0)
put_may old new name bytes told_lost is = absurd is
put_may old new name bytes told_memory is = is

answer_may : (old new : State) (asked : Asked) (told : Told) → Answers old asked told new → MayAnswer old asked told new
answer_may old new list_names (told_names names) is = is
answer_may old new list_names (told_object found) is = absurd is
answer_may old new list_names (told_put put) is = absurd is
answer_may old new list_names told_lost is = absurd is
answer_may old new list_names told_memory is = is
answer_may old new (get_object name) (told_names names) is = absurd is
answer_may old new (get_object name) (told_object found) is = is
answer_may old new (get_object name) (told_put put) is = absurd is
answer_may old new (get_object name) told_lost is = absurd is
answer_may old new (get_object name) told_memory is = is
answer_may old new (put_file name bytes) told is = put_may old new name bytes told is
answer_may old new (put_commit version bytes) told is = put_may old new (commit_name version) bytes told is

pub talk_may : (old new : State) (talk : Talk) → Talked Answers old talk new → Talked MayAnswer old talk new
talk_may old new [] is = is
talk_may old new (call ∷ talk) is = (is.0, answer_may old is.0 call.0 call.1 is.1, talk_may is.0 new talk is.2)

-- ---- a store of a single thread loses no call

exact_put_heard : (old new : State) (name bytes : List ℕ) (told : Told) → AnswersPut old name bytes told new → is_lost told ≡ false
exact_put_heard old new name bytes (told_names names) is = refl
exact_put_heard old new name bytes (told_object found) is = refl
exact_put_heard old new name bytes (told_put put) is = refl
exact_put_heard old new name bytes told_lost is = absurd is
exact_put_heard old new name bytes told_memory is = refl

exact_heard : (old new : State) (asked : Asked) (told : Told) → Answers old asked told new → is_lost told ≡ false
exact_heard old new asked (told_names names) is = refl
exact_heard old new asked (told_object found) is = refl
exact_heard old new asked (told_put put) is = refl
exact_heard old new asked told_memory is = refl
exact_heard old new list_names told_lost is = absurd is
exact_heard old new (get_object name) told_lost is = absurd is
exact_heard old new (put_file name bytes) told_lost is = absurd is
exact_heard old new (put_commit version bytes) told_lost is = absurd is

pub exact_never_lost : (old new : State) (talk : Talk) → Talked Answers old talk new → has_lost talk ≡ false
exact_never_lost old new [] is = refl
exact_never_lost old new (call ∷ talk) is = rw (exact_heard old is.0 call.0 call.1 is.1) (exact_never_lost is.0 new talk is.2)
