-- How a call of the code is answered, as a call of a world.
use Rattle.std.proofs.Common.{◌≡◌, ℕ, List, [], ◌∷◌, ◌++◌, Result, Ok, Err, is_some, refl, sym, ◌∙◌, ap, subst, inl, inr}
use Rattle.store_core.specs.Calls.{Flight, put_told}
use Rattle.store_core.specs.ObjectLaws.{object_at-with_object_same, with_object_stands}
use Rattle.store_core.specs.Objects.{Objects, object_at, with_object}
use Rattle.store_core.specs.Turns.{SendsLate}
use Rattle.store_core.specs.declared.fault.StoreFault.{StoreFault}
use Rattle.store_core.specs.declared.fault.StoreFault.TheVariants.{Lost, Memory}
use Rattle.store_core.specs.declared.store.Put.{Put}
use Rattle.store_core.specs.declared.store.Put.TheVariants.{Exists}
use Rattle.session_core.specs.Stores.{Answers, State}
use Rattle.session_core.specs.Talks.{Asked, Told, get_object, list_names, put_commit, put_file, told_lost, told_memory, told_names, told_object, told_put}
use Rattle.store_core.specs.Names.{commit_name}
use Rattle.session_core.specs.CallEffects.{left_by_call, told_by_call}
use Rattle.stream_model.specs.Worlds.{How, once, short, twice}
use Rattle.stream_world.specs.Calling.{IsSentCall, again, sent_told}
use Rattle.stream_world.specs.EventViews.{IsMetIn}
use Rattle.stream_world.specs.Standing.{CallMeets}

-- What a store answers that loses no call takes effect, or memory ran out.
data IsAnswered (old : Objects) (call : Asked) (told : Told) (new : Objects) : Type 0 where
  memory : told ≡ told_memory → new ≡ old → IsAnswered old call told new
  effect : told ≡ told_by_call old call → new ≡ left_by_call old call → IsAnswered old call told new

answered : (old new : State) (call : Asked) (told : Told) → Answers old call told new → IsAnswered old.0 call told new.0
answered old new list_names (told_names names) is = effect (ap told_names is.0) is.1.0
answered old new list_names told_memory is = memory refl is.0
answered old new list_names (told_object found) is = absurd is
answered old new list_names (told_put put) is = absurd is
answered old new list_names told_lost is = absurd is
answered old new (get_object name) (told_object found) is = effect (ap told_object is.0) is.1.0
answered old new (get_object name) told_memory is = memory refl is.0
answered old new (get_object name) (told_names names) is = absurd is
answered old new (get_object name) (told_put put) is = absurd is
answered old new (get_object name) told_lost is = absurd is
answered old new (put_file name bytes) (told_put put) is = effect (ap told_put is.0) is.1.0
answered old new (put_file name bytes) told_memory is = memory refl is.0
answered old new (put_file name bytes) (told_names names) is = absurd is
answered old new (put_file name bytes) (told_object found) is = absurd is
answered old new (put_file name bytes) told_lost is = absurd is
answered old new (put_commit version bytes) (told_put put) is = effect (ap told_put is.0) is.1.0
answered old new (put_commit version bytes) told_memory is = memory refl is.0
answered old new (put_commit version bytes) (told_names names) is = absurd is
answered old new (put_commit version bytes) (told_object found) is = absurd is
answered old new (put_commit version bytes) told_lost is = absurd is

-- memory ran out in a call
short_met : (how : How) → IsMetIn how short → (call : Asked) (told : Told) (old new : Objects) (flight later : Flight) → told ≡ told_memory → new ≡ old → later ≡ flight → CallMeets how call told old flight new later
short_met how is call told old new flight later told_so left in_flight = record { met = short; is = is; told_so = told_so; left = left; in_flight = in_flight }

-- a call takes effect
pub once_met : (call : Asked) (told : Told) (old new : State) (flight : Flight) → Answers old call told new → CallMeets once call told old.0 flight new.0 flight
once_met call told old new flight is = by_cases (answered old new call told is)
  where
    by_cases : IsAnswered old.0 call told new.0 → CallMeets once call told old.0 flight new.0 flight
    by_cases (memory told_so left) = short_met once (inr refl) call told old.0 new.0 flight flight told_so left refl
    by_cases (effect told_so left) = record { met = once; is = inl refl; told_so = told_so; left = left; in_flight = refl }

-- the second of two calls is told that the name stands, if it is a put, and changes nothing
put_again : (objects : Objects) (name bytes : List ℕ) → put_told (object_at (with_object objects name bytes) name) ≡ Exists
put_again objects name bytes = ap put_told (object_at-with_object_same objects name bytes)

kept_again : (objects : Objects) (name bytes : List ℕ) → with_object (with_object objects name bytes) name bytes ≡ with_object objects name bytes
kept_again objects name bytes = with_object_stands (with_object objects name bytes) name bytes (ap is_some (object_at-with_object_same objects name bytes))

told_again : (objects : Objects) (call : Asked) → again (told_by_call objects call) ≡ told_by_call (left_by_call objects call) call
told_again objects list_names = refl
told_again objects (get_object name) = refl
told_again objects (put_file name bytes) = sym (ap told_put (put_again objects name bytes))
told_again objects (put_commit version bytes) = sym (ap told_put (put_again objects (commit_name version) bytes))

left_again : (objects : Objects) (call : Asked) → left_by_call (left_by_call objects call) call ≡ left_by_call objects call
left_again objects list_names = refl
left_again objects (get_object name) = refl
left_again objects (put_file name bytes) = kept_again objects name bytes
left_again objects (put_commit version bytes) = kept_again objects (commit_name version) bytes

pub twice_met : (call : Asked) (told second : Told) (old new : State) (flight : Flight) → Answers old call told new → second ≡ again told → CallMeets twice call second old.0 flight new.0 flight
twice_met call told second old new flight is second_is = by_cases (answered old new call told is)
  where
    by_cases : IsAnswered old.0 call told new.0 → CallMeets twice call second old.0 flight new.0 flight
    by_cases (memory told_so left) = short_met twice (inr refl) call second old.0 new.0 flight flight (second_is ∙ ap again told_so) left refl
    by_cases (effect told_so left) =
        record { met = twice; is = inl refl; told_so = second_is ∙ (ap again told_so ∙ told_again old.0 call); left = left ∙ sym (left_again old.0 call); in_flight = refl }

-- ---- puts in flight

pub commit_sent : (version : ℕ) (name bytes : List ℕ) (answer : Result Put StoreFault) (told : Told) (old new : Flight) → name ≡ commit_name version → told ≡ sent_told answer → SendsLate name bytes answer old new
    → IsSentCall (put_commit version bytes) told old new
commit_sent version name bytes answer told old new named told_so is = subst (λ (t : Told). IsSentCall (put_commit version bytes) t old new) (sym told_so) (by_answer answer is)
  where
    by_answer : (a : Result Put StoreFault) → SendsLate name bytes a old new → IsSentCall (put_commit version bytes) (sent_told a) old new
    by_answer (Ok put) so = absurd so
    by_answer (Err Lost) so = so ∙ ap (λ (n : List ℕ). old ++ (n, bytes) ∷ []) named
    by_answer (Err Memory) so = so
