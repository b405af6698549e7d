-- What was asked of a store and told, in order: the talk of a session.
use Rattle.std.specs.Prelude.{◌≡◌, ℕ, List, [], ◌∷◌, ◌++◌, Bool, true, false, Option, Some, None, IsSome, option_map, Contains, string_bytes}
use Rattle.std.specs.List.{list_any}
use Rattle.store_core.specs.Calls.{HasRisen, StandsAfter}
use Rattle.store_core.specs.Listed.{listed}
use Rattle.store_core.specs.Objects.{Objects, object_at}
use Rattle.store_core.specs.declared.fault.StoreFault.{StoreFault}
use Rattle.store_core.specs.declared.fault.StoreFault.TheVariants as faults
use Rattle.store_core.specs.declared.store.Put.{Put}
use Rattle.store_core.specs.Names.{commit_name}
use Rattle.session_core.specs.declared.asking.Reply.{Reply}
use Rattle.session_core.specs.declared.asking.Reply.TheVariants as replies
use Rattle.session_core.specs.declared.asking.Request.{Request}
use Rattle.session_core.specs.declared.asking.Request.TheVariants as requests

-- what is asked of a store, without where it lies in memory
pub data Asked : Type 0 where
  list_names : Asked
  get_object : (name : List ℕ) → Asked
  put_file : (name bytes : List ℕ) → Asked
  put_commit : (version : ℕ) (bytes : List ℕ) → Asked

-- what is told: all names that stand, the bytes under a name, how a put went, that the call was lost, or that memory ran out
pub data Told : Type 0 where
  told_names : (names : List (List ℕ)) → Told
  told_object : (found : Option (List ℕ)) → Told
  told_put : (put : Put) → Told
  told_lost : Told
  told_memory : Told

abbrev pub asked_view : Request → Asked
asked_view requests.List = list_names
asked_view (requests.Get name) = get_object (string_bytes name)
asked_view (requests.PutFile name bytes) = put_file (string_bytes name) bytes.items
asked_view (requests.PutCommit version bytes) = put_commit version bytes.items

-- the answer that stands for a call that has none
abbrev pub fault_reply : StoreFault → Reply
fault_reply faults.Lost = replies.Lost
fault_reply faults.Memory = replies.Memory

abbrev pub told_view : Reply → Told
told_view (replies.Names names) = told_names (listed names)
told_view (replies.Object found) = told_object (option_map (λ bytes. bytes.items) found)
told_view (replies.Put put) = told_put put
told_view replies.Lost = told_lost
told_view replies.Memory = told_memory

-- the calls of a session so far, each with what was told
abbrev pub Talk : Type 0
Talk = List (Asked × Told)

-- ---- which answers fit a call

-- the kinds of calls, each with answers of its own
pub data Kind : Type 0 where
  listing : Kind
  getting : Kind
  putting : Kind

abbrev pub kind_of : Asked → Kind
kind_of list_names = listing
kind_of (get_object name) = getting
kind_of (put_file name bytes) = putting
kind_of (put_commit version bytes) = putting

-- an answer of that kind; every call may be lost, and memory may run out in it
abbrev pub IsAnswerOf : Kind → Told → Type 0
IsAnswerOf kind told_lost = Unit {0}
IsAnswerOf kind told_memory = Unit {0}
IsAnswerOf listing (told_names names) = Unit {0}
IsAnswerOf getting (told_object found) = Unit {0}
IsAnswerOf putting (told_put put) = Unit {0}
IsAnswerOf kind told = ⊥

-- an answer where a call of this kind waits for one, and none before the first call
abbrev pub IsReplyTo : Option Kind → Option Told → Type 0
IsReplyTo None None = Unit {0}
IsReplyTo (Some kind) (Some told) = IsAnswerOf kind told
IsReplyTo awaited told = ⊥

-- the talk with one more call and its answer, where one was waited for
abbrev pub heard : Talk → Option Asked → Option Told → Talk
heard talk (Some asked) (Some told) = talk ++ (asked, told) ∷ []
heard talk asked told = talk

-- ---- what a talk says of a store

-- What an answer says that stands: each name listed, each object got, with its bytes, each object that a put created, with
-- the bytes put, and each name that a put found taken. It stays true of a store that grows. Nothing is said by a call that
-- was lost, nor by an object that wasn't there.
abbrev pub IsBorne : Objects → Asked → Told → Type 0
IsBorne objects list_names (told_names names) = (name : List ℕ) → Contains names name → IsSome (object_at objects name)
IsBorne objects (get_object name) (told_object (Some bytes)) = object_at objects name ≡ Some bytes
IsBorne objects (put_file name bytes) (told_put put) = StandsAfter put bytes (object_at objects name)
IsBorne objects (put_commit version bytes) (told_put put) = StandsAfter put bytes (object_at objects (commit_name version))
IsBorne objects asked told = Unit {0}

-- the objects bear a talk where they bear each of its answers
abbrev pub Bears : Objects → Talk → Type 0
Bears objects [] = Unit {0}
Bears objects (call ∷ talk) = IsBorne objects call.0 call.1 × Bears objects talk

-- ---- calls that were lost

abbrev pub is_lost : Told → Bool
is_lost told_lost = true
is_lost told = false

-- the count of faults rises where the call was lost, and nowhere else
abbrev pub CountsTold : Told → ℕ → ℕ → Type 0
CountsTold told_lost old new = HasRisen old new
CountsTold told old new = new ≡ old

-- a call of the talk was lost
abbrev pub has_lost : Talk → Bool
has_lost talk = list_any (λ call. is_lost call.1) talk

-- the count of faults over a talk: it rose where a call was lost, and is what it was where none was
abbrev pub CountsTalk : Talk → ℕ → ℕ → Type 0
CountsTalk talk old new = (has_lost talk ≡ true → HasRisen old new) × (has_lost talk ≡ false → new ≡ old)
