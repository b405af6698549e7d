-- What is told of a call that takes effect again, or goes in flight.
use Rattle.std.specs.Prelude.{◌≡◌, ◌++◌, Bool, true, false, Result, Ok, Err}
use Rattle.store_core.specs.Calls.{Flight}
use Rattle.store_core.specs.declared.fault.StoreFault.{StoreFault}
use Rattle.store_core.specs.declared.fault.StoreFault.TheVariants.{Lost, Memory}
use Rattle.store_core.specs.declared.store.Put.{Put}
use Rattle.store_core.specs.declared.store.Put.TheVariants.{Exists}
use Rattle.session_core.specs.Talks.{Asked, Told, told_lost, told_memory, told_put}
use Rattle.stream_model.specs.Worlds.{How, sent, short}

-- what is told of a call that takes effect once more, where this was told of it before
abbrev pub again : Told → Told
again (told_put put) = told_put Exists
again told = told

-- what is told of a put that was to go in flight
abbrev pub sent_told : Result Put StoreFault → Told
sent_told (Ok put) = told_put put
sent_told (Err Lost) = told_lost
sent_told (Err Memory) = told_memory

-- A call is lost, and its put goes in flight, if it is one; or memory runs out, and it doesn't.
abbrev pub IsSentCall : Asked → Told → (old new : Flight) → Type 0
IsSentCall asked told_lost old new = new ≡ old ++ sent asked
IsSentCall asked told_memory old new = new ≡ old
IsSentCall asked told old new = ⊥

-- that memory ran out is told of a call which was to be answered otherwise
abbrev pub is_told_out : (how : How) → Told → Bool
is_told_out short told = false
is_told_out how told_memory = true
is_told_out how told = false
