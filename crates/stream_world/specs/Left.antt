-- How many calls an actor's session still makes, and what it has at hand.
use Rattle.std.specs.Prelude.{ℕ, Bool, true, false, Option, None, Some}
use Rattle.table_jobs.specs.Sessions.{session_calls_left}
use Rattle.stream_world.specs.declared.actor.Actor.{Actor}
use Rattle.stream_world.specs.declared.actor.Hand.{Hand}
use Rattle.stream_world.specs.declared.actor.Hand.TheVariants.{Fresh, Asks, Waits}

-- how many calls the session of an actor still makes at most
abbrev pub calls_left : Option Actor → ℕ
calls_left None = 0
calls_left (Some actor) = session_calls_left actor.session

-- the session asks for a call
abbrev pub asks_hand : Hand → Bool
asks_hand (Asks request) = true
asks_hand hand = false

abbrev pub asks_call : Option Actor → Bool
asks_call None = false
asks_call (Some actor) = asks_hand actor.hand

-- the session makes a step where it goes on: its first one, or by the answer that waits
abbrev pub takes_hand : (is_lost : Bool) → Hand → Bool
takes_hand is_lost (Waits reply) = true
takes_hand false Fresh = true
takes_hand is_lost hand = false

abbrev pub takes_step : (is_lost : Bool) → Option Actor → Bool
takes_step is_lost None = false
takes_step is_lost (Some actor) = takes_hand is_lost actor.hand
