-- What a session has at hand in the code.
use Rattle.std.specs.Prelude.{Bool, Option, None, Some, true, false}
use Rattle.session_core.specs.Talks.{Kind, Told, asked_view, getting, kind_of, listing, putting, told_lost, told_memory, told_names, told_object, told_put, told_view}
use Rattle.stream_world.specs.declared.actor.Hand.{Hand}
use Rattle.stream_world.specs.declared.actor.Hand.TheVariants.{Fresh, Asks, Waits}

-- calls of one kind
abbrev pub is_kind : Kind → Kind → Bool
is_kind listing listing = true
is_kind getting getting = true
is_kind putting putting = true
is_kind kind other = false

-- an answer to a call of this kind
abbrev pub is_answer_of : Kind → Told → Bool
is_answer_of kind told_lost = true
is_answer_of kind told_memory = true
is_answer_of listing (told_names names) = true
is_answer_of getting (told_object found) = true
is_answer_of putting (told_put put) = true
is_answer_of kind told = false

-- a session that waits for an answer of this kind may have this at hand
abbrev pub is_at_hand : (awaited : Option Kind) → Hand → Bool
is_at_hand None Fresh = true
is_at_hand (Some kind) (Asks request) = is_kind kind (kind_of (asked_view request))
is_at_hand (Some kind) (Waits reply) = is_answer_of kind (told_view reply)
is_at_hand awaited hand = false
