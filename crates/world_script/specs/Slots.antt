-- What comes next for an actor, as the code keeps it.
use Rattle.std.specs.Prelude.{Bool, true, false, Option, None, Some}
use Rattle.session_core.specs.declared.asking.Reply.TheVariants as replies
use Rattle.session_core.specs.declared.asking.Request.{Request}
use Rattle.session_core.specs.declared.asking.Request.TheVariants as requests
use Rattle.stream_world.specs.declared.actor.Actor.{Actor}
use Rattle.stream_world.specs.declared.actor.Hand.{Hand}
use Rattle.stream_world.specs.declared.actor.Hand.TheVariants as hands
use Rattle.world_script.specs.declared.acting.Next.{Next}
use Rattle.world_script.specs.declared.acting.Next.TheVariants as nexts

abbrev pub puts_commit : Request → Bool
puts_commit (requests.PutCommit version bytes) = true
puts_commit request = false

abbrev pub next_by : Hand → Next
next_by hands.Fresh = nexts.Step
next_by (hands.Asks request) = nexts.Call (puts_commit request)
next_by (hands.Waits reply) = nexts.Step

-- what comes next for an actor of the code
abbrev pub next_in : Option Actor → Next
next_in None = nexts.Nothing
next_in (Some actor) = next_by actor.hand

-- that memory ran out is the answer that waits
abbrev pub waits_short : Hand → Bool
waits_short (hands.Waits replies.Memory) = true
waits_short hand = false

abbrev pub short_in : Option Actor → Bool
short_in None = false
short_in (Some actor) = waits_short actor.hand
