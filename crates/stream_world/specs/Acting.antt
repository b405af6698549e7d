-- What an actor's session is told next, and where it goes.
use Rattle.std.specs.Prelude.{◌≡◌, Bool, true, false, Option, None, Some, Result, Ok, Err, option_map}
use Rattle.session_core.specs.Sessions.{hears_lost}
use Rattle.session_core.specs.Talks.{Asked, Talk, asked_view, heard, told_view}
use Rattle.session_core.specs.declared.asking.Reply as code_reply
use Rattle.session_core.specs.declared.asking.Reply.TheVariants as replies
use Rattle.table_jobs.specs.Jobs.{Asks, Ends, is_lost_outcome}
use Rattle.stream_model.specs.Events.{IsOfBytes}
use Rattle.table_jobs.specs.Sessions.{SessionFits, job_of, end_view}
use Rattle.stream_world.specs.declared.actor.Actor.{Actor}
use Rattle.stream_world.specs.declared.actor.Hand.{Hand}
use Rattle.stream_world.specs.declared.actor.Hand.TheVariants as hands
use Rattle.table_jobs.specs.declared.job_session.JobEnd as code_end
use Rattle.table_jobs.specs.declared.job_session.JobSession.{JobSession}

-- what is told next: the answer that waits, or that the call was lost; nothing before the first step
abbrev pub HasNext : Hand → (is_lost : Bool) → Result (Option code_reply.Reply) Hand → Type 0
HasNext (hands.Waits reply) true next = next ≡ Ok (Some replies.Lost)
HasNext (hands.Waits reply) false next = next ≡ Ok (Some reply)
HasNext hands.Fresh false next = next ≡ Ok None
HasNext hand is_lost next = next ≡ Err hand

-- Behind each talk that it may have had, behind another by which something was known, and what it is told now, it asks for a call that its job asks for then, where no call was just lost.
abbrev pub AsksNext : JobSession → Option code_reply.Reply → (later : JobSession) → Hand → Type 0
AsksNext session reply later (hands.Asks request) =
    ((before talk : Talk) (asked : Option Asked) → SessionFits before session talk asked
    → SessionFits before later (heard talk asked (option_map told_view reply)) (Some (asked_view request)) × Asks (job_of session) before (heard talk asked (option_map told_view reply)) (asked_view request))
    × (hears_lost (option_map told_view reply) ≡ false) × IsOfBytes (asked_view request)
AsksNext session reply later hand = ⊥

-- Behind it, it tells what its job tells then; that a call was lost just where one was.
abbrev pub TellsNext : JobSession → Option code_reply.Reply → code_end.JobEnd → Type 0
TellsNext session reply outcome =
    ((before talk : Talk) (asked : Option Asked) → SessionFits before session talk asked → Ends (job_of session) before (heard talk asked (option_map told_view reply)) (end_view outcome))
    × (is_lost_outcome (end_view outcome) ≡ hears_lost (option_map told_view reply))

-- A session that was told this asks for a call that its job asks for then, or tells what its job tells then.
abbrev pub GoesOnAs : JobSession → Option code_reply.Reply → Option code_end.JobEnd → Option Actor → Type 0
GoesOnAs session reply None (Some actor) = (job_of actor.session ≡ job_of session) × AsksNext session reply actor.session actor.hand
GoesOnAs session reply (Some outcome) None = TellsNext session reply outcome
GoesOnAs session reply outcome slot = ⊥
