-- What comes next for an actor of the code is what comes next for it in a world.
use Rattle.std.proofs.Common.{◌≡◌, ◌∙◌, ℕ, Bool, true, false, Option, Some, None, option_map, refl, sym, ap}
use Rattle.session_core.specs.Talks.{Asked, Talk, Told, asked_view, told_view}
use Rattle.session_core.specs.declared.asking.Reply.{Reply}
use Rattle.session_core.specs.declared.asking.Reply.TheVariants as replies
use Rattle.session_core.specs.declared.asking.Request.{Request}
use Rattle.session_core.specs.declared.asking.Request.TheVariants as requests
use Rattle.store_core.specs.Objects.{Objects}
use Rattle.stream_world.specs.Worlds.{Actor, Hand, World, asking, ended, fresh, waiting}
use Rattle.stream_world.specs.Left.{asks_call, asks_hand, takes_hand, takes_step}
use Rattle.stream_world.specs.Standing.{HandStands, HasEnded, SlotStands, WorldStands, slot_at}
use Rattle.stream_world.specs.declared.actor.Actor as code
use Rattle.stream_world.specs.declared.actor.Hand as code_hand
use Rattle.stream_world.specs.declared.actor.Hand.TheVariants as hands
use Rattle.stream_world.specs.declared.world.World as code_world
use Rattle.world_script.specs.Acting.{hand_at, is_commit_put, is_memory, next_at}
use Rattle.world_script.specs.Slots.{next_by, next_in, puts_commit, short_in, waits_short}
use Rattle.world_script.specs.declared.acting.Next.TheVariants as nexts

commit_so : (request : Request) → is_commit_put (asked_view request) ≡ puts_commit request
commit_so requests.List = refl
commit_so (requests.Get name) = refl
commit_so (requests.PutFile name bytes) = refl
commit_so (requests.PutCommit version bytes) = refl

hand_next : (hand : code_hand.Hand) (talk : Talk) (plain : Hand) → HandStands hand talk plain → next_at (Some plain) ≡ next_by hand
hand_next hands.Fresh talk fresh stands = refl
hand_next hands.Fresh talk (asking call) stands = absurd stands
hand_next hands.Fresh talk (waiting call told) stands = absurd stands
hand_next hands.Fresh talk (ended outcome) stands = absurd stands
hand_next (hands.Asks request) talk (asking call) stands = ap (λ (c : Asked). nexts.Call (is_commit_put c)) (sym stands) ∙ ap nexts.Call (commit_so request)
hand_next (hands.Asks request) talk fresh stands = absurd stands
hand_next (hands.Asks request) talk (waiting call told) stands = absurd stands
hand_next (hands.Asks request) talk (ended outcome) stands = absurd stands
hand_next (hands.Waits reply) talk (waiting call told) stands = refl
hand_next (hands.Waits reply) talk fresh stands = absurd stands
hand_next (hands.Waits reply) talk (asking call) stands = absurd stands
hand_next (hands.Waits reply) talk (ended outcome) stands = absurd stands

ended_next : (hand : Hand) → HasEnded hand → next_at (Some hand) ≡ nexts.Nothing
ended_next (ended outcome) is = refl
ended_next fresh is = absurd is
ended_next (asking call) is = absurd is
ended_next (waiting call told) is = absurd is

slot_next : (slot : Option code.Actor) (plain : Option Actor) → SlotStands slot plain → next_at (option_map (λ (a : Actor). a.hand) plain) ≡ next_in slot
slot_next (Some actor) (Some plain) stands = hand_next actor.hand plain.talk plain.hand stands.hand
slot_next (Some actor) None stands = absurd stands
slot_next None (Some plain) stands = ended_next plain.hand stands
slot_next None None stands = refl

module _ {S : Type 0} (stored : S → Objects) (world : code_world.World S) (n : ℕ) where
  pub next_stands : (w : World) → WorldStands stored world w → next_at (hand_at w n) ≡ next_in (slot_at world n)
  next_stands w stands = slot_next (slot_at world n) (w.actors n) (stands.actors n)

-- a call is asked for where one comes next, and a step is made where one does
by_hand_call : (hand : code_hand.Hand) (c : Bool) → next_by hand ≡ nexts.Call c → asks_hand hand ≡ true
by_hand_call (hands.Asks request) c is = refl
by_hand_call hands.Fresh c is = cc
by_hand_call (hands.Waits reply) c is = cc

pub call_asks : (slot : Option code.Actor) (c : Bool) → next_in slot ≡ nexts.Call c → asks_call slot ≡ true
call_asks None c is = cc
call_asks (Some actor) c is = by_hand_call actor.hand c is

by_hand_step : (hand : code_hand.Hand) → next_by hand ≡ nexts.Step → takes_hand false hand ≡ true
by_hand_step hands.Fresh is = refl
by_hand_step (hands.Waits reply) is = refl
by_hand_step (hands.Asks request) is = cc

pub step_takes : (slot : Option code.Actor) → next_in slot ≡ nexts.Step → takes_step false slot ≡ true
step_takes None is = cc
step_takes (Some actor) is = by_hand_step actor.hand is

-- that memory ran out waits in the code where it waits in a world
memory_so : (reply : Reply) → is_memory (told_view reply) ≡ waits_short (hands.Waits reply)
memory_so (replies.Names names) = refl
memory_so (replies.Object found) = refl
memory_so (replies.Put put) = refl
memory_so replies.Lost = refl
memory_so replies.Memory = refl

hand_short : (hand : code_hand.Hand) (talk : Talk) (plain : Hand) (call : Asked) (told : Told) → HandStands hand talk plain → plain ≡ waiting call told → waits_short hand ≡ is_memory told
hand_short (hands.Waits reply) talk (waiting call told) call2 told2 stands is =
    let same : told ≡ told2 = cc in
    sym (memory_so reply) ∙ ap is_memory (stands ∙ same)
hand_short hands.Fresh talk fresh call told stands is = cc
hand_short (hands.Asks request) talk (asking other) call told stands is = cc
hand_short hands.Fresh talk (asking other) call told stands is = absurd stands
hand_short hands.Fresh talk (waiting other one) call told stands is = absurd stands
hand_short hands.Fresh talk (ended outcome) call told stands is = absurd stands
hand_short (hands.Asks request) talk fresh call told stands is = absurd stands
hand_short (hands.Asks request) talk (waiting other one) call told stands is = absurd stands
hand_short (hands.Asks request) talk (ended outcome) call told stands is = absurd stands
hand_short (hands.Waits reply) talk fresh call told stands is = absurd stands
hand_short (hands.Waits reply) talk (asking other) call told stands is = absurd stands
hand_short (hands.Waits reply) talk (ended outcome) call told stands is = absurd stands

slot_short : (slot : Option code.Actor) (plain : Option Actor) (call : Asked) (told : Told) → SlotStands slot plain → option_map (λ (a : Actor). a.hand) plain ≡ Some (waiting call told) → short_in slot ≡ is_memory told
slot_short (Some actor) (Some plain) call told stands is = let same : plain.hand ≡ waiting call told = cc in hand_short actor.hand plain.talk plain.hand call told stands.hand same
slot_short (Some actor) None call told stands is = absurd stands
slot_short None (Some plain) call told stands is = by_ended plain.hand stands (let same : plain.hand ≡ waiting call told = cc in same)
  where
    by_ended : (hand : Hand) → HasEnded hand → hand ≡ waiting call told → false ≡ is_memory told
    by_ended (ended outcome) ends same = cc
    by_ended fresh ends same = absurd ends
    by_ended (asking other) ends same = absurd ends
    by_ended (waiting other one) ends same = absurd ends
slot_short None None call told stands is = cc

pub short_stands : {S : Type 0} (stored : S → Objects) (world : code_world.World S) (n : ℕ) (w : World) → WorldStands stored world w → (call : Asked) (told : Told) → hand_at w n ≡ Some (waiting call told)
    → short_in (slot_at world n) ≡ is_memory told
short_stands stored world n w stands call told is = slot_short (slot_at world n) (w.actors n) call told (stands.actors n) is
