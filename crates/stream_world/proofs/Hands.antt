-- What a session has at hand fits the call that it waits for.
use Rattle.std.proofs.Common.{◌≡◌, Bool, true, false, Option, Some, None, Ok, Err, option_map, refl, sym, subst}
use Rattle.session_core.specs.Talks.{IsAnswerOf, IsReplyTo, Kind, Told, asked_view, getting, kind_of, listing, putting, told_lost, told_memory, told_names, told_object, told_put, told_view}
use Rattle.session_core.specs.declared.asking.Reply.{Reply}
use Rattle.session_core.specs.declared.asking.Reply.TheVariants as replies
use Rattle.session_core.specs.declared.asking.Request.{Request}
use Rattle.stream_world.specs.Acting.{HasNext}
use Rattle.stream_world.specs.Hands.{is_answer_of, is_at_hand, is_kind}
use Rattle.stream_world.specs.Left.{takes_hand}
use Rattle.stream_world.specs.declared.actor.Hand.{Hand}
use Rattle.stream_world.specs.declared.actor.Hand.TheVariants.{Fresh, Asks, Waits}

same_kind : (kind : Kind) → is_kind kind kind ≡ true
same_kind listing = refl
same_kind getting = refl
same_kind putting = refl

kind_is : (kind other : Kind) → is_kind kind other ≡ true → kind ≡ other
kind_is listing listing is = refl
kind_is getting getting is = refl
kind_is putting putting is = refl
kind_is kind other is = absurd cc

-- an answer of a kind, as a test and as a fact
answers : (kind : Kind) (told : Told) → IsAnswerOf kind told → is_answer_of kind told ≡ true
answers listing told_lost is = refl
answers listing told_memory is = refl
answers listing (told_names names) is = refl
answers listing (told_object found) is = absurd is
answers listing (told_put put) is = absurd is
answers getting told_lost is = refl
answers getting told_memory is = refl
answers getting (told_names names) is = absurd is
answers getting (told_object found) is = refl
answers getting (told_put put) is = absurd is
answers putting told_lost is = refl
answers putting told_memory is = refl
answers putting (told_names names) is = absurd is
answers putting (told_object found) is = absurd is
answers putting (told_put put) is = refl

answers_so : (kind : Kind) (told : Told) → is_answer_of kind told ≡ true → IsAnswerOf kind told
answers_so listing told_lost is = tt
answers_so listing told_memory is = tt
answers_so listing (told_names names) is = tt
answers_so listing (told_object found) is = absurd cc
answers_so listing (told_put put) is = absurd cc
answers_so getting told_lost is = tt
answers_so getting told_memory is = tt
answers_so getting (told_names names) is = absurd cc
answers_so getting (told_object found) is = tt
answers_so getting (told_put put) is = absurd cc
answers_so putting told_lost is = tt
answers_so putting told_memory is = tt
answers_so putting (told_names names) is = absurd cc
answers_so putting (told_object found) is = absurd cc
answers_so putting (told_put put) is = tt

lost_answers : (kind : Kind) → IsAnswerOf kind told_lost
lost_answers listing = tt
lost_answers getting = tt
lost_answers putting = tt

-- a session that asks for a call has it at hand
pub ready_asks : (awaited : Option Kind) (request : Request) → awaited ≡ Some (kind_of (asked_view request)) → is_at_hand awaited (Asks request) ≡ true
ready_asks awaited request is = subst (λ (k : Option Kind). is_at_hand k (Asks request) ≡ true) (sym is) (same_kind (kind_of (asked_view request)))

-- and then the answer to it
pub ready_waits : (awaited : Option Kind) (request : Request) (reply : Reply) → is_at_hand awaited (Asks request) ≡ true → IsAnswerOf (kind_of (asked_view request)) (told_view reply) → is_at_hand awaited (Waits reply) ≡ true
ready_waits None request reply is answer = absurd cc
ready_waits (Some kind) request reply is answer =
    answers kind (told_view reply) (subst (λ (k : Kind). IsAnswerOf k (told_view reply)) (sym (kind_is kind (kind_of (asked_view request)) is)) answer)

-- what it is told next is an answer that it waits for
pub next_answers : (awaited : Option Kind) (hand : Hand) (is_lost : Bool) (reply : Option Reply) → is_at_hand awaited hand ≡ true → HasNext hand is_lost (Ok reply) → IsReplyTo awaited (option_map told_view reply)
next_answers None Fresh false reply is next = let e : reply ≡ None = cc in subst (λ (r : Option Reply). IsReplyTo None (option_map told_view r)) (sym e) tt
next_answers None Fresh true reply is next = absurd cc
next_answers None (Asks request) is_lost reply is next = absurd cc
next_answers None (Waits waits) is_lost reply is next = absurd cc
next_answers (Some kind) Fresh is_lost reply is next = absurd cc
next_answers (Some kind) (Asks request) is_lost reply is next = absurd cc
next_answers (Some kind) (Waits waits) true reply is next =
    let e : reply ≡ Some replies.Lost = cc in subst (λ (r : Option Reply). IsReplyTo (Some kind) (option_map told_view r)) (sym e) (lost_answers kind)
next_answers (Some kind) (Waits waits) false reply is next =
    let e : reply ≡ Some waits = cc in subst (λ (r : Option Reply). IsReplyTo (Some kind) (option_map told_view r)) (sym e) (answers_so kind (told_view waits) is)

-- a session that is told nothing makes no step
pub no_step : (hand later : Hand) (is_lost : Bool) → HasNext hand is_lost (Err later) → takes_hand is_lost hand ≡ true → ⊥
no_step (Waits reply) later true next takes = cc
no_step (Waits reply) later false next takes = cc
no_step Fresh later false next takes = cc
no_step Fresh later true next takes = cc
no_step (Asks request) later true next takes = cc
no_step (Asks request) later false next takes = cc
