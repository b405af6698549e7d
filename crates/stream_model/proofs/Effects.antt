-- An event that fits a world has its effect, and another one changes nothing.
use Rattle.std.proofs.Common.{◌≡◌, ◌==◌, ℕ, [], Option, Some, None, true, inl, inr, refl, arith}
use Rattle.std.proofs.lemmas.Bool.Decides.{nat_tests}
use Rattle.store_core.specs.ObjectLaws.{object_at-with_object_same}
use Rattle.store_core.specs.Objects.{Objects}
use Rattle.session_core.specs.Talks.{Asked, Talk}
use Rattle.session_laws.specs.Jobs.{Job, Outcome}
use Rattle.stream_model.specs.Effects.{HasEffect, HasStepped, IsAnswered}
use Rattle.stream_model.specs.Events.{Event, FitsWorld, Happens, ComesToTalk, acts, begins, begins_now, dies, ends, goes_on, lands, loses, nothing_happens, takes}
use Rattle.stream_model.specs.Worlds.{Actor, Hand, How, World, asking, ended, late, lost, once, short, told_how, twice, with_actor}

-- the actor of a number that was changed
actor_there : (w : World) (name : ℕ) (found : Option Actor) → (with_actor w name found).actors name ≡ found
actor_there w name found = let same : (name == name) ≡ true = grind (arith, nat_tests) in rw same refl

-- by an event of its own a session goes on
gone_on : (w : World) (event : Event) (name : ℕ) (actor : Actor) (now : Talk) (hand : Hand) → HasStepped hand → ComesToTalk w event name actor now
    → HasEffect w event (with_actor w name (Some (record actor { talk = now; hand = hand })))
gone_on w _ _ _ _ hand stepped (begins_now name actor has is) =
    record { actor = actor; now = []; taken = begins_now name actor has is; hand = hand; stepped = stepped; there = actor_there w name _; objects = refl; flight = refl }
gone_on w _ _ _ _ hand stepped (takes name actor call told has is) =
    record { actor = actor; now = _; taken = takes name actor call told has is; hand = hand; stepped = stepped; there = actor_there w name _; objects = refl; flight = refl }
gone_on w _ _ _ _ hand stepped (loses name actor call told has is) =
    record { actor = actor; now = _; taken = loses name actor call told has is; hand = hand; stepped = stepped; there = actor_there w name _; objects = refl; flight = refl }

-- such an event fits
taken_fits : (w : World) (event : Event) (name : ℕ) (actor : Actor) (now : Talk) → ComesToTalk w event name actor now → FitsWorld w event
taken_fits w _ _ _ _ (begins_now name actor has is) = (actor, has, inl is)
taken_fits w _ _ _ _ (takes name actor call told has is) = (actor, has, inr (call, told, is))
taken_fits w _ _ _ _ (loses name actor call told has is) = (actor, call, told, has, is)

-- a call is answered as it was to be
is_answered : (how : How) (objects : Objects) (call : Asked) → IsAnswered how objects call (told_how how objects call)
is_answered once objects call = refl
is_answered twice objects call = refl
is_answered late objects call = refl
is_answered lost objects call = refl
is_answered short objects call = refl

pub has_effect : (w later : World) (event : Event) (told : Option (Job × Outcome)) → Happens w event told later → FitsWorld w event → HasEffect w event later
has_effect w _ _ _ (begins name job begun before can same borne) fits = record { begun = begun; before = before; same = same; borne = borne; there = actor_there w name _ }
has_effect w _ _ _ (dies name) fits = actor_there w name None
has_effect w _ _ _ (acts name how actor call has is) fits =
    record { actor = actor; call = call; told = told_how how w.objects call; was = has; asks = is; answered = is_answered how w.objects call; waits = actor_there w name _; acts = refl }
has_effect w _ event _ (goes_on _ name actor now call taken does bytes) fits = gone_on w event name actor now (asking call) tt taken
has_effect w _ event _ (ends _ name actor now outcome taken does) fits = gone_on w event name actor now (ended outcome) tt taken
has_effect w _ _ _ (lands place put is) fits = (put, is, object_at-with_object_same w.objects put.0 put.1, refl)
has_effect w _ _ _ (nothing_happens event unfit) fits = absurd (unfit fits)

pub has_none : (w later : World) (event : Event) (told : Option (Job × Outcome)) → Happens w event told later → (FitsWorld w event → ⊥) → (later ≡ w) × (told ≡ None)
has_none w _ _ _ (begins name job begun before can same borne) unfit = absurd (unfit can)
has_none w _ _ _ (dies name) unfit = absurd (unfit tt)
has_none w _ _ _ (acts name how actor call has is) unfit = absurd (unfit (actor, call, has, is))
has_none w _ event _ (goes_on _ name actor now call taken does bytes) unfit = absurd (unfit (taken_fits w event name actor now taken))
has_none w _ event _ (ends _ name actor now outcome taken does) unfit = absurd (unfit (taken_fits w event name actor now taken))
has_none w _ _ _ (lands place put is) unfit = absurd (unfit (put, is))
has_none w _ _ _ (nothing_happens event never) unfit = (refl, refl)
