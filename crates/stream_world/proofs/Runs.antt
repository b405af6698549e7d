-- Lists of events of the code, as lists of events of a world.
use Rattle.std.proofs.Common.{◌≡◌, ◌∙◌, ◌||◌, Bool, true, false, List, [], ◌∷◌, ◌++◌, Option, map, ap, inl, inr, refl, sym, subst}
use Rattle.std.proofs.lemmas.List.{map-append}
use Rattle.store_core.specs.Objects.{Objects}
use Rattle.table_jobs.specs.Jobs.{Job, Outcome}
use Rattle.stream_model.specs.Events.{Event, Ran, act, answer, begin, die, land, lose_answer}
use Rattle.stream_model.specs.Events as events
use Rattle.stream_model.specs.Worlds.{How, World, first_world, late, lost, once, short, twice}
use Rattle.stream_world.specs.EventViews.{IsMetAs, IsMetIn, event_view, ran_out, ran_out_of}
use Rattle.stream_world.specs.Running.{AreRun, HasRun, at_first, then_one}
use Rattle.stream_world.specs.Standing.{HasHappened, WorldStands, told_wants}
use Rattle.stream_world.specs.declared.event.Event as code_event
use Rattle.table_jobs.specs.declared.job_session.JobEnd as code_end
use Rattle.stream_world.specs.declared.world.World as code_world

-- what was run happened
pub ran_so : (first : World) (seen : List code_event.Event) (told : List (Option code_end.JobEnd)) (met : List Event) (outs : List (Job × Outcome)) (was_short : Bool) (w : World) → AreRun first seen told met outs was_short w → Ran first met outs w
ran_so first _ _ _ _ _ _ at_first = events.at_first
ran_so first _ _ _ _ _ _ (then_one seen told met outs was w event next one out later run is fits tells happens begins_so) = events.then_one met outs w one out later (ran_so first seen told met outs was w run) happens

-- ---- where it isn't short

none_of : (a b c : Bool) → (a || (b || c)) ≡ false → (a ≡ false) × (c ≡ false)
none_of true b c is = absurd cc
none_of false true c is = absurd cc
none_of false false c is = (refl, is)

how_exact : (how met : How) → IsMetIn how met → ran_out_of how met ≡ false → met ≡ how
how_exact lost met is none = is
how_exact once met (inl is) none = is
how_exact twice met (inl is) none = is
how_exact late met (inl is) none = is
how_exact short met (inl is) none = is
how_exact short met (inr is) none = is
how_exact once met (inr is) none = let out : ran_out_of once short ≡ false = subst (λ (m : How). ran_out_of once m ≡ false) is none in absurd cc
how_exact twice met (inr is) none = let out : ran_out_of twice short ≡ false = subst (λ (m : How). ran_out_of twice m ≡ false) is none in absurd cc
how_exact late met (inr is) none = let out : ran_out_of late short ≡ false = subst (λ (m : How). ran_out_of late m ≡ false) is none in absurd cc

event_exact : (event met : Event) → IsMetAs event met → ran_out event met ≡ false → met ≡ event
event_exact (act name how) met (one, is, same) none =
    same ∙ ap (act name) (how_exact how one is (subst (λ (m : Event). ran_out (act name how) m ≡ false) same none))
event_exact (begin name job) met is none = is
event_exact (die name) met is none = is
event_exact (answer name) met is none = is
event_exact (lose_answer name) met is none = is
event_exact (land place) met is none = is

-- just those events were met that were handed in
exact_so : (first : World) (seen : List code_event.Event) (told : List (Option code_end.JobEnd)) (met : List Event) (outs : List (Job × Outcome)) (was_short : Bool) (w : World) → AreRun first seen told met outs was_short w → was_short ≡ false
    → met ≡ map event_view seen
exact_so first _ _ _ _ _ _ at_first none = refl
exact_so first _ _ _ _ _ _ (then_one seen told met outs was w event next one out later run is fits tells happens begins_so) none =
    let both = none_of (ran_out (event_view event) one) (told_wants next) was none in
    let before : met ≡ map event_view seen = exact_so first seen told met outs was w run both.1 in
    ap (λ (es : List Event). es ++ one ∷ []) before ∙ (ap (λ (e : Event). map event_view seen ++ e ∷ []) (event_exact (event_view event) one is both.0) ∙ sym (map-append event_view seen (event ∷ [])))

-- ---- one by one

-- no event has happened yet
pub run_none : {S : Type 0} (objects : S → Objects) (first : Objects) (world : code_world.World S) → WorldStands objects world (first_world first) → world.is_short ≡ false → HasRun objects first [] [] world
run_none objects first world stands unshort =
    record { met = []; outs = []; w = first_world first; ran = subst (λ (b : Bool). AreRun (first_world first) [] [] [] [] b (first_world first)) (sym unshort) at_first; stands = stands; exact = λ none. refl }

-- one more event has happened
pub run_more : {S : Type 0} (objects : S → Objects) (first : Objects) (seen : List code_event.Event) (event : code_event.Event) (told : List (Option code_end.JobEnd)) (next : Option code_end.JobEnd) (world later : code_world.World S)
    → HasRun objects first seen told world → ((w : World) → WorldStands objects world w → HasHappened objects world.is_short w (event_view event) next later) → HasRun objects first (seen ++ event ∷ []) (told ++ next ∷ []) later
run_more objects first seen event told next world later run happens =
    let one = happens run.w run.stands in
    let met : List Event = run.met ++ one.met ∷ [] in
    let outs : List (Job × Outcome) = events.with_told run.outs one.told in
    let ran : AreRun (first_world first) (seen ++ event ∷ []) (told ++ next ∷ []) met outs later.is_short one.later =
    subst (λ (b : Bool). AreRun (first_world first) (seen ++ event ∷ []) (told ++ next ∷ []) met outs b one.later) (sym one.short)
    (then_one seen told run.met run.outs world.is_short run.w event next one.met one.told one.later run.ran one.is one.fits one.tells one.happens one.begins) in
    record {
      met = met;
      outs = outs;
      w = one.later;
      ran = ran;
      stands = one.stands;
      exact = exact_so (first_world first) (seen ++ event ∷ []) (told ++ next ∷ []) met outs later.is_short one.later ran;
    }
