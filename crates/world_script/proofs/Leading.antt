-- How an actor that is led on comes to its end, or to where it halts.
use Rattle.std.proofs.Common.{◌≡◌, ℕ, List, [], ◌++◌, Bool, true, false, Option, Some, None, refl, sym, ◌∙◌, subst, IsSome}
use Rattle.script_lines.specs.declared.kind.Kind.{Kind}
use Rattle.script_lines.specs.declared.kind.Kind.TheVariants.{Pass}
use Rattle.store_core.specs.Objects.{Objects}
use Rattle.table_jobs.specs.Jobs.{Job, Outcome}
use Rattle.stream_world.specs.Events.{Event}
use Rattle.stream_world.specs.Worlds.{World}
use Rattle.stream_world.specs.Standing.{TellsAs, WorldStands}
use Rattle.table_jobs.specs.declared.job_session.JobEnd as code_end
use Rattle.stream_world.specs.declared.world.World as code_world
use Rattle.world_script.specs.Acting.{CameBy, IsLedOn, Leads, ActorMeets, ActorSteps, at_first, behind, by_it, ends, ends_before, goes, halts, hand_at, in_front, meets_now, meets_then, next_at, then_one, unhindered}
use Rattle.world_script.specs.Doing.{CameThrough}
use Rattle.world_script.specs.declared.acting.Next.{Next}
use Rattle.world_script.specs.declared.acting.Next.TheVariants as nexts
use Rattle.world_script.proofs.Stepping.{still_goes}

-- So far it was led on, and something comes next for it.
pub record LedOn {S : Type 0} (stored : S → Objects) (n : ℕ) (halts_at_commit : Bool) (w : World) (world : code_world.World S) : Type 0 where
  pub events : List Event
  pub later : World
  pub on : IsLedOn n halts_at_commit w events later
  pub stands : WorldStands stored world later
  pub alive : next_at (hand_at later n) ≡ nexts.Nothing → ⊥

-- where it doesn't go on though something comes next, it halts in front of a commit put
halts_there : (halts_at_commit : Bool) (next : Next) → (next ≡ nexts.Nothing → ⊥) → goes halts_at_commit next ≡ false → (halts_at_commit ≡ true) × (next ≡ nexts.Call true)
halts_there h nexts.Nothing alive stops = absurd (alive refl)
halts_there h nexts.Step alive stops = cc
halts_there true (nexts.Call true) alive stops = (refl, refl)
halts_there true (nexts.Call false) alive stops = cc
halts_there false (nexts.Call c) alive stops = cc

told_some : (outcome : code_end.JobEnd) (told : Option (Job × Outcome)) → TellsAs (Some outcome) told → (one : Job × Outcome) × (told ≡ Some one)
told_some outcome (Some one) tells = (one, refl)
told_some outcome None tells = absurd tells

told_none : (told : Option (Job × Outcome)) → TellsAs None told → told ≡ None
told_none None tells = refl
told_none (Some told) tells = absurd tells

module _ {S : Type 0} (stored : S → Objects) (n : ℕ) (halts_at_commit : Bool) (w : World) where
  pub led_none : (world : code_world.World S) → WorldStands stored world w → (next_at (hand_at w n) ≡ nexts.Nothing → ⊥) → LedOn stored n halts_at_commit w world
  led_none world stands alive = record { events = []; later = w; on = at_first; stands = stands; alive = alive }

  module _ (world later : code_world.World S) (led : LedOn stored n halts_at_commit w world) (go_on : goes halts_at_commit (next_at (hand_at led.later n)) ≡ true) where
    -- a step that is not the last one
    pub led_more : CameBy stored (ActorSteps n Pass led.later) None later → LedOn stored n halts_at_commit w later
    led_more came =
        let none = told_none came.told came.tells in
        record {
          events = led.events ++ came.events;
          later = came.later;
          on = then_one led.events led.later came.events came.later led.on go_on (subst (λ (o : Option (Job × Outcome)). ActorSteps n Pass led.later came.events o came.later) none came.done);
          stands = came.stands;
          alive = still_goes n Pass led.later came.events came.told came.later none came.done;
        }

    -- the last one
    pub led_end : (outcome : code_end.JobEnd) → CameBy stored (ActorSteps n Pass led.later) (Some outcome) later → CameBy stored (Leads n halts_at_commit w) (Some outcome) later
    led_end outcome came =
        let one = told_some outcome came.told came.tells in
        record {
          events = led.events ++ came.events;
          told = Some one.0;
          later = came.later;
          done = ends led.events led.later came.events one.0 came.later led.on go_on (subst (λ (o : Option (Job × Outcome)). ActorSteps n Pass led.later came.events o came.later) one.1 came.done);
          tells = subst (λ (o : Option (Job × Outcome)). TellsAs (Some outcome) o) one.1 came.tells;
          hands = came.hands;
          stands = came.stands;
        }

  -- where it halts
  pub led_halt : (world : code_world.World S) (led : LedOn stored n halts_at_commit w world) → goes halts_at_commit (next_at (hand_at led.later n)) ≡ false → CameBy stored (Leads n halts_at_commit w) None world
  led_halt world led stops =
      let there = halts_there halts_at_commit (next_at (hand_at led.later n)) led.alive stops in
      record { events = led.events; told = None; later = led.later; done = halts led.events led.later there.0 led.on there.1; tells = tt; hands = tt; stands = led.stands }

-- ---- a call that meets a kind

-- what comes next, where something does that isn't a step
call_next : (next : Next) → (next ≡ nexts.Nothing → ⊥) → (next ≡ nexts.Step → ⊥) → (c : Bool) × (next ≡ nexts.Call c)
call_next nexts.Nothing alive isnt = absurd (alive refl)
call_next nexts.Step alive isnt = absurd (isnt refl)
call_next (nexts.Call c) alive isnt = (c, refl)

module _ {S : Type 0} (stored : S → Objects) (n : ℕ) (kind : Kind) (w : World) where
  -- at once
  pub met_now : (outcome : Option code_end.JobEnd) (world : code_world.World S) → (next_at (hand_at w n) ≡ nexts.Nothing → ⊥) → (next_at (hand_at w n) ≡ nexts.Step → ⊥) → CameBy stored (ActorSteps n kind w) outcome world
      → CameBy stored (ActorMeets n kind w) outcome world
  met_now outcome world alive isnt came =
      let call = call_next (next_at (hand_at w n)) alive isnt in
      record { events = came.events; told = came.told; later = came.later; done = meets_now call.0 came.events came.told came.later call.1 came.done; tells = came.tells; hands = came.hands; stands = came.stands }

  -- it ended by its first step
  pub met_never : (outcome : code_end.JobEnd) (world : code_world.World S) → next_at (hand_at w n) ≡ nexts.Step → CameBy stored (ActorSteps n kind w) (Some outcome) world → CameBy stored (ActorMeets n kind w) (Some outcome) world
  met_never outcome world is came =
      let one = told_some outcome came.told came.tells in
      record {
        events = came.events;
        told = Some one.0;
        later = came.later;
        done = ends_before came.events one.0 came.later is (subst (λ (o : Option (Job × Outcome)). ActorSteps n kind w came.events o came.later) one.1 came.done);
        tells = subst (λ (o : Option (Job × Outcome)). TellsAs (Some outcome) o) one.1 came.tells;
        hands = came.hands;
        stands = came.stands;
      }

  -- behind its first step
  module _ (mid : code_world.World S) (first : CameBy stored (ActorSteps n kind w) None mid) where
    pub alive_then : next_at (hand_at first.later n) ≡ nexts.Nothing → ⊥
    alive_then = still_goes n kind w first.events first.told first.later (told_none first.told first.tells) first.done

    pub met_then : (outcome : Option code_end.JobEnd) (world : code_world.World S) → next_at (hand_at w n) ≡ nexts.Step → CameBy stored (ActorSteps n kind first.later) outcome world → CameBy stored (ActorMeets n kind w) outcome world
    met_then outcome world is came = record {
      events = first.events ++ came.events;
      told = came.told;
      later = came.later;
      done = meets_then first.events first.later came.events came.told came.later is (subst (λ (o : Option (Job × Outcome)). ActorSteps n kind w first.events o first.later) (told_none first.told first.tells) first.done) came.done;
      tells = came.tells;
      hands = came.hands;
      stands = came.stands;
    }

-- ---- through a fault

-- an actor that was led on and told something was led so
pub leads_some : (n : ℕ) (h : Bool) (w : World) (events : List Event) (told : Option (Job × Outcome)) (later : World) → Leads n h w events told later → (h ≡ false) → IsSome told
leads_some n h w _ _ _ (halts events later does on there) not = cc
leads_some n h w _ _ _ (ends events mid more told later on go_on steps) not = refl

-- one that halts has something to do next
pub halts_alive : (n : ℕ) (w : World) (events : List Event) (told : Option (Job × Outcome)) (later : World) → told ≡ None → Leads n true w events told later → next_at (hand_at later n) ≡ nexts.Nothing → ⊥
halts_alive n w _ _ _ none (halts events later does on there) nothing = let wrong : nexts.Call true ≡ nexts.Nothing = sym there ∙ nothing in cc
halts_alive n w _ _ _ none (ends events mid more told later on go_on steps) nothing = cc

module _ {S : Type 0} (stored : S → Objects) (w : World) where
  -- no fault is set
  pub through_none : (outcome : Option code_end.JobEnd) (world : code_world.World S) → CameBy stored (Leads 0 false w) outcome world → CameThrough stored None w outcome None world
  through_none outcome world came = by_told came.told came.done came.tells
    where
      by_told : (told : Option (Job × Outcome)) → Leads 0 false w came.events told came.later → TellsAs outcome told → CameThrough stored None w outcome None world
      by_told None does tells = let wrong = leads_some 0 false w came.events None came.later does refl in cc
      by_told (Some told) does tells = record { events = came.events; told = told; later = came.later; leads = unhindered w came.events told came.later does; tells = tells; hands = came.hands; stands = came.stands }

  -- it ends in front of the fault
  pub through_front : (kind : Kind) (outcome : code_end.JobEnd) (world : code_world.World S) → CameBy stored (Leads 0 true w) (Some outcome) world → CameThrough stored (Some kind) w (Some outcome) (Some kind) world
  through_front kind outcome world came =
      let one = told_some outcome came.told came.tells in
      record {
        events = came.events;
        told = one.0;
        later = came.later;
        leads = in_front kind w came.events one.0 came.later (subst (λ (o : Option (Job × Outcome)). Leads 0 true w came.events o came.later) one.1 came.done);
        tells = subst (λ (o : Option (Job × Outcome)). TellsAs (Some outcome) o) one.1 came.tells;
        hands = came.hands;
        stands = came.stands;
      }

  -- its commit put meets the fault
  module _ (kind : Kind) (world : code_world.World S) (came : CameBy stored (Leads 0 true w) None world) where
    none : came.told ≡ None
    none = told_none came.told came.tells

    halted : Leads 0 true w came.events None came.later
    halted = subst (λ (o : Option (Job × Outcome)). Leads 0 true w came.events o came.later) none came.done

    pub alive_there : next_at (hand_at came.later 0) ≡ nexts.Nothing → ⊥
    alive_there = halts_alive 0 w came.events came.told came.later none came.done

    pub through_fault : (outcome : code_end.JobEnd) (later : code_world.World S) → CameBy stored (ActorSteps 0 kind came.later) (Some outcome) later → CameThrough stored (Some kind) w (Some outcome) None later
    through_fault outcome later step =
        let one = told_some outcome step.told step.tells in
        record {
          events = came.events ++ step.events;
          told = one.0;
          later = step.later;
          leads = by_it kind w came.events came.later step.events one.0 step.later halted (subst (λ (o : Option (Job × Outcome)). ActorSteps 0 kind came.later step.events o step.later) one.1 step.done);
          tells = subst (λ (o : Option (Job × Outcome)). TellsAs (Some outcome) o) one.1 step.tells;
          hands = step.hands;
          stands = step.stands;
        }

    module _ (after : code_world.World S) (step : CameBy stored (ActorSteps 0 kind came.later) None after) where
      pub alive_behind : next_at (hand_at step.later 0) ≡ nexts.Nothing → ⊥
      alive_behind = still_goes 0 kind came.later step.events step.told step.later (told_none step.told step.tells) step.done

      pub through_behind : (outcome : Option code_end.JobEnd) (later : code_world.World S) → CameBy stored (Leads 0 false step.later) outcome later → CameThrough stored (Some kind) w outcome None later
      through_behind outcome later rest = by_told rest.told rest.done rest.tells
        where
          stepped : ActorSteps 0 kind came.later step.events None step.later
          stepped = subst (λ (o : Option (Job × Outcome)). ActorSteps 0 kind came.later step.events o step.later) (told_none step.told step.tells) step.done

          by_told : (told : Option (Job × Outcome)) → Leads 0 false step.later rest.events told rest.later → TellsAs outcome told → CameThrough stored (Some kind) w outcome None later
          by_told None does tells = let wrong = leads_some 0 false step.later rest.events None rest.later does refl in cc
          by_told (Some told) does tells = record {
            events = came.events ++ step.events ++ rest.events;
            told = told;
            later = rest.later;
            leads = behind kind w came.events came.later step.events step.later rest.events told rest.later halted stepped does;
            tells = tells;
            hands = rest.hands;
            stands = rest.stands;
          }
