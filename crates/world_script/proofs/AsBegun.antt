-- What is so of a scene behind lines, against the jobs that actors began by them.
use Rattle.std.proofs.Common.{◌≡◌, ◌∙◌, ◌⊎◌, ◌≤◌, ◌<◌, ℕ, List, ◌∷◌, Bool, Option, Some, None, bytes_eq, if◌then◌else◌, refl, sym, ap, subst, inl, inr, ⊎_elim, arith, true≢false}
use Rattle.std.proofs.lemmas.Bool.{cases_Bool, cases_eq, false_from_ne_true}
use Rattle.std.proofs.lemmas.Slice.Eq.{bytes_eq-Decides}
use Rattle.script_lines.specs.declared.kind.Kind.{Kind}
use Rattle.store_core.specs.Objects.{Objects}
use Rattle.stream_world.specs.Worlds.{World}
use Rattle.table_jobs.specs.Jobs.{Job}
use Rattle.world_script.specs.ByLines.{Begun, last_begun, nothing_begun}
use Rattle.world_script.specs.Scenes.{HasPart, Scene, first_scene, next_behind_part, part_for}
use Rattle.world_script.specs.declared.part.Part.{Part}
use Rattle.world_script.proofs.Keeping.{job_there}

-- ---- names

-- two names are one, or they aren't
alike_or_not : (one other : List ℕ) → (one ≡ other) ⊎ (one ≡ other → ⊥)
alike_or_not one other = ⊎_elim (λ yes. inl ((bytes_eq-Decides one other).0 yes)) (λ no. inr (λ same. true≢false (sym ((bytes_eq-Decides one other).1 same) ∙ no))) (cases_Bool (bytes_eq one other))

-- the job that an actor has just begun, and that of another one
pub last_now : (name : List ℕ) (job : Option Job) (before : List (List ℕ × Option Job)) → last_begun name ((name, job) ∷ before) ≡ job
last_now name job before = ap (λ (t : Bool). if t then job else last_begun name before) ((bytes_eq-Decides name name).1 refl)

pub last_still : (name other : List ℕ) (job : Option Job) (before : List (List ℕ × Option Job)) → (other ≡ name → ⊥) → last_begun other ((name, job) ∷ before) ≡ last_begun other before
last_still name other job before apart =
    ap (λ (t : Bool). if t then job else last_begun other before) (false_from_ne_true (bytes_eq name other) (λ yes. apart (sym ((bytes_eq-Decides name other).0 yes))))

-- ---- a scene behind lines

-- Jobs try as often as lines said; each part has a number of its own, from 1 on; there is no actor of a number that
-- none has yet, but for that of lines without one; and the actor of a part, if there is one, has the job that the actor
-- of that name began last.
pub record IsAsBegun (uses : Bool) (s : Scene) (b : Begun) : Type 0 where
  pub tries_so : s.tries ≡ b.tries
  pub uses_so : s.use_checkpoints ≡ uses
  pub one_on : 1 ≤ s.next
  pub numbered : (name : List ℕ) (part : Part) → s.part name ≡ Some part → (1 ≤ part.number) × (part.number < s.next)
  pub own : (name other : List ℕ) (part one : Part) → s.part name ≡ Some part → s.part other ≡ Some one → part.number ≡ one.number → name ≡ other
  pub known : (n : ℕ) (job : Job) → job_there s.world n ≡ Some job → n < s.next
  pub begun : (name : List ℕ) (part : Part) (job : Job) → s.part name ≡ Some part → job_there s.world part.number ≡ Some job → last_begun name b.jobs ≡ Some job

pub first_begun : (objects : Objects) (uses : Bool) → IsAsBegun uses (first_scene objects uses) nothing_begun
first_begun objects uses = record {
  tries_so = refl;
  uses_so = refl;
  one_on = omega arith;
  numbered = λ name part is. let wrong : None ≡ Some part = is in absurd cc;
  own = λ name other part one is has same. let wrong : None ≡ Some part = is in absurd cc;
  known = λ n job is. let wrong : None ≡ Some job = is in absurd cc;
  begun = λ name part job is has. let wrong : None ≡ Some part = is in absurd cc;
}

module _ (uses : Bool) (s : Scene) (b : Begun) (so : IsAsBegun uses s b) where
  -- in another world, in which each actor but that of lines without one was there with its job
  pub in_world : (w : World) (left : Option Kind) → ((n : ℕ) (job : Job) → job_there w n ≡ Some job → (n ≡ 0) ⊎ (job_there s.world n ≡ Some job)) → IsAsBegun uses (record s { world = w; fault = left }) b
  in_world w left from = record {
    tries_so = so.tries_so;
    uses_so = so.uses_so;
    one_on = so.one_on;
    numbered = so.numbered;
    own = so.own;
    known = λ n job is. ⊎_elim (λ zero_is. omega (arith, zero_is, so.one_on)) (λ there. so.known n job there) (from n job is);
    begun = λ name part job has is. ⊎_elim (λ zero_is. let first = (so.numbered name part has).0 in absurd (omega (arith, zero_is, first))) (λ there. so.begun name part job has there) (from part.number job is);
  }

  module _ (name : List ℕ) where
    -- A number is the actor's own, or the next one: no other part has it, and an actor that has it has the job that was
    -- begun last by that name.
    pub record IsItsNumber (number next : ℕ) : Type 0 where
      pub least : 1 ≤ number
      pub below : number < next
      pub grown : s.next ≤ next
      pub differs : (other : List ℕ) (one : Part) → s.part other ≡ Some one → (other ≡ name → ⊥) → one.number ≡ number → ⊥
      pub there : (job : Job) → job_there s.world number ≡ Some job → last_begun name b.jobs ≡ Some job

    pub its_number : (found : Option Part) → s.part name ≡ found → IsItsNumber (part_for found s.next).number (next_behind_part found s.next)
    its_number None is = record {
      least = so.one_on;
      below = omega arith;
      grown = omega arith;
      differs = λ other one has apart same. let below = (so.numbered other one has).1 in omega (arith, below, same);
      there = λ job has. let below = so.known s.next job has in absurd (omega (arith, below));
    }
    its_number (Some part) is = record {
      least = (so.numbered name part is).0;
      below = (so.numbered name part is).1;
      grown = omega arith;
      differs = λ other one has apart same. apart (so.own other name one part has is same);
      there = λ job has. so.begun name part job is has;
    }

    module _ (later : Scene) (p : Part) (next : ℕ) (w : World) (number : IsItsNumber p.number next) (now : HasPart s later name p next w) where
      -- a part that is there then is that one, or was there
      part_seen : (other : List ℕ) (one : Part) → later.part other ≡ Some one → ((other ≡ name) × (p.number ≡ one.number)) ⊎ ((other ≡ name → ⊥) × (s.part other ≡ Some one))
      part_seen other one has =
          ⊎_elim (λ same. let is : Some p ≡ Some one = sym now.part_now ∙ subst (λ (k : List ℕ). later.part k ≡ Some one) same has in let so_one : p ≡ one = cc in inl (same, ap (λ (q : Part). q.number) so_one))
          (λ apart. inr (apart, sym (now.others other apart) ∙ has)) (alike_or_not other name)

      numbered_then : (other : List ℕ) (one : Part) → later.part other ≡ Some one → (1 ≤ one.number) × (one.number < later.next)
      numbered_then other one has = by_place (part_seen other one has)
        where
          by_place : ((other ≡ name) × (p.number ≡ one.number)) ⊎ ((other ≡ name → ⊥) × (s.part other ≡ Some one)) → (1 ≤ one.number) × (one.number < later.next)
          by_place (inl (same, is)) = (subst (λ (k : ℕ). 1 ≤ k) is number.least, omega (arith, is, number.below, now.next_now))
          by_place (inr (apart, was)) =
              let bounds = so.numbered other one was in
              let below = bounds.1 in
              (bounds.0, omega (arith, below, number.grown, now.next_now))

      own_then : (one other : List ℕ) (part found : Part) → later.part one ≡ Some part → later.part other ≡ Some found → part.number ≡ found.number → one ≡ other
      own_then one other part found has there same = by_places (part_seen one part has) (part_seen other found there)
        where
          by_places : ((one ≡ name) × (p.number ≡ part.number)) ⊎ ((one ≡ name → ⊥) × (s.part one ≡ Some part)) → ((other ≡ name) × (p.number ≡ found.number)) ⊎ ((other ≡ name → ⊥) × (s.part other ≡ Some found)) → one ≡ other
          by_places (inl (is, number_is)) (inl (other_is, found_is)) = is ∙ sym other_is
          by_places (inl (is, number_is)) (inr (apart, was)) = absurd (number.differs other found was apart (sym same ∙ sym number_is))
          by_places (inr (apart, was)) (inl (other_is, found_is)) = absurd (number.differs one part was apart (same ∙ sym found_is))
          by_places (inr (apart, was)) (inr (apart_too, other_was)) = so.own one other part found was other_was same

      -- An actor has its part, with that number. Where the actor of that number has the job that was begun last by that
      -- name, and each other one was there with its job, all is so again.
      pub with_part : (jobs : List (List ℕ × Option Job)) → ((other : List ℕ) → (other ≡ name → ⊥) → last_begun other jobs ≡ last_begun other b.jobs)
          → ((n : ℕ) (job : Job) → job_there w n ≡ Some job → ((n ≡ p.number) × (last_begun name jobs ≡ Some job)) ⊎ ((n ≡ p.number → ⊥) × (job_there s.world n ≡ Some job)))
          → IsAsBegun uses later (record { tries = b.tries; jobs = jobs })
      with_part jobs still from = record {
        tries_so = now.tries_still ∙ so.tries_so;
        uses_so = now.use_still ∙ so.uses_so;
        one_on = omega (arith, number.least, number.below, now.next_now);
        numbered = numbered_then;
        own = own_then;
        known = λ n job is. by_job n job (from n job (in_it n job is));
        begun = λ other one job has is. by_name other one job (part_seen other one has) (from one.number job (in_it one.number job is));
      }
        where
          in_it : (n : ℕ) (job : Job) → job_there later.world n ≡ Some job → job_there w n ≡ Some job
          in_it n job is = subst (λ (v : World). job_there v n ≡ Some job) now.world_now is

          by_job : (n : ℕ) (job : Job) → ((n ≡ p.number) × (last_begun name jobs ≡ Some job)) ⊎ ((n ≡ p.number → ⊥) × (job_there s.world n ≡ Some job)) → n < later.next
          by_job n job (inl (same, last)) = omega (arith, same, number.below, now.next_now)
          by_job n job (inr (apart, was)) = let below = so.known n job was in omega (arith, below, number.grown, now.next_now)

          by_name : (other : List ℕ) (one : Part) (job : Job) → ((other ≡ name) × (p.number ≡ one.number)) ⊎ ((other ≡ name → ⊥) × (s.part other ≡ Some one))
              → ((one.number ≡ p.number) × (last_begun name jobs ≡ Some job)) ⊎ ((one.number ≡ p.number → ⊥) × (job_there s.world one.number ≡ Some job)) → last_begun other jobs ≡ Some job
          by_name other one job (inl (same, number_is)) (inl (is, last)) = subst (λ (k : List ℕ). last_begun k jobs ≡ Some job) (sym same) last
          by_name other one job (inl (same, number_is)) (inr (apart, was)) = absurd (apart (sym number_is))
          by_name other one job (inr (other_is, there)) (inl (is, last)) = absurd (number.differs other one there other_is is)
          by_name other one job (inr (other_is, there)) (inr (apart, was)) = still other other_is ∙ so.begun other one job there was

      -- nobody began
      pub with_same : w ≡ s.world → IsAsBegun uses later b
      with_same same = with_part b.jobs (λ other apart. refl) (λ n job is. by_number n job (subst (λ (v : World). job_there v n ≡ Some job) same is) (cases_eq n p.number))
        where
          by_number : (n : ℕ) (job : Job) → job_there s.world n ≡ Some job → (n ≡ p.number) ⊎ (n ≡ p.number → ⊥) → ((n ≡ p.number) × (last_begun name b.jobs ≡ Some job)) ⊎ ((n ≡ p.number → ⊥) × (job_there s.world n ≡ Some job))
          by_number n job is (inl number_is) = inl (number_is, number.there job (subst (λ (k : ℕ). job_there s.world k ≡ Some job) number_is is))
          by_number n job is (inr apart) = inr (apart, is)
