-- The actors of a world, by number.
use Rattle.std.proofs.Common.{◌≡◌, ◌==◌, ◌⊎◌, ℕ, true, false, Option, Some, option_and_then, refl, sym, subst, inl, inr, arith}
use Rattle.std.proofs.lemmas.Bool.{cases_eq, false_from_ne_true}
use Rattle.std.proofs.lemmas.Bool.Decides.{nat_tests}
use Rattle.std.proofs.lemmas.Map.Lookups.{exact_unsigned}
use Rattle.std.proofs.lemmas.Map.Views.{tells_apart}
use Rattle.std.specs.BTreeMap.{BTreeMap, UpdatesBy, get, is_at}
use Rattle.std.specs.Ordering.{nat_cmp}
use Rattle.stream_model.specs.Worlds.{Actor, World, with_actor}
use Rattle.stream_world.specs.Standing.{SlotStands}
use Rattle.stream_world.specs.declared.actor.Actor as code

-- the actor of a number that was changed, and any other
pub actor_there : (w : World) (name : ℕ) (found : Option Actor) → (with_actor w name found).actors name ≡ found
actor_there w name found = let same : (name == name) ≡ true = grind (arith, nat_tests) in rw same refl

pub actor_other : (w : World) (name : ℕ) (found : Option Actor) (other : ℕ) → (other ≡ name → ⊥) → (with_actor w name found).actors other ≡ w.actors other
actor_other w name found other apart = let differs : (other == name) ≡ false = grind (arith, nat_tests) in rw differs refl

-- what is kept of the actor of a number
abbrev pub kept : BTreeMap ℕ (Option code.Actor) → ℕ → Option code.Actor
kept m name = option_and_then (λ slot. slot) (get nat_cmp m name)

-- a number is at another's place only where it is that one
pub apart : (name other : ℕ) → (other ≡ name → ⊥) → is_at (nat_cmp name) other ≡ false
apart name other ne = false_from_ne_true (is_at (nat_cmp name) other) (λ is. ne (sym (tells_apart exact_unsigned name other is)))

-- Where a place was written, and a world changed for its number alone, what is kept stands for the actors of that world.
pub place_stands : (m n : BTreeMap ℕ (Option code.Actor)) (name : ℕ) (slot : Option code.Actor) (before later : ℕ → Option Actor)
    → UpdatesBy nat_cmp (nat_cmp name) m n (Some slot) → ((other : ℕ) → SlotStands (kept m other) (before other)) → SlotStands slot (later name)
    → ((other : ℕ) → (other ≡ name → ⊥) → later other ≡ before other) → (other : ℕ) → SlotStands (kept n other) (later other)
place_stands m n name slot before later updates stood there others other = by_cases (cases_eq other name)
  where
    by_cases : (other ≡ name) ⊎ (other ≡ name → ⊥) → SlotStands (kept n other) (later other)
    by_cases (inl same) =
        let at_name : SlotStands (kept n name) (later name) = subst (λ (o : Option (Option code.Actor)). SlotStands (option_and_then (λ s. s) o) (later name)) (sym updates.1) there in
        subst (λ (k : ℕ). SlotStands (kept n k) (later k)) (sym same) at_name
    by_cases (inr ne) =
        let same_place : get nat_cmp n other ≡ get nat_cmp m other = updates.2 other (apart name other ne) in
        subst (λ (o : Option (Option code.Actor)). SlotStands (option_and_then (λ s. s) o) (later other)) (sym same_place) (subst (λ (p : Option Actor). SlotStands (kept m other) p) (sym (others other ne)) (stood other))
