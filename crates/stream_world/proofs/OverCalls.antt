-- A call of an actor over any store.
use Rattle.std.proofs.Common.{◌≡◌, ℕ, true, Option, Some, None, option_and_then, sym, ◌∙◌, ap, subst}
use Rattle.std.specs.BTreeMap.{BTreeMap, UpdatesBy, get}
use Rattle.std.specs.Ordering.{nat_cmp}
use Rattle.store_core.specs.Turns.{puts_sent}
use Rattle.session_core.specs.Talks.{Asked, Told}
use Rattle.stream_model.specs.Worlds.{How}
use Rattle.stream_world.specs.OverAnyStore.{SlotMeets, WorldMeets}
use Rattle.stream_world.specs.Standing.{slot_at}
use Rattle.stream_world.specs.declared.actor.Actor as code
use Rattle.stream_world.specs.declared.world.World as code_world
use Rattle.stream_world.proofs.Places.{apart}
use Rattle.stream_world.proofs.Worlds.{kept_nowhere, kept_there}

module _ {S : Type 0} (asks : Asked → Told → S → S → Type 0) (how : How) (name : ℕ) (old new : code_world.World S) (still : old.is_short ≡ true → new.is_short ≡ true) where
  -- where the place of the actor was found, and written
  pub met_there : (before after : Option code.Actor) → get nat_cmp old.actors name ≡ Some before → UpdatesBy nat_cmp (nat_cmp name) old.actors new.actors (Some after)
      → SlotMeets asks how before after old.store.store new.store.store (puts_sent old.store) (puts_sent new.store) → WorldMeets asks how name old new
  met_there before after found updates meets = record {
    slot =
        let now : slot_at new name ≡ after = ap (option_and_then (λ (slot : Option code.Actor). slot)) updates.1 in
        subst (λ (o : Option code.Actor). SlotMeets asks how o (slot_at new name) old.store.store new.store.store (puts_sent old.store) (puts_sent new.store)) (sym (kept_there old.actors name before found))
        (subst (λ (o : Option code.Actor). SlotMeets asks how before o old.store.store new.store.store (puts_sent old.store) (puts_sent new.store)) (sym now) meets);
    others = λ other differs. ap (option_and_then (λ (slot : Option code.Actor). slot)) (updates.2 other (apart name other differs));
    still = still;
  }

  -- where it has none
  pub met_nowhere : get nat_cmp old.actors name ≡ None → new.store ≡ old.store → new.actors ≡ old.actors → WorldMeets asks how name old new
  met_nowhere nowhere store actors =
      let none : slot_at old name ≡ None = kept_nowhere old.actors name nowhere in
      let same : (other : ℕ) → slot_at new other ≡ slot_at old other = λ other. ap (λ (m : BTreeMap ℕ (Option code.Actor)). option_and_then (λ (slot : Option code.Actor). slot) (get nat_cmp m other)) actors in
      record {
        slot =
            subst (λ (o : Option code.Actor). SlotMeets asks how o (slot_at new name) old.store.store new.store.store (puts_sent old.store) (puts_sent new.store)) (sym none)
            (subst (λ (o : Option code.Actor). SlotMeets asks how None o old.store.store new.store.store (puts_sent old.store) (puts_sent new.store)) (sym (same name ∙ none))
            (ap (λ flaky. flaky.store) store, ap puts_sent store));
        others = λ other differs. same other;
        still = still;
      }
