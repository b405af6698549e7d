use Rattle.std.proofs.Common.{◌≡◌, ◌∙◌, Some, option_and_then, sym, ap}
use Rattle.std.specs.Option.{option_copied}
use Rattle.stream_world.specs.Standing.{slot_at}
use Rattle.world_script.specs.Slots.{next_in}
use Rattle.world_script.proofs.Slotting.{next_stands}
use Rattle.world_script.proofs.acting.next_of.Goals as goal

pub returns-in-Some-Some-clause-next : goal.returns-in-Some-Some-clause-next
returns-in-Some-Some-clause-next g c = λ w stands.
    let slot : slot_at c.args.world.now c.args.actor ≡ Some c.in-Some-Some.actor = ap (option_and_then (λ s. s)) (sym c.get.ensures.value ∙ ap option_copied c.in-Some-Some.is) ∙ c.in-Some-Some.field-0-is in
    next_stands g.S.Store.objects c.args.world.now c.args.actor w stands ∙ (ap next_in slot ∙ sym c.next_by.ensures)
