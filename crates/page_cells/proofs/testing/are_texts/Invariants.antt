use Rattle.std.proofs.Common.{◌≡◌, ◌-◌}
use Rattle.page_cells.specs.Texts.{is_proper}
use Rattle.page_cells.specs.Plain.{values_at}
use Rattle.page_cells.specs.declared.types.LeafType.TheVariants.{String}
use Rattle.page_cells.proofs.CodeValues.{tested}
use Rattle.page_cells.proofs.testing.are_texts.Given as goal

abbrev pub invariant-loop-value : goal.invariant-loop-value
invariant-loop-value l = tested is_proper (values_at String (l.count - l._value) l.cursor) ≡ tested is_proper
    (values_at String l.count l.fn.cursor)
