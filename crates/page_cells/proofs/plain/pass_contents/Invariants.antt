use Rattle.std.proofs.Common.{◌≡◌, ◌-◌, false}
use Rattle.page_cells.specs.Plain.{values_at}
use Rattle.page_cells.specs.declared.types.LeafType.TheVariants.{String, Binary}
use Rattle.page_cells.proofs.CodeValues.{passed}
use Rattle.page_cells.proofs.plain.pass_contents.Given as goal

abbrev pub invariant-loop-value : goal.invariant-loop-value
invariant-loop-value l = record {
  text : passed l.is_too_long (values_at String (l.count - l._value) l.cursor) ≡ passed false
      (values_at String l.count l.fn.cursor);
  binary : passed l.is_too_long (values_at Binary (l.count - l._value) l.cursor) ≡ passed false
      (values_at Binary l.count l.fn.cursor);
}
