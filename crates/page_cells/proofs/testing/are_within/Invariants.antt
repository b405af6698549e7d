use Rattle.std.proofs.Common.{◌≡◌, ◌-◌}
use Rattle.page_cells.specs.Internal.{is_between}
use Rattle.page_cells.specs.Plain.{values_at}
use Rattle.page_cells.specs.Types.{physical_type}
use Rattle.page_cells.specs.declared.types.LeafType.{LeafType}
use Rattle.page_cells.specs.declared.types.PhysicalType.TheVariants.{Int32}
use Rattle.page_cells.proofs.CodeValues.{tested}
use Rattle.page_cells.proofs.testing.are_within.Given as goal

abbrev pub invariant-loop-value : goal.invariant-loop-value
invariant-loop-value l = (type : LeafType) → physical_type type ≡ Int32
    → tested (is_between l.least l.most) (values_at type (l.count - l._value) l.cursor) ≡ tested
    (is_between l.least l.most) (values_at type l.count l.bytes)
