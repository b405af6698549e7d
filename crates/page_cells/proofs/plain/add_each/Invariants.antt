use Rattle.std.proofs.Common.{◌≡◌, ◌-◌}
use Rattle.outcomes.proofs.Callers.{with_front_beside}
use Rattle.row_core.specs.Views.{row_views}
use Rattle.page_cells.specs.Texts.{is_proper}
use Rattle.page_cells.specs.Plain.{values_at}
use Rattle.page_cells.proofs.CodeValues.{tested}
use Rattle.page_cells.proofs.plain.add_each.Given as goal

abbrev pub invariant-loop-value : goal.invariant-loop-value
invariant-loop-value l = record {
  added : with_front_beside (row_views l.out.items) (values_at l.leaf_type (l.count - l._value) l.cursor) ≡
      with_front_beside (row_views l.fn.out.items) (values_at l.leaf_type l.count l.fn.cursor);
  proper : tested is_proper (values_at l.leaf_type (l.count - l._value) l.cursor) ≡ tested is_proper
      (values_at l.leaf_type l.count l.fn.cursor);
}
