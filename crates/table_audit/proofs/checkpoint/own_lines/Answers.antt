use Rattle.std.proofs.Common.{ℕ, List, map, subst}
use Rattle.table_audit.specs.Lines.{HasLines}
use Rattle.table_audit.proofs.CheckpointParts.{line_items}
use Rattle.table_audit.proofs.checkpoint.own_lines.Goals as goal

pub returns-in-Ok : goal.returns-in-Ok
returns-in-Ok c = λ log of printable. (
  c.in_ok-own.own.items,
  subst (λ (bytes : List ℕ). HasLines bytes (map line_items c.in-Ok.lines.items)) c.deref.ensures.value c.in-Ok.ensures.found,
  c.in_ok-own.ensures.checkpoint c.requires (log, of, printable) log of,
)
