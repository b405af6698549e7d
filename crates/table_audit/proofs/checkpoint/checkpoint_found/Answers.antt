use Rattle.std.proofs.Common.{rules, ◌≡◌, ℕ, List, Vec, Global, map, sym, ap, ◌∙◌, inl, inr}
use Rattle.table_audit.proofs.CheckpointParts.{line_items, other_checkpoint, same_checkpoint}
use Rattle.table_audit.proofs.checkpoint.checkpoint_found.Goals as goal

pub returns-then-are_same : goal.returns-then-are_same
returns-then-are_same c = λ log of printable.
    let own = c.in_ok-own_lines.ensures log of printable in
    let items : List (Vec ℕ Global) → List (List ℕ) = λ ls. map line_items ls in
    let same : items c.in-Ok.lines.items ≡ items c.in_ok-own_lines.own_lines.items = ap items (sym c.deref.ensures.value) ∙ (c.are_same.ensures.only c.if-are_same.true ∙ ap items c.deref-2.ensures.value) in
    same_checkpoint c.args.bytes.now own.0 c.args.version log (items c.in-Ok.lines.items) (items c.in_ok-own_lines.own_lines.items) c.in-Ok.ensures.found own.1 own.2 same

pub returns : goal.returns
returns c = λ log of printable.
    let own = c.in_ok-own_lines.ensures log of printable in
    let items : List (Vec ℕ Global) → List (List ℕ) = λ ls. map line_items ls in (
      (c.in-Ok.ensures.found.actions, c.in-Ok.ensures.found.commit),
      other_checkpoint c.args.bytes.now own.0 c.args.version log (items c.in-Ok.lines.items) (items c.in_ok-own_lines.own_lines.items) c.in-Ok.ensures.found own.1 own.2
          (λ same. let yes = c.are_same.ensures.found (ap items c.deref.ensures.value ∙ (same ∙ ap items (sym c.deref-2.ensures.value))) in
          let both = sym yes ∙ c.if-are_same.false in cc),
    )

pub returns-in-Err : goal.returns-in-Err
returns-in-Err c = λ log of printable. (
  elim c.in-Err.ensures.fault [
    | inl memory ↦ let wrong = memory in absurd (search rules)
    | inr told ↦ told
  ],
  λ is. let wrong = c.in-Err.ensures.only is.actions is.lines in search rules,
)
