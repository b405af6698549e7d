use Rattle.std.proofs.Common.{refl, sym, ap, ◌∙◌}
use Rattle.page_cells.specs.Plain.{plain_at}
use Rattle.page_cells.proofs.CodeValues.{done_parts}
use Rattle.page_cells.proofs.ValuesLeft.{passes}
use Rattle.page_cells.proofs.values.PlainReader.pass.Goals as goal

-- The values are there, so that no fault is found.
pub returns-in-Err : goal.returns-in-Err
returns-in-Err c type values held less =
    let r = c.args.self.now in
    let p = passes type c.args.count r values (λ is. c.in_default.not-Boolean (held.of_type ∙ is)) held less in
    let there = ap (λ t. plain_at t c.args.count r.bytes.now) held.of_type ∙ p.read in
    let short = rw c.new-cursor.ensures at c.in-Err.ensures in
    absurd cc

-- those behind the ones that were passed
pub returns : goal.returns
returns c type values held less =
    let r = c.args.self.now in
    let p = passes type c.args.count r values (λ is. c.in_default.not-Boolean (held.of_type ∙ is)) held less in
    let there = ap (λ t. plain_at t c.args.count r.bytes.now) held.of_type ∙ p.read in
    let read = rw c.new-cursor.ensures at c.in-Ok.ensures in
    let parts = done_parts read.0 p.front c.pass_values.new.cursor p.between (sym read.1 ∙ there) in
    let left = p.left (record { leaf_type = r.leaf_type; bytes = c.left-self.result; passed = r.passed }) held.of_type
    (c.left-self.ensures ∙ parts.1) refl in (refl, left)
