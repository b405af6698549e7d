use Rattle.std.proofs.Common.{◌≡◌, true, false, Some, sym, ap, ◌∙◌}
use Rattle.std.specs.Prelude.{is_some}
use Rattle.serde_json.specs.Read.{read}
use Rattle.json_text.specs.Rows.{text_data}
use Rattle.json_lines.specs.Rows.{only_object}
use Rattle.json_lines.proofs.Objects.{object_is, no_object, no_text}
use Rattle.json_lines.proofs.object_in.Goals as goal

pub returns-in_default-clause-object : goal.returns-in_default-clause-object
returns-in_default-clause-object c = no_text c.args.line.now c.in_default.ensures.cases.0

pub returns-then-branch-clause-object : goal.returns-then-branch-clause-object
returns-then-branch-clause-object c =
    let same = c.in-Ok.ensures.cases.0 in
    let is : is_some (only_object (read c.args.line.now)) ≡ true = ap (λ t. is_some (only_object (read t))) (sym same) ∙ sym c.in_ok-is_object.ensures ∙ c.if-branch.true in
    ap (λ t. Some (text_data t)) same ∙ object_is c.args.line.now c.in-Ok.ensures.cases.1 is

pub returns-else-branch-clause-object : goal.returns-else-branch-clause-object
returns-else-branch-clause-object c =
    let same = c.in-Ok.ensures.cases.0 in
    let is : is_some (only_object (read c.args.line.now)) ≡ false = ap (λ t. is_some (only_object (read t))) (sym same) ∙ sym c.in_ok-is_object.ensures ∙ c.if-branch.false in
    no_object c.args.line.now c.in-Ok.ensures.cases.1 is
