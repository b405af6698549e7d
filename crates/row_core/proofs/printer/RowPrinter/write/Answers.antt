use Rattle.std.proofs.Common.{◌≡◌, ◌++◌, ap, ◌∙◌}
use Rattle.json.specs.Print.{print}
use Rattle.json.specs.Tree.{json_tokens}
use Rattle.row_core.specs.Printer.{printed}
use Rattle.row_core.specs.Views.{value_view}
use Rattle.serde_json.specs.Written.{outline}
use Rattle.serde_json.proofs.Texts.{print-outline}
use Rattle.row_core.proofs.printer.RowPrinter.write.Goals as goal

pub returns : goal.returns
unfolding printed
returns c =
    let d = printed c.args.self.now (value_view c.args.row.now) in
    let tokens : c.write_value.new.out.tokens ≡ json_tokens (outline d) = c.in_ok-write_value.ensures.ok ∙ ap (λ ts. ts ++ json_tokens (outline d)) c.new-writer.ensures.tokens in
    let before : c.write_value.new.out.before ≡ c.args.out.items = c.in_ok-write_value.ensures.before ∙ c.new-writer.ensures.before in
    c.into_inner.ensures.items ∙ ap (λ b. b ++ print c.write_value.new.out.tokens) before ∙ ap (λ s. c.args.out.items ++ s) (ap print tokens ∙ print-outline d)
