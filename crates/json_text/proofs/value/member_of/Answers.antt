use Rattle.std.proofs.Common.{option_map, ap, ◌∙◌}
use Rattle.json_text.specs.View.{view}
use Rattle.json_text.proofs.Views.{view-lookup}
use Rattle.json_text.proofs.value.member_of.Goals as goal

pub returns : goal.returns
returns c = ap (option_map (λ v. view v.now)) (c.copied.ensures ∙ c.get.ensures.value) ∙ view-lookup c.args.name.now c.args.named.now.entries
