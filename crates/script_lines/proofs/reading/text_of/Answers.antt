use Rattle.std.proofs.Common.{option_map, ap, ◌∙◌}
use Rattle.script_lines.proofs.Texts.{text_of_read}
use Rattle.script_lines.proofs.reading.text_of.Goals as goal

pub returns : goal.returns
returns c = ap (option_map (λ text. text.now)) c.ok.ensures.value ∙ text_of_read _ _ _ c.from_utf8.ensures.cases
