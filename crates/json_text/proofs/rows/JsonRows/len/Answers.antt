use Rattle.std.proofs.Common.{sym, ap, ◌∙◌}
use Rattle.serde_json.specs.Events.{items_len}
use Rattle.json_text.specs.View.{view}
use Rattle.json_text.specs.Rows.{rows_data, text_data}
use Rattle.json_text.proofs.Views.{items_len-map}
use Rattle.json_text.proofs.rows.JsonRows.len.Goals as goal

pub returns-in-Values : goal.returns-in-Values
returns-in-Values c = c.len.ensures ∙ c.in-Values.values.ok.0 ∙ sym (items_len-map view c.in-Values.values.items) ∙ ap (λ r. items_len (rows_data r)) (sym c.in-Values.is)

pub returns-in-Texts : goal.returns-in-Texts
returns-in-Texts c = c.len-in-Texts.ensures ∙ c.in-Texts.texts.ok.0 ∙ sym (items_len-map (λ text. text_data text.now) c.in-Texts.texts.items) ∙ ap (λ r. items_len (rows_data r)) (sym c.in-Texts.is)
