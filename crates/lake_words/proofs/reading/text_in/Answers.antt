use Rattle.std.proofs.Common.{refl, ap, ◌∙◌, []}
use Rattle.std.specs.Prelude.{unwrap_or}
use Rattle.lake_words.proofs.MatchLemmas.{unwrapped_text}
use Rattle.lake_words.proofs.reading.text_in.Goals as goal

pub returns : goal.returns
returns c =
    ap (λ b. b.now) c.unwrap_or.ensures ∙ unwrapped_text c.optional_text_in.result _ refl
    ∙ ap (λ o. unwrap_or o []) c.optional_text_in.ensures
