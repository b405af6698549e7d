use Rattle.std.proofs.Common.{◌≡◌, codes, inr, refl, sym, ◌∙◌, append_assoc}
use Rattle.lake_command.specs.Checks.{IsNothing, too_large_text}
use Rattle.lake_command.proofs.CheckLemmas.{text_weaker, untold_alone}
use Rattle.lake_command.proofs.checking.tell_large_name.Goals as goal

pub returns-in-Ok : goal.returns-in-Ok
returns-in-Ok g c =
    text_weaker g.W.Write.contents g.E.Write.contents _ (λ text. text ≡ too_large_text c.args.name.now) IsNothing 1 _ _ _ _ _
    (λ bytes is. is ∙ (c.deref.ensures ∙ (c.in-Ok.ensures.ok ∙ sym (append_assoc (codes "refused P9 TooLarge ") c.args.name.now (codes "\n"))))) c.tell_text.ensures

pub returns-in-Err : goal.returns-in-Err
returns-in-Err g c =
    untold_alone g.W.Write.contents g.E.Write.contents (λ text. text ≡ too_large_text c.args.name.now) 1 c.args.output.now c.args.output.now _ _ _ (inr (refl, c.not_written.ensures.short, c.not_written.ensures.status)) c.not_written.ensures.told
