use Rattle.std.proofs.Common.{◌≡◌, ◌∙◌, Bool, sym}
use Rattle.world_script.specs.declared.acting.Next.{Next}
use Rattle.world_script.specs.declared.acting.Next.TheVariants as nexts
use Rattle.world_script.proofs.acting.has_session.Goals as goal

no_step : (next : Next) → next ≡ nexts.Step → next ≡ nexts.Nothing → ⊥
no_step next is nothing = let wrong : nexts.Step ≡ nexts.Nothing = sym is ∙ nothing in cc

no_call : (next : Next) (c : Bool) → next ≡ nexts.Call c → next ≡ nexts.Nothing → ⊥
no_call next c is nothing = let wrong : nexts.Call c ≡ nexts.Nothing = sym is ∙ nothing in cc

pub returns-in-Nothing-clause-gone : goal.returns-in-Nothing-clause-gone
returns-in-Nothing-clause-gone g c = λ is w stands. c.next_of.ensures.next w stands ∙ c.in-Nothing.is

pub returns-in-Step-clause-there : goal.returns-in-Step-clause-there
returns-in-Step-clause-there g c = λ is w stands. no_step _ (c.next_of.ensures.next w stands ∙ c.in-Step.is)

pub returns-in-Call-clause-there : goal.returns-in-Call-clause-there
returns-in-Call-clause-there g c = λ is w stands. no_call _ c.in-Call._is_commit (c.next_of.ensures.next w stands ∙ c.in-Call.is)
